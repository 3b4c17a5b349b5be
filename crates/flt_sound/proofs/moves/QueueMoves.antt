-- Moves that start a callback with what was handed over: the callback that takes canceled entries, and a work item's routine. Visit and
-- context leave the queue or the item and are the new activation's; that the callback is there the invariant says of each entry and
-- item.
-- p is the program, m the moment, k its invariant, s the store, a the new activation; f is a filter, o an operation, i an item's number,
-- c a callback, q a place, v a visit, y a context.
use Rattle.std.proofs.Common.{◌≡◌, ℕ, ◌<◌, Bool, true, false, List, [], length, Option}
use Rattle.std.proofs.Common.{Some, None, ap, sym, subst, refl, ◌∙◌, arith, inl, inr}
use Rattle.std.specs.Prelude.{◌||◌, find}
use Rattle.std.proofs.Math.ListN.{set, get_or}
use Rattle.std.proofs.lemmas.Bool.{cases_eq, cases_lt}
use Rattle.std.proofs.lemmas.List.{get_or_past, get_or-set_same, get_or-set_other, length-set}
use Rattle.std.proofs.lemmas.List.Sums.{sum_by-set}
use Rattle.flt_rules.specs.declared.place.Mode.TheVariants.{Irp}
use Rattle.flt_rules.specs.declared.place.Place.{Place}
use Rattle.flt_rules.specs.declared.place.Place.TheVariants as place
use Rattle.flt_tree.specs.Filter.{head_place}
use Rattle.flt_tree.specs.declared.filter.Filter.{Filter}
use Rattle.flt_model.specs.Moves.{is_entry_of, other_entries, canceled_by, canceled, work_by}
use Rattle.flt_model.specs.Program.{callbacks_at, is_canceled, body_of, body_at, place_at, place_for}
use Rattle.flt_model.specs.Runs.{Moment}
use Rattle.flt_model.specs.declared.parts.Entry.{Entry}
use Rattle.flt_model.specs.declared.parts.Item.{Item}
use Rattle.flt_model.specs.World.{Store, route_at, queue_at, item_at, presence_at, is_detaching, with_queue}
use Rattle.flt_model.specs.Violations.{in_queue, in_some}
use Rattle.flt_model.specs.declared.event.Object.TheVariants.{Context}
use Rattle.flt_sound.specs.Soundness.{AreAccepted}
use Rattle.flt_sound.proofs.sums.Eaches.{each_others, each_find}
use Rattle.flt_sound.proofs.sums.Differences.{item_pop, queue_others, others_sum, in_work}
use Rattle.flt_sound.proofs.sums.Ledger.{Ledger, moved}
use Rattle.flt_sound.proofs.points.Events.{none}
use Rattle.flt_sound.proofs.points.Growing.{grows_self}
use Rattle.flt_sound.proofs.points.Kept.{Kept, Good}
use Rattle.flt_sound.proofs.points.Local.{AfterStep}
use Rattle.flt_sound.proofs.points.Placed.{Laws}
use Rattle.flt_sound.proofs.calls.Stores.{queue_stored, items_stored, items_mine}
use Rattle.flt_sound.proofs.moves.Entering.{Enters, found, canceled_place}
use Rattle.flt_sound.proofs.moves.Starting.{Begins, Gives, entered_good}
use Rattle.flt_sound.proofs.moves.Gifts.{own_given, gifts, gifts-contexts, gifts-loses, gifts-frees}
use Rattle.flt_sound.proofs.moves.StoreMoves.{if_good}
use Rattle.flt_sound.proofs.points.Stored.{FitsQueue, IsItem, Given, is_routine}
use Rattle.flt_sound.proofs.sums.Belonging.{Belongs, BelongsItem}
use Rattle.flt_sound.proofs.sums.Standing.{leaves_queue}

-- what a list has at a place is within it
none_past : {X : Type 0} (xs : List (Option X)) (i : ℕ) (x : X) → get_or xs i None ≡ Some x → i < length xs
none_past xs i x e =
    elim (cases_lt i (length xs)) [
      | inl there ↦ there
      | inr past ↦ let bad : None ≡ Some x = sym (get_or_past xs i None past) ∙ e in absurd (cc)
    ]

-- a filter with an entry that is found has a queue
queue_there : (queues : List (List Entry)) (f : ℕ) (test : Entry → Bool) (e : Entry) → find test (get_or queues f []) ≡ Some e →
    f < length queues
queue_there queues f test e found =
    elim (cases_lt f (length queues)) [
      | inl there ↦ there
      | inr past ↦ let bad : None ≡ Some e = ap (λ q. find test q) (sym (get_or_past queues f [] past)) ∙ found in absurd (cc)
    ]

-- what holds of each item and of none holds where one is gone
item_gone : (P : Option Item → Type 0) (items : List (Option Item)) (i : ℕ) → P None → ((n : ℕ) → P (get_or items n None)) →
    (n : ℕ) → P (get_or (set items i None) n None)
item_gone P items i none h n =
    elim (cases_eq n i) [
      | inl same ↦ elim (cases_lt i (length items)) [
        | inl there ↦ rw (same, get_or-set_same items i None None there) none
        | inr past ↦ rw (get_or_past (set items i None) n None (omega (arith, length-set items i None, same))) none
      ]
      | inr ne ↦ rw (get_or-set_other items i n None None ne) (h n)
    ]

module _ (laws : Laws) (p : List Filter) (ok : AreAccepted p) (m : Moment) (k : Kept p m) where
  abbrev s : Store
  s = m.world.store

  -- the number of the new activation
  abbrev a : ℕ
  a = length m.world.activations

  -- ---- the callback that takes canceled entries

  -- the queue without the entry
  abbrev others : ℕ → ℕ → List Entry
  others f o = other_entries s o (queue_at s f)

  -- the entry's visit is given to the new activation
  begins_entry : (f o : ℕ) (entry : Entry) → find (is_entry_of s o) (queue_at s f) ≡ Some entry →
      Begins p m k (with_queue s f (others f o)) (Some entry.visit)
  begins_entry f o entry e = record {
    owners = λ v. omega (
      arith,
      sum_by-set (in_queue v) s.queues f (others f o) [] (queue_there s.queues f (is_entry_of s o) entry e),
      queue_others v (is_entry_of s o) (queue_at s f) entry e,
    );
    once = λ v. refl;
    long = k.settled_long;
    seats = length-set s.queues f (others f o) ∙ k.seats;
  }

  -- and its context
  entry_ledger : (f o : ℕ) (entry : Entry) → find (is_entry_of s o) (queue_at s f) ≡ Some entry →
      Ledger a s (with_queue s f (others f o)) (gifts a (Some entry.visit) entry.context)
  entry_ledger f o entry e =
      let gift = Some entry.visit in
      leaves_queue a s k.mine f entry (others f o) (gifts a gift entry.context) (queue_there s.queues f (is_entry_of s o) entry e)
      (λ y. others_sum (λ (e : Entry). in_some y e.context) (is_entry_of s o) (queue_at s f) entry e)
      (each_others (λ (e : Entry). Belongs s.contexts f e.context) (is_entry_of s o) (queue_at s f) (k.mine.entries f))
      (gifts-contexts a gift entry.context) (λ y. gifts-loses a gift entry.context a (Context y)) (gifts-frees a gift entry.context)

  canceled_by_good : (f o : ℕ) (x : Option Entry) → find (is_entry_of s o) (queue_at s f) ≡ x →
      AfterStep (canceled_by p m.world f o x) (Good p m)
  canceled_by_good f o None e = tt
  canceled_by_good f o (Some entry) e =
      let fits = each_find (FitsQueue s.visits s.arrivals p f) (is_entry_of s o) (queue_at s f) entry (k.stored.entries f) e in
      let c = found is_canceled (callbacks_at p f) fits.served in
      let store = with_queue s f (others f o) in
      let gives : Gives p m k store f place.Canceled Irp (Some entry.visit) entry.context = record {
        grows = grows_self s.visits s.arrivals;
        stored = (queue_stored p s f (others f o) k.stored
            (each_others (FitsQueue s.visits s.arrivals p f) (is_entry_of s o) (queue_at s f) (k.stored.entries f))).stored;
        given = fits.given;
        begins = begins_entry f o entry e;
        ledger = entry_ledger f o entry e;
        belongs = each_find (λ (e : Entry). Belongs s.contexts f e.context) (is_entry_of s o) (queue_at s f) entry (k.mine.entries f) e;
      } in
      rw c.body_is
      (entered_good laws p ok m k store f place.Canceled false (Some entry.visit) entry.context Irp c.number c.callback c.there
      (canceled_place c.callback.head c.passes) (refl, refl) gives)

  -- taking out an entry of an operation that is cancelled, or of a filter that is being detached, is good
  pub canceled_good : (f o : ℕ) → AfterStep (canceled p m.world f o) (Good p m)
  canceled_good f o =
      if_good p m k ((route_at s o).cancelled || is_detaching (presence_at s f)) _
      (canceled_by_good f o (find (is_entry_of s o) (queue_at s f)) refl)

  -- ---- work items

  -- the store without the item
  abbrev without : ℕ → Store
  without i = record s { items = set s.items i None }

  -- the item's visit is given to the new activation
  begins_item : (i : ℕ) (item : Item) → item_at s i ≡ Some item → Begins p m k (without i) item.visit
  begins_item i item e = record {
    owners = λ v. omega (arith, item_pop v s.items i item (none_past s.items i item e) e, own_given v item.visit);
    once = λ v. refl;
    long = k.settled_long;
    seats = k.seats;
  }

  -- and its context
  item_ledger : (i : ℕ) (item : Item) → item_at s i ≡ Some item → Ledger a s (without i) (gifts a item.visit item.context)
  item_ledger i item e =
      let mine = items_mine s (set s.items i None) k.mine (item_gone (BelongsItem s.contexts) s.items i tt k.mine.items) in
      moved a s (without i) (gifts a item.visit item.context) refl mine
      (λ y. let r = rw e at (sum_by-set (in_work y) s.items i None None (none_past s.items i item e)) in
      omega (arith, r, gifts-contexts a item.visit item.context y, gifts-loses a item.visit item.context a (Context y)))
      (gifts-frees a item.visit item.context)

  -- a work item's routine is entered with what the item was given
  work_enters : (f : ℕ) (q : Place) (gift arg : Option ℕ) → is_routine q ≡ true → Given s.visits s.arrivals f Irp q gift →
      Enters q Irp false gift arg
  work_enters f (place.Pre kind) gift arg h g = absurd (cc)
  work_enters f (place.Post kind) gift arg h g = absurd (cc)
  work_enters f place.Canceled gift arg h g = absurd (cc)
  work_enters f place.DeferredPre None arg h g = absurd g
  work_enters f place.DeferredPre (Some v) arg h g = (refl, refl)
  work_enters f place.DeferredPost None arg h g = absurd g
  work_enters f place.DeferredPost (Some v) arg h g = (refl, refl)
  work_enters f place.Generic None arg h g = (refl, refl)
  work_enters f place.Generic (Some v) arg h g = absurd g

  work_by_good : (i : ℕ) (x : Option Item) → item_at s i ≡ x → AfterStep (work_by p m.world i x) (Good p m)
  work_by_good i None e = tt
  work_by_good i (Some item) e =
      let fits = subst (λ x. IsItem s.visits s.arrivals p x) e (k.stored.items i) in
      let cs = callbacks_at p item.filter in
      let q = place_at cs item.routine in
      let body : body_at cs item.routine ≡ fits.callback.body = ap body_of fits.there in
      let same : place_at cs item.routine ≡ head_place fits.callback.head = ap place_for fits.there in
      let gives : Gives p m k (without i) item.filter q Irp item.visit item.context = record {
        grows = grows_self s.visits s.arrivals;
        stored = (items_stored p s (set s.items i None) k.stored
            (item_gone (IsItem s.visits s.arrivals p) s.items i tt k.stored.items)).stored;
        given = fits.given;
        begins = begins_item i item e;
        ledger = item_ledger i item e;
        belongs = subst (λ x. BelongsItem s.contexts x) e (k.mine.items i);
      } in
      rw body
      (entered_good laws p ok m k (without i) item.filter q false item.visit item.context Irp item.routine fits.callback fits.there same
      (work_enters item.filter q item.visit item.context fits.is_work fits.given) gives)

  -- taking a work item is good
  pub work_good : (i : ℕ) → AfterStep (work_by p m.world i (item_at s i)) (Good p m)
  work_good i = work_by_good i (item_at s i) refl
