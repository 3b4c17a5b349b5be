-- An unload can always complete. At a moment at which a filter is being detached and no callback runs, its teardown ends, or something of
-- the filter is left: then a move takes some of it away (`Loses`), and if that starts a callback, it ends, leaving no more than there
-- was. So the size of what is left says how often.
-- Here p is the program, m the moment, f the filter at an altitude, s the store, o an operation, n counts an element.
use Rattle.std.proofs.Common.{◌≡◌, ◌≢◌, ℕ, zero, suc, ◌+◌, ◌-◌, ◌<◌, ◌≤◌, Bool, true, false, List, [], ◌∷◌, ◌++◌}
use Rattle.std.proofs.Common.{length, Option, Some, None, ap, sym, subst, refl, ◌∙◌, arith, inl, inr, ◌⊎◌, sum_by}
use Rattle.std.specs.Prelude.{not, ◌&&◌, ◌||◌, ◌==◌, if◌then◌else◌, find, position, option_and_then}
use Rattle.std.specs.List.{list_all, position_or_len}
use Rattle.std.proofs.Math.ListN.{get_or}
use Rattle.std.proofs.lemmas.Bool.{and_from, and_parts, cases_eq, eqb-true, eq-eqb, lt-ltb, or_right}
use Rattle.std.proofs.lemmas.List.{get_or-set_same, length-set}
use Rattle.std.proofs.lemmas.List.Folds.{list_all-append}
use Rattle.std.proofs.lemmas.List.Quantifiers.{position-Some}
use Rattle.std.proofs.lemmas.List.Sums.{sum_by-cons, sum_by-set}
use Rattle.flt_rules.specs.declared.place.Place.TheVariants as place
use Rattle.flt_rules.specs.declared.place.Stage.TheVariants as stage
use Rattle.flt_tree.specs.declared.filter.Filter.{Filter}
use Rattle.flt_model.specs.declared.moves.Key.{Key}
use Rattle.flt_model.specs.declared.moves.Key.TheVariants.{Stream, Instance}
use Rattle.flt_model.specs.declared.moves.Move.TheVariants as moves
use Rattle.flt_model.specs.Effects.{Step, after_unlink, freed_by_drop}
use Rattle.flt_model.specs.Moves.{post_of, drain_by, is_frame_of, other_frames, is_entry_of, other_entries}
use Rattle.flt_model.specs.Moves.{canceled_by, work_of, work_by, unlink_by, is_drained, stores, starts}
use Rattle.flt_model.specs.Program.{filter_of, callbacks_at, body_for, is_canceled}
use Rattle.flt_model.specs.Runs.{Moment, run_from, after, next}
use Rattle.flt_model.specs.Steps.{Transition, Make, Local, Board}
use Rattle.flt_model.specs.World as world
use Rattle.flt_model.specs.declared.parts.Entry.{Entry}
use Rattle.flt_model.specs.declared.parts.Item.{Item}
use Rattle.flt_model.specs.declared.parts.Link.{Link}
use Rattle.flt_model.specs.declared.parts.Presence.{Presence}
use Rattle.flt_model.specs.declared.parts.Presence.TheVariants.{Attached, Detaching, Detached}
use Rattle.flt_model.specs.World.{World, Store, Frame, Route, Visit}
use Rattle.flt_model.specs.World.{no_route, no_context, activation_at, presence_at, queue_at, item_at, route_at}
use Rattle.flt_model.specs.World.{visit_at, context_at, linked_at, is_attached, is_detaching, is_linked_to, same_key}
use Rattle.flt_model.specs.World.{with_route, with_queue, with_presence, with_link, drop_reference}
use Rattle.flt_sound.specs.Progress.{AreOrderly, is_own_step, is_unloading, CanUnload, FiltersCanUnload}
use Rattle.flt_model.specs.Trace.{one_if}
use Rattle.flt_sound.proofs.sums.Counts.{one_if-same, one_if-other}
use Rattle.flt_sound.proofs.sums.Differences.{others_sum}
use Rattle.flt_sound.proofs.sums.Eaches.{within}
use Rattle.flt_sound.proofs.points.Kept.{Kept}
use Rattle.flt_sound.proofs.points.Placed.{Laws}
use Rattle.flt_sound.proofs.rest.Parts.{frame_is, frames_in, item_is, link_is, linked_is, frames_of}
use Rattle.flt_sound.proofs.rest.Parts.{items_of, links_of, drained_by, other_counts}
use Rattle.flt_sound.proofs.rest.Gone.{Rests, rests_after, rests_on}
use Rattle.flt_sound.proofs.progress.Waiting.{accepted_of}
use Rattle.flt_sound.proofs.progress.Dwindling.{open_in, open_of, push_open, entries_of, size, Dwindles}
use Rattle.flt_sound.proofs.progress.Finishing.{Spending, EndsCalmly, can_end, left}

-- ---- finding what is counted

-- 1 or more of a number that isn't 0
some_count : (n : ℕ) → n ≢ 0 → 1 ≤ n
some_count zero h = absurd (h refl)
some_count (suc n) h = omega arith

-- where all together count, one does
counted_at : {X : Type 0} (n : X → ℕ) (xs : List X) (d : X) → 1 ≤ sum_by n xs → (i : ℕ) × (i < length xs) × (1 ≤ n (get_or xs i d))
counted_at n [] d h = absurd (omega (arith, h))
counted_at n (x ∷ xs) d h = by (n x) refl (λ k. counted_at n xs d k)
  where
    by : (k : ℕ) → n x ≡ k → (1 ≤ sum_by n xs → (i : ℕ) × (i < length xs) × (1 ≤ n (get_or xs i d))) →
        (i : ℕ) × (i < length (x ∷ xs)) × (1 ≤ n (get_or (x ∷ xs) i d))
    by zero e later = let r = later (omega (arith, h, sum_by-cons n x xs, e)) in (suc r.0, omega (arith, r.1), r.2)
    by (suc k) e later = (zero, omega arith, omega (arith, e))

-- where all together count, one that passes is found
counted_found : {X : Type 0} (n : X → ℕ) (test : X → Bool) → ((x : X) → test x ≡ false → n x ≡ 0) → (xs : List X) → 1 ≤ sum_by n xs →
    (x : X) × (find test xs ≡ Some x) × (test x ≡ true)
counted_found n test none [] h = absurd (omega (arith, h))
counted_found n test none (x ∷ xs) h = by (test x) refl (λ k. counted_found n test none xs k)
  where
    by : (b : Bool) → test x ≡ b → (1 ≤ sum_by n xs → (y : _) × (find test xs ≡ Some y) × (test y ≡ true)) →
        (y : _) × ((if b then Some x else find test xs) ≡ Some y) × (test y ≡ true)
    by true e later = (x, refl, e)
    by false e later = later (omega (arith, h, sum_by-cons n x xs, none x e))

-- where one passes, a place is found
place_below : {X : Type 0} (test : X → Bool) (xs : List X) (i : ℕ) (d : X) → i < length xs → test (get_or xs i d) ≡ true →
    position_or_len test xs < length xs
place_below test [] i d there h = absurd (omega (arith, there))
place_below test (x ∷ xs) zero d there h = rw h (omega arith)
place_below test (x ∷ xs) (suc i) d there h = by (test x) (place_below test xs i d (omega (arith, there)) h)
  where
    by : (b : Bool) → position_or_len test xs < length xs → (if not b then 1 + position_or_len test xs else 0) < length (x ∷ xs)
    by true k = omega arith
    by false k = omega (arith, k)

place_found : {X : Type 0} (test : X → Bool) (xs : List X) (i : ℕ) (d : X) → i < length xs → test (get_or xs i d) ≡ true →
    position test xs ≡ Some (position_or_len test xs)
place_found test xs i d there h = rw (lt-ltb (position_or_len test xs) (length xs) (place_below test xs i d there h)) refl

-- ---- a step that takes something away

module _ (p : List Filter) (m : Moment) (altitude : ℕ) where
  abbrev f : ℕ
  f = filter_of p altitude

  abbrev s : Store
  s = m.world.store

  -- a move of the teardown takes away some of what is left of the filter
  pub record Loses : Type 0 where
    pub transition : Transition
    pub unloading : is_unloading altitude transition ≡ true
    pub step : Step
    pub is : next p m transition ≡ Some step
    pub presences : step.world.store.presences ≡ s.presences
    pub less : size f step.world.store + 1 ≤ size f s

  -- a step where a test holds
  where_true : (b : Bool) (o : Option Step) (x : Step) → b ≡ true → o ≡ Some x → (if b then o else None) ≡ Some x
  where_true true o x h e = e
  where_true false o x h e = absurd (cc)

  same_self : (altitude == altitude) ≡ true
  same_self = eq-eqb altitude altitude refl

  module _ (k : Kept p m) (detaching : is_detaching (presence_at s f) ≡ true) where
    -- a frame is drained
    loses_frame : (o : ℕ) → o < length s.routes → (frame : Frame) → find (is_frame_of f) (route_at s o).frames ≡ Some frame →
        is_frame_of f frame ≡ true → Loses
    loses_frame o there frame found passes =
        let r : Route = record (route_at s o) { frames = other_frames f (route_at s o).frames } in
        let visit : Visit = record { operation = o; filter = frame.filter; stage = stage.Post; draining = true } in
        let one : frame_is f frame ≡ 1 =
        ap (λ g. frame_is f (record frame { filter = g })) (eqb-true frame.filter f passes) ∙ one_if-same f in
        let frames = others_sum (frame_is f) (is_frame_of f) (route_at s o).frames frame found in
        let all = sum_by-set (frames_in f) s.routes o r no_route there in
        let visits : open_in f (s.visits ++ visit ∷ []) (s.settled ++ false ∷ []) ≡ open_of f s + 0 =
        push_open f s.visits s.settled visit k.settled_long in
        record {
          transition = Make (moves.Drain altitude o);
          unloading = same_self;
          step = post_of p m.world o frame true r;
          is = where_true (is_detaching (presence_at s f)) _ _ detaching (ap (drain_by p m.world f o) found);
          presences = refl;
          less = omega (arith, frames, one, all, visits);
        }

    -- an entry is canceled
    loses_entry : (e : Entry) (queue : List Entry) → queue_at s f ≡ e ∷ queue → Loses
    loses_entry e queue is =
        let o = (visit_at s e.visit).operation in
        let passes : is_entry_of s o e ≡ true = eq-eqb o o refl in
        let found : find (is_entry_of s o) (queue_at s f) ≡ Some e = rw is (rw passes refl) in
        let there : f < length s.queues =
        within s.queues f [] (λ d. let bad : [] ≡ e ∷ queue = sym d ∙ is in absurd (cc)) in
        let others = other_entries s o (queue_at s f) in
        let now : entries_of f (with_queue s f others) ≡ sum_by (λ (e : Entry). 1) others =
        ap (λ q. sum_by (λ (e : Entry). 1) q) (get_or-set_same s.queues f others [] there) in
        let sum = others_sum (λ (e : Entry). 1) (is_entry_of s o) (queue_at s f) e found in
        record {
          transition = Make (moves.Canceled altitude o);
          unloading = same_self;
          step = starts m.world (with_queue s f others) (record { filter = f; place = place.Canceled; draining = false })
              (body_for is_canceled (callbacks_at p f)) (Some e.visit) e.context;
          is = where_true ((route_at s o).cancelled || is_detaching (presence_at s f)) _ _ (or_right _ _ detaching)
              (ap (canceled_by p m.world f o) found);
          presences = refl;
          less = omega (arith, now, sum);
        }

    -- a work item starts
    loses_item : (i : ℕ) → i < length s.items → (item : Item) → item_at s i ≡ Some item → 1 ≤ item_is f (Some item) → Loses
    loses_item i there item is one =
        let all = rw is at (sum_by-set (item_is f) s.items i None None there) in
        record {
          transition = Make (moves.Work i);
          unloading = refl;
          step = work_of p m.world i item;
          is = ap (work_by p m.world i) is;
          presences = refl;
          less = omega (arith, all, one);
        }

    -- a link goes
    loses_link : (key : Key) (y : ℕ) → linked_at s (record { filter = f; key = key }) ≡ Some y → Loses
    loses_link key y found =
        let l : Link = record { filter = f; key = key } in
        let place = position-Some (λ (c : world.Context). is_linked_to l c.link) s.contexts y no_context found in
        let one : linked_is f (context_at s y) ≡ 1 = linked_one (context_at s y).link place.1 in
        let first = sum_by-set (linked_is f) s.contexts y (record (context_at s y) { link = None }) no_context place.0 in
        let mid = with_link s y None in
        let second = sum_by-set (linked_is f) mid.contexts y (record (context_at mid y) { references = (context_at mid y).references - 1 })
        no_context (omega (arith, place.0, length-set s.contexts y (record (context_at s y) { link = None }))) in
        record {
          transition = Make (moves.Unlink altitude key);
          unloading = same_self;
          step = stores m.world (after_unlink s y None) (freed_by_drop s y);
          is = where_true (is_detaching (presence_at s f)) _ _ detaching (ap (unlink_by m.world) found);
          presences = refl;
          less = omega (arith, one, first, second);
        }
      where
        linked_one : (o : Option Link) → is_linked_to (record { filter = f; key = key }) o ≡ true → link_is f o ≡ 1
        linked_one None e = absurd (cc)
        linked_one (Some j) e =
            let same = eqb-true f j.filter (and_parts _ _ e).0 in
            ap (λ g. link_is f (Some (record j { filter = g }))) (sym same) ∙ one_if-same f

    -- ---- something is left

    frame_left : 1 ≤ frames_of f s → Loses
    frame_left h =
        let r = counted_at (frames_in f) s.routes no_route h in
        let x = counted_found (frame_is f) (is_frame_of f) (λ frame e. other_counts frame.filter f e) (route_at s r.0).frames r.2 in
        loses_frame r.0 r.1 x.0 x.1 x.2

    item_left : 1 ≤ items_of f s → Loses
    item_left h = let r = counted_at (item_is f) s.items None h in by (item_at s r.0) r.0 refl r.1 r.2
      where
        by : (x : Option Item) → (i : ℕ) → item_at s i ≡ x → i < length s.items → 1 ≤ item_is f x → Loses
        by None i e there h = absurd (omega (arith, h))
        by (Some item) i e there h = loses_item i there item e h

    same_keys : (key : Key) → same_key key key ≡ true
    same_keys (Stream x) = eq-eqb x x refl
    same_keys Instance = refl

    link_left : 1 ≤ links_of f s → Loses
    link_left h = let r = counted_at (linked_is f) s.contexts no_context h in by (context_at s r.0).link refl r.2
      where
        x : ℕ
        x = (counted_at (linked_is f) s.contexts no_context h).0

        by : (o : Option Link) → (context_at s x).link ≡ o → 1 ≤ link_is f o → Loses
        by None e k = absurd (omega (arith, k))
        by (Some j) e k =
            let l : Link = record { filter = f; key = j.key } in
            let own : (f == j.filter) ≡ true = own_link j.filter k in
            let passes : is_linked_to l (context_at s x).link ≡ true =
            ap (is_linked_to l) e ∙ and_from (f == j.filter) (same_key j.key j.key) own (same_keys j.key) in
            loses_link j.key (position_or_len (λ (c : world.Context). is_linked_to l c.link) s.contexts)
            (place_found (λ (c : world.Context). is_linked_to l c.link) s.contexts x no_context
            (counted_at (linked_is f) s.contexts no_context h).1 passes)
          where
            own_link : (g : ℕ) → 1 ≤ one_if g f → (f == g) ≡ true
            own_link g k = elim (cases_eq g f) [
              | inl same ↦ eq-eqb f g (sym same)
              | inr ne ↦ absurd (omega (arith, k, one_if-other g f ne))
            ]

    -- the teardown ends, or something is taken away, where no callback runs
    pub drained_or : ((a : ℕ) → (activation_at m.world a).ended ≡ true) → (is_drained m.world f ≡ true) ⊎ Loses
    drained_or ended = elim (cases_eq (frames_of f s) 0) [
      | inr some ↦ inr (frame_left (some_count _ some))
      | inl frames ↦ elim (cases_eq (items_of f s) 0) [
        | inr some ↦ inr (item_left (some_count _ some))
        | inl items ↦ elim (cases_eq (links_of f s) 0) [
          | inr some ↦ inr (link_left (some_count _ some))
          | inl links ↦ by_queue (queue_at s f) refl frames items links
        ]
      ]
    ]
      where
        by_queue : (queue : List Entry) → queue_at s f ≡ queue → frames_of f s ≡ 0 → items_of f s ≡ 0 → links_of f s ≡ 0 →
            (is_drained m.world f ≡ true) ⊎ Loses
        by_queue [] e frames items links =
            inl (drained_by f m.world (record { frames = frames; queue = e; items = items; links = links; active = λ a h. ended a }))
        by_queue (x ∷ queue) e frames items links = inr (loses_entry x queue e)

-- ---- to the end

-- one list of transitions after another
pub runs_on : (p : List Filter) (m n last : Moment) (xs ys : List Transition) → run_from p m xs ≡ Some n → run_from p n ys ≡ Some last →
    run_from p m (xs ++ ys) ≡ Some last
runs_on p m n last [] ys e h = let same : m ≡ n = cc in subst (λ x. run_from p x ys ≡ Some last) (sym same) h
runs_on p m n last (x ∷ xs) ys e h = by (next p m x) e (λ s k. runs_on p (after m s) n last xs ys k h)
  where
    by : (o : Option Step) → option_and_then (λ s. run_from p (after m s) xs) o ≡ Some n →
        ((s : Step) → run_from p (after m s) xs ≡ Some n → run_from p (after m s) (xs ++ ys) ≡ Some last) →
        option_and_then (λ s. run_from p (after m s) (xs ++ ys)) o ≡ Some last
    by None e later = absurd (cc)
    by (Some s) e later = later s e

-- an activation's own step is one of an unload
own_unloading : (altitude : ℕ) (xs : List Transition) → list_all is_own_step xs ≡ true → list_all (is_unloading altitude) xs ≡ true
own_unloading altitude [] h = refl
own_unloading altitude (Make x ∷ xs) h = absurd (cc)
own_unloading altitude (Local a ∷ xs) h = own_unloading altitude xs h
own_unloading altitude (Board a grant ∷ xs) h = own_unloading altitude xs h

module _ (spending : Spending) (laws : Laws) (p : List Filter) (ok : AreOrderly p) (altitude : ℕ) where
  abbrev g : ℕ
  g = filter_of p altitude

  -- steps of an unload, and an unload after them
  goes_before : (m n : Moment) (xs : List Transition) → list_all (is_unloading altitude) xs ≡ true → run_from p m xs ≡ Some n →
      CanUnload p n altitude → CanUnload p m altitude
  goes_before m n xs own leads c = record {
    steps = xs ++ c.steps;
    unloading = list_all-append (is_unloading altitude) xs c.steps ∙ and_from _ _ own c.unloading;
    last = c.last;
    leads = runs_on p m n c.last xs c.steps leads c.leads;
    detached = c.detached;
  }

  -- one step of an unload, and an unload after it
  step_before : (m : Moment) (x : Transition) (s : Step) → is_unloading altitude x ≡ true → next p m x ≡ Some s →
      CanUnload p (after m s) altitude → CanUnload p m altitude
  step_before m x s own is c =
      goes_before m (after m s) (x ∷ []) (and_from _ _ own refl) (ap (λ o. option_and_then (λ s. Some (after m s)) o) is) c

  -- all callbacks end first
  ends_before : (m : Moment) → EndsCalmly p m g → ((n : Moment) → Rests p n → ((a : ℕ) → (activation_at n.world a).ended ≡ true) →
      Dwindles g m.world.store n.world.store → CanUnload p n altitude) → CanUnload p m altitude
  ends_before m e later =
      goes_before m e.last e.steps (own_unloading altitude e.steps e.own) e.leads (later e.last e.rests e.ended e.dwindles)

  detaching_off : (x : Presence) → is_detaching x ≡ true → is_attached x ≡ false
  detaching_off Attached h = absurd (cc)
  detaching_off Detaching h = refl
  detaching_off Detached h = refl

  -- the teardown ends
  last_step : (m : Moment) → is_detaching (presence_at m.world.store g) ≡ true → is_drained m.world g ≡ true → CanUnload p m altitude
  last_step m detaching drained =
      let there : g < length m.world.store.presences =
      within m.world.store.presences g Detached (λ d. let bad : false ≡ true = ap is_detaching (sym d) ∙ detaching in absurd (cc)) in
      let s = stores m.world (with_presence m.world.store g Detached) [] in
      step_before m (Make (moves.Detached altitude)) s (eq-eqb altitude altitude refl)
      (where_true p m altitude (is_detaching (presence_at m.world.store g) && is_drained m.world g) (Some s) s
      (and_from _ _ detaching drained) refl)
      (record {
        steps = [];
        unloading = refl;
        last = after m s;
        leads = refl;
        detached = get_or-set_same m.world.store.presences g Detached Detached there;
      })

  same_presence : (s t : Store) (test : Presence → Bool) (b : Bool) → t.presences ≡ s.presences → test (presence_at s g) ≡ b →
      test (presence_at t g) ≡ b
  same_presence s t test b e h = ap (λ l. test (get_or l g Detached)) e ∙ h

  -- what is left is taken away, until nothing is
  takes_away : (fuel : ℕ) (m : Moment) → Rests p m → is_detaching (presence_at m.world.store g) ≡ true →
      ((a : ℕ) → (activation_at m.world a).ended ≡ true) → size g m.world.store ≤ fuel → CanUnload p m altitude
  takes_away zero m r detaching ended h = elim (drained_or p m altitude r.kept detaching ended) [
    | inl drained ↦ last_step m detaching drained
    | inr l ↦ absurd (omega (arith, h, l.less))
  ]
  takes_away (suc fuel) m r detaching ended h = elim (drained_or p m altitude r.kept detaching ended) [
    | inl drained ↦ last_step m detaching drained
    | inr l ↦
        let later : is_detaching (presence_at l.step.world.store g) ≡ true =
        same_presence m.world.store l.step.world.store is_detaching true l.presences detaching in
        let rests = rests_on laws p (accepted_of p ok) m r l.transition l.step l.is in
        step_before m l.transition l.step l.unloading l.is
        (ends_before (after m l.step)
        (can_end spending p laws ok (left l.step.world) (after m l.step) g rests (detaching_off _ later) (omega arith))
        (λ n rests ended d. takes_away fuel n rests
        (same_presence l.step.world.store n.world.store is_detaching true d.presences later) ended (omega (arith, h, l.less, d.less))))
  ]

  -- once it has begun
  from_detaching : (m : Moment) → Rests p m → is_detaching (presence_at m.world.store g) ≡ true → CanUnload p m altitude
  from_detaching m r detaching =
      ends_before m (can_end spending p laws ok (left m.world) m g r (detaching_off _ detaching) (omega arith))
      (λ n rests ended d. takes_away (size g n.world.store) n rests
      (same_presence m.world.store n.world.store is_detaching true d.presences detaching) ended (omega arith))

  -- at each moment
  pub can_unload : (m : Moment) → Rests p m → CanUnload p m altitude
  can_unload m r = by (presence_at m.world.store g) refl
    where
      by : (x : Presence) → presence_at m.world.store g ≡ x → CanUnload p m altitude
      by Detached e = record { steps = []; unloading = refl; last = m; leads = refl; detached = e }
      by Detaching e = from_detaching m r (ap is_detaching e)
      by Attached e =
          let there : g < length m.world.store.presences =
          within m.world.store.presences g Detached (λ d. let bad : true ≡ false = ap is_attached (sym e ∙ d) in absurd (cc)) in
          let s = stores m.world (with_presence m.world.store g Detaching) [] in
          let is : next p m (Make (moves.Detach altitude)) ≡ Some s =
          where_true p m altitude (is_attached (presence_at m.world.store g)) (Some s) s (ap is_attached e) refl in
          step_before m (Make (moves.Detach altitude)) s (eq-eqb altitude altitude refl) is
          (from_detaching (after m s) (rests_on laws p (accepted_of p ok) m r (Make (moves.Detach altitude)) s is)
          (ap is_detaching (get_or-set_same m.world.store.presences g Detaching Detached there)))

-- an unload can always complete
pub filters_can_unload : Laws → Spending → FiltersCanUnload
filters_can_unload laws spending p xs m altitude ok e =
    can_unload spending laws p ok altitude m (rests_after laws p (accepted_of p ok) xs m e)
