-- Moves that change the store alone: an operation arrives, goes on or is cancelled, a filter's detachment begins or ends, a link of it
-- goes. No visit, entry, item or frame is touched, so what stands in them fits as before.
-- p is the program, m the moment, k its invariant, s the store; o is an operation, f a filter, r a route, x a context.
use Rattle.std.proofs.Common.{◌≡◌, ℕ, ◌+◌, Bool, true, false, List, [], ◌∷◌, length, Option}
use Rattle.std.proofs.Common.{Some, None, ap, sym, refl, ◌∙◌, arith, inl, inr, sum_by}
use Rattle.std.specs.Prelude.{not, ◌&&◌, ◌||◌, if◌then◌else◌, nat_lt}
use Rattle.std.proofs.Math.ListN.{set}
use Rattle.std.proofs.Math.Seq.{get_or-append_seam}
use Rattle.std.proofs.lemmas.Bool.{cases_eq, cases_lt}
use Rattle.std.proofs.lemmas.List.{length-append, set_past}
use Rattle.std.proofs.lemmas.List.Sums.{sum_by-set, sum_by_push}
use Rattle.std.proofs.lemmas.List.Quantifiers.{position-Some}
use Rattle.flt_rules.specs.Place.{fits_mode}
use Rattle.flt_rules.specs.declared.place.Mode.{Mode}
use Rattle.flt_rules.specs.declared.place.Operation.{Operation}
use Rattle.flt_tree.specs.declared.filter.Filter.{Filter}
use Rattle.flt_model.specs.declared.moves.Key.{Key}
use Rattle.flt_model.specs.Effects.{Step, freed_by_drop, after_unlink}
use Rattle.flt_model.specs.Moves.{with_arrival, arrive, calls_pre, skip_at, carried_out, lower_at}
use Rattle.flt_model.specs.Moves.{is_done, cancel, detach, unlink_by, unlink, is_drained, detached, stores}
use Rattle.flt_model.specs.Runs.{Moment}
use Rattle.flt_model.specs.World as world
use Rattle.flt_model.specs.declared.parts.Presence.{Presence}
use Rattle.flt_model.specs.declared.parts.Presence.TheVariants.{Detaching, Detached}
use Rattle.flt_model.specs.declared.parts.Arrival.{Arrival}
use Rattle.flt_model.specs.declared.parts.Entry.{Entry}
use Rattle.flt_model.specs.declared.parts.Item.{Item}
use Rattle.flt_model.specs.declared.parts.Position.{Position}
use Rattle.flt_model.specs.declared.parts.Position.TheVariants.{Down, Visiting, Up}
use Rattle.flt_model.specs.World.{World, Store, Frame, Route, no_route, no_visit}
use Rattle.flt_model.specs.World.{no_arrival, arrival_at, route_at, queue_at, item_at, presence_at, is_detaching, is_attached, linked_at}
use Rattle.flt_model.specs.declared.parts.Link.{Link}
use Rattle.flt_model.specs.World.{with_route, with_queue, with_presence, context_at, no_context, is_linked_to}
use Rattle.flt_sound.proofs.sums.Counts.{counts}
use Rattle.flt_sound.proofs.sums.Differences.{in_frame, in_route}
use Rattle.flt_sound.proofs.sums.Ledger.{Ledger, still, moved}
use Rattle.flt_sound.proofs.points.Events.{none, dropped}
use Rattle.flt_sound.proofs.points.Growing.{grows_self, grows_arrival, queue_grows, item_grows, before_grows}
use Rattle.flt_sound.proofs.points.Kept.{StoreChange, Kept, Good, linked_refs}
use Rattle.flt_sound.proofs.points.Local.{AfterStep}
use Rattle.flt_sound.proofs.ends.Settling.{route_parts}
use Rattle.flt_sound.proofs.moves.Starting.{stores_good, get_or-other}
use Rattle.flt_sound.proofs.points.Stored.{Stored}
use Rattle.flt_sound.proofs.sums.Belonging.{Mine}
use Rattle.flt_sound.proofs.sums.Handovers.{gains-dropped, loses-dropped, settles-dropped}
use Rattle.flt_sound.proofs.sums.References.{drops_link}
use Rattle.flt_sound.proofs.sums.Standing.{route_mine}
use Rattle.flt_sound.proofs.sums.Touching.{drop_clean, Touch}

-- the route of an operation that arrives
abbrev pub new_route : Route
new_route = record { position = Down 0; frames = []; cancelled = false; outcome = None }

module _ (p : List Filter) (m : Moment) (k : Kept p m) where
  abbrev s : Store
  s = m.world.store

  -- ---- steps that there are where a test holds

  -- a step where a test holds is good, if it is good there
  pub cond_good : (b : Bool) (x : Step) → Good p m x → AfterStep (if b then Some x else None) (Good p m)
  cond_good true x h = h
  cond_good false x h = tt

  -- a step where a test doesn't hold is good, if it is good
  unless_good : (b : Bool) (x : Step) → Good p m x → AfterStep (if b then None else Some x) (Good p m)
  unless_good true x h = tt
  unless_good false x h = h

  -- a step where two tests hold is good, if it is good there
  pub both_good : (a b : Bool) (x : Step) → (a ≡ true → b ≡ true → Good p m x) → AfterStep (if a && b then Some x else None) (Good p m)
  both_good true true x h = h refl refl
  both_good true false x h = tt
  both_good false b x h = tt

  -- an optional step where a test holds is good, if it is good
  pub if_good : (b : Bool) (x : Option Step) → AfterStep x (Good p m) → AfterStep (if b then x else None) (Good p m)
  if_good true x h = h
  if_good false x h = tt

  -- ---- a change of the store without events

  change_good : (new : Store) → StoreChange p s new → new.queues ≡ s.queues → new.items ≡ s.items → new.settled ≡ s.settled →
      Ledger 0 s new [] →
      Good p m (stores m.world new [])
  change_good new c q i t l =
      stores_good p m k new 0 [] (rw (c.visits, c.arrivals) (grows_self s.visits s.arrivals)) c.stored (none m.trace)
      (λ b o. simp counts) (λ b o. simp counts) (λ v. simp counts) (record { visits = c.visits; queues = q; items = i; settled = t }) l tt

  -- ---- an operation goes on: another route with the same frames

  -- frames have the references that they had
  route_ledger : (o : ℕ) (r : Route) → r.frames ≡ (route_at s o).frames → Ledger 0 s (with_route s o r) []
  route_ledger o r e = moved 0 s (with_route s o r) [] refl (route_mine 0 s k.mine o r (rw e (k.mine.frames o)))
      (λ y. simp counts (omega (arith, same y))) (λ y. simp counts)
    where
      same : (y : ℕ) → sum_by (in_route y) (set s.routes o r) ≡ sum_by (in_route y) s.routes
      same y = elim (cases_lt o (length s.routes)) [
        | inl there ↦
            let one : in_route y r ≡ in_route y (route_at s o) = ap (λ l. sum_by (in_frame y) l) e in
            omega (arith, sum_by-set (in_route y) s.routes o r no_route there, one)
        | inr past ↦ rw (set_past s.routes o r past) refl
      ]

  route_good : (o : ℕ) (r : Route) → r.frames ≡ (route_at s o).frames → Good p m (stores m.world (with_route s o r) [])
  route_good o r e = change_good (with_route s o r) (route_parts p s o r k.stored (rw e (k.stored.frames o))) refl refl refl
      (route_ledger o r e)

  -- an operation's way past a filter without a pre callback for it is good
  pub skip_good : (o : ℕ) (kind : Operation) (q : Position) → AfterStep (skip_at p m.world o kind q) (Good p m)
  skip_good o kind (Down f) =
      cond_good (nat_lt f (length p) && not (calls_pre p s f kind)) _
      (route_good o (record (route_at s o) { position = Down (f + 1) }) refl)
  skip_good o kind Visiting = tt
  skip_good o kind Up = tt

  -- carrying an operation out below the last filter is good
  pub lower_good : (o : ℕ) (q : Position) → AfterStep (lower_at p m.world o q) (Good p m)
  lower_good o (Down f) = unless_good (nat_lt f (length p)) _ (route_good o (carried_out (route_at s o)) refl)
  lower_good o Visiting = tt
  lower_good o Up = tt

  -- cancelling an operation is good
  pub cancel_good : (o : ℕ) → AfterStep (cancel m.world o) (Good p m)
  cancel_good o = unless_good (is_done s o || (route_at s o).cancelled) _ (route_good o (record (route_at s o) { cancelled = true }) refl)

  -- ---- a filter's presence

  presence_good : (f : ℕ) (x : Presence) → Good p m (stores m.world (with_presence s f x) [])
  presence_good f x =
      let new = with_presence s f x in
      let old = k.stored in
      let stored : Stored p new =
      record { entries = old.entries; items = old.items; frames = old.frames; modes = old.modes; paths = old.paths; before = old.before } in
      change_good new (record { visits = refl; arrivals = refl; stored = stored }) refl refl refl
      (still 0 s new [] k.mine refl refl refl refl (λ y. simp counts) (λ y. simp counts))

  -- the beginning of a filter's detachment is good
  pub detach_good : (f : ℕ) → AfterStep (detach m.world f) (Good p m)
  detach_good f = cond_good (is_attached (presence_at s f)) _ (presence_good f Detaching)

  -- the end of a filter's detachment is good
  pub detached_good : (f : ℕ) → AfterStep (detached m.world f) (Good p m)
  detached_good f = cond_good (is_detaching (presence_at s f) && is_drained m.world f) _ (presence_good f Detached)

  -- ---- one more operation

  -- the store keeps its invariants with one more operation
  arrival_stored : (x : Arrival) → fits_mode x.kind x.mode ≡ true → Stored p (with_arrival s x)
  arrival_stored x h =
      let g = grows_arrival s.visits s.arrivals x in
      record {
        entries = λ f. queue_grows g p f (queue_at s f) (k.stored.entries f);
        items = λ i. item_grows g p (item_at s i) (k.stored.items i);
        frames = λ o. elim (cases_eq o (length s.routes)) [
          | inl e ↦ rw (e, get_or-append_seam s.routes new_route [] no_route) tt
          | inr ne ↦ rw (
            get_or-other s.routes new_route no_route o ne,
            get_or-other s.arrivals x no_arrival o (λ e. ne (e ∙ sym k.stored.paths)),
          ) (k.stored.frames o)
        ];
        modes = λ o. elim (cases_eq o (length s.arrivals)) [
          | inl e ↦ rw (e, get_or-append_seam s.arrivals x [] no_arrival) h
          | inr ne ↦ rw (get_or-other s.arrivals x no_arrival o ne) (k.stored.modes o)
        ];
        paths = omega (arith, length-append s.routes (new_route ∷ []), length-append s.arrivals (x ∷ []), k.stored.paths);
        before = λ v there e. before_grows g p k.stored.before v there e;
      }

  -- it has no frame, so no reference
  arrival_ledger : (x : Arrival) → Ledger 0 s (with_arrival s x) []
  arrival_ledger x =
      let mine : Mine (with_arrival s x) = record {
        entries = k.mine.entries;
        frames = λ o. elim (cases_eq o (length s.routes)) [
          | inl e ↦ rw (e, get_or-append_seam s.routes new_route [] no_route) tt
          | inr ne ↦ rw (get_or-other s.routes new_route no_route o ne) (k.mine.frames o)
        ];
        items = k.mine.items;
        links = k.mine.links;
      } in
      moved 0 s (with_arrival s x) [] refl mine (λ y. simp counts (omega (arith, sum_by_push (in_route y) s.routes new_route)))
      (λ y. simp counts)

  -- the arrival of an operation is good
  pub arrive_good : (kind : Operation) (mode : Mode) (file : ℕ) → AfterStep (arrive m.world kind mode file) (Good p m)
  arrive_good kind mode file = both_good (fits_mode kind mode) (nat_lt file 1024) _ (λ fits small.
      let x : Arrival = record { kind = kind; mode = mode; file = file } in
      stores_good p m k (with_arrival s x) 0 [] (grows_arrival s.visits s.arrivals x) (arrival_stored x fits) (none m.trace)
      (λ b o. simp counts) (λ b o. simp counts) (λ v. simp counts)
      (record { visits = refl; queues = refl; items = refl; settled = refl }) (arrival_ledger x) tt)

  -- ---- a link goes, and its reference is dropped

  -- a link that is found has its context
  link_there : (l : Link) (y : ℕ) → linked_at s l ≡ Some y → (j : Link) × ((context_at s y).link ≡ Some j)
  link_there l y e = by (context_at s y).link (position-Some (λ (c : world.Context). is_linked_to l c.link) s.contexts y no_context e).1
    where
      by : (o : Option Link) → is_linked_to l o ≡ true → (j : Link) × (o ≡ Some j)
      by None e = absurd (cc)
      by (Some j) e = (j, refl)

  unlink_by_good : (x : Option ℕ) → ((y : ℕ) → x ≡ Some y → (l : Link) × ((context_at s y).link ≡ Some l)) →
      AfterStep (unlink_by m.world x) (Good p m)
  unlink_by_good None h = tt
  unlink_by_good (Some x) h =
      let new = after_unlink s x None in
      let l = h x refl in
      let old = k.stored in
      let stored : Stored p new =
      record { entries = old.entries; items = old.items; frames = old.frames; modes = old.modes; paths = old.paths; before = old.before } in
      stores_good p m k new 0 (freed_by_drop s x) (grows_self s.visits s.arrivals) stored (dropped m.trace s x)
      (λ b o. gains-dropped s x b o) (λ b o. loses-dropped s x b o) (λ v. settles-dropped s x v)
      (record { visits = refl; queues = refl; items = refl; settled = refl })
      (drops_link 0 s k.mine x l.0 (linked_refs k x l.0 l.1) l.1) (drop_clean (Touch (record m.world { store = new }) m.trace) s x)

  -- removing a link of a filter that is being detached is good
  pub unlink_good : (f : ℕ) (key : Key) → AfterStep (unlink m.world f key) (Good p m)
  unlink_good f key =
      let l : Link = record { filter = f; key = key } in
      if_good (is_detaching (presence_at s f)) _ (unlink_by_good (linked_at s l) (λ y e. link_there l y e))
