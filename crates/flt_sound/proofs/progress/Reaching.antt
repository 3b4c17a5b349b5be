-- All can come to rest, and so all operations to their ends. All filters are unloaded, one after the other; then nothing of them is left:
-- no filter keeps an operation and none is owed a post callback, and each operation passes all filters and is carried out.
-- Here p is the program, m, n are moments, f, g are filters, o, q are operations, Q says something of a moment.
use Rattle.std.proofs.Common.{◌≡◌, ◌≢◌, ℕ, zero, suc, ◌+◌, ◌<◌, ◌≤◌, Bool, true, false, List, [], ◌∷◌}
use Rattle.std.proofs.Common.{◌++◌, length, Some, None, ap, sym, refl, ◌∙◌, arith, inl, inr, sum_by}
use Rattle.std.specs.Prelude.{not, ◌&&◌, ◌==◌, if◌then◌else◌, nat_lt, option_and_then}
use Rattle.std.specs.List.{list_all}
use Rattle.std.proofs.Math.ListN.{get_or}
use Rattle.std.proofs.lemmas.Bool.{and_from, and_left, and_parts, cases_eq, cases_lt, eq-eqb, ne_eqb, lt-ltb, or_left}
use Rattle.std.proofs.lemmas.Bool.Decides.{nat_tests}
use Rattle.std.proofs.lemmas.List.{get_or_past, get_or-set_same, get_or-set_other, length-set}
use Rattle.std.proofs.lemmas.List.Folds.{list_all-append}
use Rattle.std.proofs.lemmas.List.Sums.{sum_by-cons}
use Rattle.flt_tree.specs.declared.filter.Filter.{Filter}
use Rattle.flt_model.specs.declared.moves.Move.TheVariants as moves
use Rattle.flt_model.specs.Effects.{Step}
use Rattle.flt_model.specs.Moves.{calls_pre, skip_at, lower_at, carried_out, is_up, is_empty, are_settled, is_done, stores}
use Rattle.flt_model.specs.Program.{HasDistinctAltitudes, filter_at, filter_of, no_filter, callbacks_at, has_pre}
use Rattle.flt_model.specs.Runs.{Moment, run_from, after, next}
use Rattle.flt_model.specs.Steps.{Transition, Make, Local, Board}
use Rattle.flt_model.specs.declared.parts.Position.{Position}
use Rattle.flt_model.specs.declared.parts.Position.TheVariants.{Down, Visiting, Up}
use Rattle.flt_model.specs.declared.parts.Presence.TheVariants.{Detached}
use Rattle.flt_model.specs.World.{Store, Frame, Route, Visit, no_route, actor_at}
use Rattle.flt_model.specs.World.{arrival_at, presence_at, route_at, visit_at, is_attached, is_settled, with_route}
use Rattle.flt_sound.specs.Progress.{is_unloading, is_winding_up, AllCanRest, AreOrderly, CanRest, OperationsCanComplete}
use Rattle.flt_sound.proofs.sums.Counts.{one_if-same}
use Rattle.flt_sound.proofs.points.Placed.{Laws}
use Rattle.flt_sound.proofs.rest.Parts.{frame_is, frames_in, IsEmpty}
use Rattle.flt_sound.proofs.rest.Passing.{Passes, one_counts}
use Rattle.flt_sound.proofs.rest.Visiting.{is_visiting}
use Rattle.flt_sound.proofs.rest.Unowned.{gone}
use Rattle.flt_sound.proofs.rest.Gone.{Rests, at_step, rests_after, rests_on, step_passes, later}
use Rattle.flt_sound.proofs.progress.Waiting.{accepted_of}
use Rattle.flt_sound.proofs.progress.Finishing.{Spending}
use Rattle.flt_sound.proofs.progress.Unloading.{runs_on, can_unload}

-- ---- reaching a moment

-- transitions lead from the moment to one of which Q is so
pub record Reaches (p : List Filter) (m : Moment) (Q : Moment → Type 0) : Type 0 where
  pub steps : List Transition
  pub winding_up : list_all is_winding_up steps ≡ true
  pub last : Moment
  pub leads : run_from p m steps ≡ Some last
  pub holds : Q last

at_once : (p : List Filter) (m : Moment) (Q : Moment → Type 0) → Q m → Reaches p m Q
at_once p m Q h = record { steps = []; winding_up = refl; last = m; leads = refl; holds = h }

-- one step, and on
by_step : (p : List Filter) (m : Moment) (Q : Moment → Type 0) (x : Transition) (s : Step) → is_winding_up x ≡ true →
    next p m x ≡ Some s → Reaches p (after m s) Q →
    Reaches p m Q
by_step p m Q x s w e r = record {
  steps = x ∷ r.steps;
  winding_up = and_from _ _ w r.winding_up;
  last = r.last;
  leads = ap (λ o. option_and_then (λ s. run_from p (after m s) r.steps) o) e ∙ r.leads;
  holds = r.holds;
}

-- where what is reached says more
map_reach : (p : List Filter) (m : Moment) (Q R : Moment → Type 0) → ((n : Moment) → Q n → R n) → Reaches p m Q → Reaches p m R
map_reach p m Q R h r = record { steps = r.steps; winding_up = r.winding_up; last = r.last; leads = r.leads; holds = h r.last r.holds }

-- a number that isn't below
not_below : (a b : ℕ) → b ≤ a → nat_lt a b ≡ false
not_below a b h = grind (arith, nat_tests)

-- the filter at which an operation is
down_same : (f g : ℕ) → Down f ≡ Down g → f ≡ g
down_same f g e = cc

-- one after the other
and_then : (p : List Filter) (m : Moment) (Q R : Moment → Type 0) → (r : Reaches p m Q) → Reaches p r.last R → Reaches p m R
and_then p m Q R r k = record {
  steps = r.steps ++ k.steps;
  winding_up = list_all-append is_winding_up r.steps k.steps ∙ and_from _ _ r.winding_up k.winding_up;
  last = k.last;
  leads = runs_on p m r.last k.last r.steps k.steps r.leads k.leads;
  holds = k.holds;
}

-- an unload winds up
unload_winds : (altitude : ℕ) (x : Transition) → is_unloading altitude x ≡ true → is_winding_up x ≡ true
unload_winds altitude (Make (moves.Arrive kind mode file)) h = h
unload_winds altitude (Make (moves.Pre o)) h = h
unload_winds altitude (Make (moves.Skip o)) h = refl
unload_winds altitude (Make (moves.Lower o)) h = refl
unload_winds altitude (Make (moves.Post o)) h = h
unload_winds altitude (Make (moves.Cancel o)) h = h
unload_winds altitude (Make (moves.Canceled b o)) h = refl
unload_winds altitude (Make (moves.Work i)) h = refl
unload_winds altitude (Make (moves.Detach b)) h = refl
unload_winds altitude (Make (moves.Drain b o)) h = refl
unload_winds altitude (Make (moves.Unlink b key)) h = refl
unload_winds altitude (Make (moves.Detached b)) h = refl
unload_winds altitude (Local a) h = refl
unload_winds altitude (Board a grant) h = refl

unloads_wind : (altitude : ℕ) (xs : List Transition) → list_all (is_unloading altitude) xs ≡ true → list_all is_winding_up xs ≡ true
unloads_wind altitude [] h = refl
unloads_wind altitude (x ∷ xs) h =
    let parts = and_parts _ _ h in and_from _ _ (unload_winds altitude x parts.0) (unloads_wind altitude xs parts.1)

-- ---- filters by their altitudes

-- where no two filters have one altitude, each is found by its own
found_by : (p : List Filter) → HasDistinctAltitudes p → (g : ℕ) → g < length p → filter_of p (filter_at p g).altitude ≡ g
found_by [] h g there = absurd (omega (arith, there))
found_by (x ∷ p) h zero there = rw (eq-eqb x.altitude x.altitude refl) refl
found_by (x ∷ p) h (suc g) there =
    let apart : (x.altitude == (filter_at p g).altitude) ≡ false =
    ne_eqb x.altitude (filter_at p g).altitude (h zero (suc g) no_filter (omega arith) there) in
    let ih = found_by p (λ i j d less below. h (suc i) (suc j) d (omega (arith, less)) (omega (arith, below))) g (omega (arith, there)) in
    rw apart (omega (arith, ih))

module _ (spending : Spending) (laws : Laws) (p : List Filter) (ok : AreOrderly p) (distinct : HasDistinctAltitudes p) where
  -- ---- all filters are unloaded

  -- the first n filters are detached
  pub record AreDetached (n : ℕ) (m : Moment) : Type 0 where
    pub rests : Rests p m
    pub detached : (g : ℕ) → g < n → presence_at m.world.store g ≡ Detached

  unload_all : (n : ℕ) → n ≤ length p → (m : Moment) → Rests p m → Reaches p m (AreDetached n)
  unload_all zero h m r = at_once p m (AreDetached zero) (record { rests = r; detached = λ g below. absurd (omega (arith, below)) })
  unload_all (suc n) h m r =
      let first = unload_all n (omega (arith, h)) m r in
      let altitude = (filter_at p n).altitude in
      let is_n : filter_of p altitude ≡ n = found_by p distinct n (omega (arith, h)) in
      let c = can_unload spending laws p ok altitude first.last first.holds.rests in
      let after_it = λ (g : ℕ). later laws p (accepted_of p ok) g c.steps first.last c.last first.holds.rests c.leads in
      and_then p m (AreDetached n) (AreDetached (suc n)) first (record {
        steps = c.steps;
        winding_up = unloads_wind altitude c.steps c.unloading;
        last = c.last;
        leads = c.leads;
        holds = record {
          rests = (after_it 0).rests;
          detached = λ g below. elim (cases_eq g n) [
            | inl same ↦ ap (λ i. presence_at c.last.world.store i) (same ∙ sym is_n) ∙ c.detached
            | inr ne ↦ (after_it g).stays (first.holds.detached g (omega (arith, below, ne)))
          ];
        };
      })

  -- ---- nothing is left

  -- every filter is detached
  pub record IsCalm (m : Moment) : Type 0 where
    pub rests : Rests p m
    pub detached : (g : ℕ) → presence_at m.world.store g ≡ Detached

  calm_of : (m : Moment) → AreDetached (length p) m → IsCalm m
  calm_of m d = record {
    rests = d.rests;
    detached = λ g. elim (cases_lt g (length p)) [
      | inl below ↦ d.detached g below
      | inr past ↦ get_or_past m.world.store.presences g Detached (omega (arith, past, d.rests.filters))
    ];
  }

  -- it stays so by each step
  calm_on : (m : Moment) → IsCalm m → (x : Transition) (s : Step) → next p m x ≡ Some s → IsCalm (after m s)
  calm_on m c x s e = record {
    rests = rests_on laws p (accepted_of p ok) m c.rests x s e;
    detached = λ g. (at_step (λ s. Passes g m.world s.world) (next p m x) s (step_passes p m c.rests.kept g x) e).stays (c.detached g);
  }

  module _ (m : Moment) (c : IsCalm m) where
    abbrev s : Store
    s = m.world.store

    empty : (g : ℕ) → IsEmpty g m.world
    empty g = c.rests.rest g (c.detached g)

    -- each visit is settled
    all_settled : (v : ℕ) → v < length s.visits → is_settled s v ≡ true
    all_settled v there =
        let g = (visit_at s v).filter in (gone p m c.rests.kept g (empty g) c.rests.held).settled v there refl

    -- so no operation stands in one
    not_visiting : (o : ℕ) → (route_at s o).position ≡ Visiting → ⊥
    not_visiting o e =
        let v = c.rests.visited o (ap is_visiting e) in
        let bad : true ≡ false = sym (all_settled v.visit v.there) ∙ v.unsettled in absurd (cc)

    -- none has a frame
    no_frames : (o : ℕ) → is_empty (route_at s o).frames ≡ true
    no_frames o = by (route_at s o).frames refl
      where
        by : (frames : List Frame) → (route_at s o).frames ≡ frames → is_empty frames ≡ true
        by [] e = refl
        by (x ∷ frames) e =
            let none : frames_in x.filter (route_at s o) ≡ 0 = one_counts (frames_in x.filter) s.routes o no_route refl
            (empty x.filter).frames in
            let some : frames_in x.filter (route_at s o) ≡ sum_by (frame_is x.filter) (x ∷ frames) =
            ap (λ l. sum_by (frame_is x.filter) l) e in
            absurd (omega (arith, none, some, sum_by-cons (frame_is x.filter) x frames, one_if-same x.filter))

    settled_in : (o : ℕ) (visits : List Visit) (settled : List Bool) →
        ((v : ℕ) → v < length visits → get_or settled v true ≡ true) → are_settled o visits settled ≡ true
    settled_in o [] settled h = refl
    settled_in o (x ∷ visits) [] h = refl
    settled_in o (x ∷ visits) (b ∷ settled) h =
        and_from _ _ (or_left b _ (h zero (omega arith))) (settled_in o visits settled (λ v there. h (suc v) (omega (arith, there))))

    -- so one that is up is done
    up_done : (o : ℕ) → is_up (route_at s o).position ≡ true → is_done s o ≡ true
    up_done o up = and_from _ _ (and_from _ _ up (no_frames o)) (settled_in o s.visits s.settled all_settled)

  -- ---- operations go up

  -- the operation is up, and the others are where they were
  pub record IsRaised (o : ℕ) (m n : Moment) : Type 0 where
    pub calm : IsCalm n
    pub up : is_up (route_at n.world.store o).position ≡ true
    pub others : (q : ℕ) → q ≢ o → route_at n.world.store q ≡ route_at m.world.store q
    pub long : length n.world.store.routes ≡ length m.world.store.routes

  -- a step by which the operation's route alone changes
  raised_on : (o : ℕ) (m n : Moment) (r : Route) (x : Transition) → next p m x ≡ Some (stores m.world (with_route m.world.store o r) []) →
      IsRaised o (after m (stores m.world (with_route m.world.store o r) [])) n → IsRaised o m n
  raised_on o m n r x e k = record {
    calm = k.calm;
    up = k.up;
    others = λ q ne. k.others q ne ∙ get_or-set_other m.world.store.routes o q r no_route ne;
    long = k.long ∙ length-set m.world.store.routes o r;
  }

  when_both : (a b : Bool) (x : Step) → a ≡ true → b ≡ true → (if a && b then Some x else None) ≡ Some x
  when_both true true x h k = refl
  when_both false b x h k = absurd (cc)
  when_both true false x h k = absurd (cc)

  unless_it : (b : Bool) (x : Step) → b ≡ false → (if b then None else Some x) ≡ Some x
  unless_it true x h = absurd (cc)
  unless_it false x h = refl

  -- carrying it out below all filters
  lowers : (m : Moment) (o f : ℕ) → IsCalm m → o < length m.world.store.routes → (route_at m.world.store o).position ≡ Down f →
      length p ≤ f → Reaches p m (IsRaised o m)
  lowers m o f c there e past =
      let r = carried_out (route_at m.world.store o) in
      let s = stores m.world (with_route m.world.store o r) [] in
      let is : next p m (Make (moves.Lower o)) ≡ Some s =
      ap (λ at. lower_at p m.world o at) e ∙ unless_it (nat_lt f (length p)) s (not_below f (length p) past) in
      by_step p m (IsRaised o m) (Make (moves.Lower o)) s refl is (at_once p (after m s) (IsRaised o m)
      (raised_on o m (after m s) r (Make (moves.Lower o)) is (record {
        calm = calm_on m c (Make (moves.Lower o)) s is;
        up = ap (λ (x : Route). is_up x.position) (get_or-set_same m.world.store.routes o r no_route there);
        others = λ q ne. refl;
        long = refl;
      })))

  -- passing a filter that is detached
  pub record IsPassed (m : Moment) (o f : ℕ) : Type 0 where
    pub route : Route
    pub further : route.position ≡ Down (f + 1)
    pub is : next p m (Make (moves.Skip o)) ≡ Some (stores m.world (with_route m.world.store o route) [])

  skips : (m : Moment) (o f : ℕ) → IsCalm m → (route_at m.world.store o).position ≡ Down f → f < length p → IsPassed m o f
  skips m o f c e below =
      let r : Route = record (route_at m.world.store o) { position = Down (f + 1) } in
      let s = stores m.world (with_route m.world.store o r) [] in
      let kind = (arrival_at m.world.store o).kind in
      let off : is_attached (presence_at m.world.store f) ≡ false = ap is_attached (c.detached f) in
      let silent : calls_pre p m.world.store f kind ≡ false = and_left _ (has_pre (callbacks_at p f) kind) off in
      record {
        route = r;
        further = refl;
        is = ap (λ at. skip_at p m.world o kind at) e
            ∙ when_both (nat_lt f (length p)) (not (calls_pre p m.world.store f kind)) s (lt-ltb f (length p) below) (ap not silent);
      }

  raise : (fuel : ℕ) (m : Moment) (o : ℕ) → IsCalm m → o < length m.world.store.routes → (at : Position) →
      (route_at m.world.store o).position ≡ at → ((f : ℕ) → at ≡ Down f → length p ≤ f + fuel) → Reaches p m (IsRaised o m)
  raise fuel m o c there Up e h = at_once p m (IsRaised o m) (record { calm = c; up = ap is_up e; others = λ q ne. refl; long = refl })
  raise fuel m o c there Visiting e h = absurd (not_visiting m c o e)
  raise zero m o c there (Down f) e h = let past = h f refl in lowers m o f c there e (omega (arith, past))
  raise (suc fuel) m o c there (Down f) e h = elim (cases_lt f (length p)) [
    | inr past ↦ lowers m o f c there e past
    | inl below ↦
        let k = skips m o f c e below in
        let s = stores m.world (with_route m.world.store o k.route) [] in
        let now : (route_at (with_route m.world.store o k.route) o).position ≡ Down (f + 1) =
        ap (λ (x : Route). x.position) (get_or-set_same m.world.store.routes o k.route no_route there) ∙ k.further in
        let deep : (g : ℕ) → Down (f + 1) ≡ Down g → length p ≤ g + fuel =
        λ g same. (let is_g = down_same (f + 1) g same in let bound = h f refl in omega (arith, is_g, bound)) in
        by_step p m (IsRaised o m) (Make (moves.Skip o)) s refl k.is
        (map_reach p (after m s) (IsRaised o (after m s)) (IsRaised o m) (λ n. raised_on o m n k.route (Make (moves.Skip o)) k.is)
        (raise fuel (after m s) o (calm_on m c (Make (moves.Skip o)) s k.is)
        (omega (arith, there, length-set m.world.store.routes o k.route)) (Down (f + 1)) now deep))
  ]

  -- the first n operations are up
  pub record AreRaised (n : ℕ) (m later : Moment) : Type 0 where
    pub calm : IsCalm later
    pub up : (o : ℕ) → o < n → is_up (route_at later.world.store o).position ≡ true
    pub long : length later.world.store.routes ≡ length m.world.store.routes

  raise_all : (n : ℕ) (m : Moment) → n ≤ length m.world.store.routes → IsCalm m → Reaches p m (AreRaised n m)
  raise_all zero m h c = at_once p m (AreRaised zero m) (record { calm = c; up = λ o below. absurd (omega (arith, below)); long = refl })
  raise_all (suc n) m h c =
      let first = raise_all n m (omega (arith, h)) c in
      let there : n < length first.last.world.store.routes = omega (arith, h, first.holds.long) in
      let second = raise (length p) first.last n first.holds.calm there (route_at first.last.world.store n).position refl
      (λ f e. omega arith) in
      and_then p m (AreRaised n m) (AreRaised (suc n) m) first
      (map_reach p first.last (IsRaised n first.last) (AreRaised (suc n) m) (λ x k. record {
        calm = k.calm;
        up = λ o below. elim (cases_eq o n) [
          | inl same ↦ ap (λ i. is_up (route_at x.world.store i).position) same ∙ k.up
          | inr ne ↦ ap (λ (r : Route). is_up r.position) (k.others o ne) ∙ first.holds.up o (omega (arith, below, ne))
        ];
        long = k.long ∙ first.holds.long;
      }) second)

  -- ---- to the end

  -- at rest all can be brought to their ends, with nothing left
  pub can_rest : (m : Moment) → Rests p m → CanRest p m
  can_rest m r =
      let first = unload_all (length p) (omega arith) m r in
      let calm = calm_of first.last first.holds in
      let n = length first.last.world.store.routes in
      let second = raise_all n first.last (omega arith) calm in
      record {
        steps = first.steps ++ second.steps;
        winding_up = list_all-append is_winding_up first.steps second.steps ∙ and_from _ _ first.winding_up second.winding_up;
        last = second.last;
        leads = runs_on p m first.last second.last first.steps second.steps first.leads second.leads;
        detached = second.holds.calm.detached;
        gone = λ f. gone p second.last second.holds.calm.rests.kept f (empty second.last second.holds.calm f)
            second.holds.calm.rests.held;
        ended = λ a. (empty second.last second.holds.calm (actor_at second.last.world a).filter).active a refl;
        done = λ o. up_done second.last second.holds.calm o (elim (cases_lt o n) [
          | inl below ↦ second.holds.up o below
          | inr past ↦ ap (λ (x : Route). is_up x.position)
              (get_or_past second.last.world.store.routes o no_route (omega (arith, past, second.holds.long)))
        ]);
      }

-- all can rest
pub all_can_rest : Laws → Spending → AllCanRest
all_can_rest laws spending p xs m ok distinct e =
    can_rest spending laws p ok distinct m (rests_after laws p (accepted_of p ok) xs m e)

-- so operations can complete
pub operations_can_complete : Laws → Spending → OperationsCanComplete
operations_can_complete laws spending p xs m ok distinct e =
    let r = all_can_rest laws spending p xs m ok distinct e in
    record { steps = r.steps; winding_up = r.winding_up; last = r.last; leads = r.leads; done = r.done }
