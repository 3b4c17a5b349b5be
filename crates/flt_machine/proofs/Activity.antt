-- Whether an activation of a filter goes on: what a board counts of it, and that it is what the machine knows.
use Rattle.std.proofs.Common.{◌≡◌, ◌≢◌, ℕ, zero, suc, ◌+◌, ◌-◌, ◌<◌, ◌≤◌, ◌==◌, Bool, true, false, not, ◌&&◌, ◌||◌, if◌then◌else◌}
use Rattle.std.proofs.Common.{List, [], ◌∷◌, ◌++◌, Option, Some, None, length, is_some, ap, sym, refl, ◌∙◌, inl, inr, arith}
use Rattle.std.proofs.Math.ListN.{get_or, set}
use Rattle.std.proofs.lemmas.Bool.{cases_eq, cases_lt, eq-eqb, ne_eqb}
use Rattle.std.proofs.lemmas.Bool.Decides.{nat_tests}
use Rattle.std.proofs.lemmas.List.{get_or-set_same, get_or-set_other, get_or_past}
use Rattle.std.specs.Prelude.{nat_lt}
use Rattle.flt_tree.specs.declared.filter.Callback.{Callback}
use Rattle.flt_tree.specs.declared.filter.Filter.{Filter}
use Rattle.flt_model.specs.declared.event.Event.{Event}
use Rattle.flt_model.specs.Moves.{has_active}
use Rattle.flt_model.specs.Program.{callbacks_at}
use Rattle.flt_model.specs.Runs.{Moment}
use Rattle.flt_model.specs.World.{Actor, Activation, no_actor, nobody, activation_at, actor_at}
use Rattle.flt_machine_frames.specs.declared.standing.Standing.{Standing}
use Rattle.flt_machine.specs.Active.{AreCounted, active_of, counted}
use Rattle.flt_machine.specs.Situations.{Situation, KeptFor, IsAt, has_standing, standing_of}
use Rattle.flt_machine.proofs.Local.{goes_there}

-- ---- the count of a filter

some_by : (b : Bool) (n : ℕ) (rest : Bool) → rest ≡ nat_lt 0 n → (b || rest) ≡ nat_lt 0 ((if b then 1 else 0) + n)
some_by true n rest is = grind (arith, nat_tests)
some_by false n rest is = grind (arith, nat_tests)

-- one goes on exactly where the count isn't 0
pub some_active : (f : ℕ) (actors : List Actor) (standings : List (Option Standing)) →
    has_standing f actors standings ≡ nat_lt 0 (active_of f actors standings)
some_active f [] standings = refl
some_active f (actor ∷ actors) [] = refl
some_active f (actor ∷ actors) (s ∷ standings) =
    some_by ((actor.filter == f) && is_some s) (active_of f actors standings) (has_standing f actors standings)
    (some_active f actors standings)

at_most_one : (b : Bool) → (if b then 1 else 0) ≤ 1
at_most_one true = omega arith
at_most_one false = omega arith

-- no more go on than there are
active_within : (f : ℕ) (actors : List Actor) (standings : List (Option Standing)) → active_of f actors standings ≤ length standings
active_within f [] standings = omega arith
active_within f (actor ∷ actors) [] = omega arith
active_within f (actor ∷ actors) (s ∷ standings) =
    let one = at_most_one ((actor.filter == f) && is_some s) in
    let rest = active_within f actors standings in
    omega arith

-- one that comes behind the others
one_more : (f : ℕ) (actors : List Actor) (standings : List (Option Standing)) (x : Actor) (s : Option Standing) →
    length actors ≡ length standings →
    active_of f (actors ++ x ∷ []) (standings ++ s ∷ []) ≡ active_of f actors standings + counted f x s
one_more f [] [] x s same = omega arith
one_more f [] (t ∷ standings) x s same = absurd (omega (arith, same))
one_more f (actor ∷ actors) [] x s same = absurd (omega (arith, same))
one_more f (actor ∷ actors) (t ∷ standings) x s same =
    let rest = one_more f actors standings x s (omega (arith, same)) in omega (arith, rest)

-- one that is another from now on
one_put : (f : ℕ) (actors : List Actor) (standings : List (Option Standing)) (i : ℕ) (s : Option Standing) →
    length actors ≡ length standings → i < length standings →
    active_of f actors (set standings i s) + counted f (get_or actors i no_actor) (get_or standings i None)
    ≡ active_of f actors standings + counted f (get_or actors i no_actor) s
one_put f actors [] i s same within = absurd (omega (arith, within))
one_put f [] (t ∷ standings) i s same within = absurd (omega (arith, same))
one_put f (actor ∷ actors) (t ∷ standings) zero s same within = omega arith
one_put f (actor ∷ actors) (t ∷ standings) (suc i) s same within =
    let rest = one_put f actors standings i s (omega (arith, same)) (omega (arith, within)) in omega (arith, rest)

-- one that goes on counts at its filter
counts_once : (f : ℕ) (x : Actor) (s : Option Standing) → x.filter ≡ f → is_some s ≡ true → counted f x s ≡ 1
counts_once f x s is goes = rw (eq-eqb x.filter f is, goes) refl

-- and not at another
counts_not : (f : ℕ) (x : Actor) (s : Option Standing) → x.filter ≢ f → counted f x s ≡ 0
counts_not f x s other = rw (ne_eqb x.filter f other) refl

-- one that has ended counts nowhere
counts_no_more : (f : ℕ) (x : Actor) → counted f x None ≡ 0
counts_no_more f x = by (x.filter == f)
  where
    by : (b : Bool) → let n : ℕ = if b && false then 1 else 0 in n ≡ 0
    by true = refl
    by false = refl

-- ---- the counts that are kept

module _ (counts : List ℕ) (actors : List Actor) (standings : List (Option Standing)) (both : length actors ≡ length standings)
    (were : AreCounted counts actors standings) where
  -- where one filter's count changes, and what goes on of other filters doesn't
  recounted : (g m : ℕ) (later_actors : List Actor) (later : List (Option Standing)) → g < length counts →
      m ≡ active_of g later_actors later →
      ((f : ℕ) → f ≢ g → active_of f later_actors later ≡ active_of f actors standings) → AreCounted (set counts g m) later_actors later
  recounted g m later_actors later here own others f = elim (cases_eq f g) [
    | inl same ↦ ap (λ (k : ℕ). get_or (set counts g m) k 0) same ∙ get_or-set_same counts g m 0 here ∙ own ∙
        ap (λ (k : ℕ). active_of k later_actors later) (sym same)
    | inr other ↦ get_or-set_other counts g f m 0 other ∙ were f ∙ sym (others f other)
  ]

  -- a count is no more than there are activations
  pub count_fits : (f : ℕ) → get_or counts f 0 ≤ length standings
  count_fits f = omega (arith, were f, active_within f actors standings)

  -- one more is counted where it starts
  pub start_counted : (x : Actor) (s : Standing) → x.filter < length counts →
      AreCounted (set counts x.filter (get_or counts x.filter 0 + 1)) (actors ++ x ∷ []) (standings ++ Some s ∷ [])
  start_counted x s here =
      let g = x.filter in
      let own : get_or counts g 0 + 1 ≡ active_of g (actors ++ x ∷ []) (standings ++ Some s ∷ []) =
      omega (arith, were g, one_more g actors standings x (Some s) both, counts_once g x (Some s) refl refl) in
      recounted g (get_or counts g 0 + 1) (actors ++ x ∷ []) (standings ++ Some s ∷ []) here own
      (λ f other. omega (arith, one_more f actors standings x (Some s) both, counts_not f x (Some s) (λ same. other (sym same))))

  -- an activation that goes on
  module _ (i : ℕ) (goes : is_some (get_or standings i None) ≡ true) where
    within : i < length standings
    within = elim (cases_lt i (length standings)) [
      | inl less ↦ less
      | inr past ↦ absurd (let none = get_or_past standings i None past in cc)
    ]

    -- is counted at its filter
    pub end_counts : 1 ≤ get_or counts (get_or actors i no_actor).filter 0
    end_counts =
        let x = get_or actors i no_actor in
        omega (
          arith,
          were x.filter,
          one_put x.filter actors standings i None both within,
          counts_once x.filter x (get_or standings i None) refl goes,
          counts_no_more x.filter x,
        )

    -- is counted there no more once it has ended
    pub end_counted :
        AreCounted (set counts (get_or actors i no_actor).filter (get_or counts (get_or actors i no_actor).filter 0 - 1)) actors
        (set standings i None)
    end_counted =
        let x = get_or actors i no_actor in
        let g = x.filter in
        let own : get_or counts g 0 - 1 ≡ active_of g actors (set standings i None) =
        omega (
          arith,
          were g,
          one_put g actors standings i None both within,
          counts_once g x (get_or standings i None) refl goes,
          counts_no_more g x,
        ) in
        recounted g (get_or counts g 0 - 1) actors (set standings i None) counted_there own
        (λ f other. omega (
          arith,
          one_put f actors standings i None both within,
          counts_not f x (get_or standings i None) (λ same. other (sym same)),
          counts_no_more f x,
        ))
      where
        counted_there : (get_or actors i no_actor).filter < length counts
        counted_there = elim (cases_lt (get_or actors i no_actor).filter (length counts)) [
          | inl less ↦ less
          | inr past ↦ absurd (let none = get_or_past counts (get_or actors i no_actor).filter 0 past in omega (arith, none, end_counts))
        ]

    -- and is counted there still where it goes on
    pub renewed_counted : (s : Standing) → AreCounted counts actors (set standings i (Some s))
    renewed_counted s f = elim (cases_eq (get_or actors i no_actor).filter f) [
      | inl same ↦ omega (
        arith,
        were f,
        one_put f actors standings i (Some s) both within,
        counts_once f (get_or actors i no_actor) (get_or standings i None) same goes,
        counts_once f (get_or actors i no_actor) (Some s) same refl,
      )
      | inr other ↦ omega (
        arith,
        were f,
        one_put f actors standings i (Some s) both within,
        counts_not f (get_or actors i no_actor) (get_or standings i None) other,
        counts_not f (get_or actors i no_actor) (Some s) other,
      )
    ]

-- ---- at a moment

-- one goes on exactly where it has not ended
goes_alike : (cs : List Callback) (t : List Event) (a : ℕ) (act : Activation) (s : Option Standing) →
    KeptFor cs t a act s → is_some s ≡ not act.ended
goes_alike cs t a act None kept = sym (ap (λ (b : Bool). not b) kept)
goes_alike cs t a act (Some s) kept = sym (ap (λ (b : Bool). not b) (goes_there s act kept.stands.same))

same_active : (f : ℕ) (actors : List Actor) (standings : List (Option Standing)) (acts : List Activation) → length standings ≡ length acts →
    ((a : ℕ) → is_some (get_or standings a None) ≡ not (get_or acts a nobody).ended) →
    has_standing f actors standings ≡ has_active f actors acts
same_active f [] standings acts same alike = refl
same_active f (actor ∷ actors) [] [] same alike = refl
same_active f (actor ∷ actors) [] (act ∷ acts) same alike = absurd (omega (arith, same))
same_active f (actor ∷ actors) (s ∷ standings) [] same alike = absurd (omega (arith, same))
same_active f (actor ∷ actors) (s ∷ standings) (act ∷ acts) same alike =
    ap (λ (b : Bool). ((actor.filter == f) && b) || has_standing f actors standings) (alike 0) ∙
    ap (λ (b : Bool). ((actor.filter == f) && not act.ended) || b)
    (same_active f actors standings acts (omega (arith, same)) (λ a. alike (suc a)))

-- a board has a standing of a filter exactly where an activation of it goes on
pub active_there : (p : List Filter) (b : Situation) (m : Moment) (f : ℕ) →
    IsAt p b m → has_standing f b.actors b.standings ≡ has_active f m.world.actors m.world.activations
active_there p b m f at =
    ap (λ (l : List Actor). has_standing f l b.standings) at.actors ∙
    same_active f m.world.actors b.standings m.world.activations at.count
    (λ a. goes_alike (callbacks_at p (actor_at m.world a).filter) m.trace a (activation_at m.world a) (standing_of b a) (at.kept a))
