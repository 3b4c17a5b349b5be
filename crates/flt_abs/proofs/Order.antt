-- What the order and the join of states, as they are computed, say of the situations.
use Rattle.std.proofs.Common.{◌≡◌, ◌≢◌, ◌↔◌, ◌<◌, ℕ, zero, suc, Bool, true, false, List, [], ◌∷◌}
use Rattle.std.proofs.Common.{◌++◌, length, map, take, drop, get_or, sym, ap, refl, arith, ◌∙◌}
use Rattle.std.proofs.Math.Bool.{and-false}
use Rattle.std.proofs.Math.ListN.{set}
use Rattle.std.specs.Prelude.{not, ◌||◌}
use Rattle.std.specs.List.{list_all}
use Rattle.std.proofs.lemmas.Bool.{and_parts, and_from, eqb-true, eq-eqb}
use Rattle.flt_rules.specs.Held.{same_locks}
use Rattle.flt_rules.specs.declared.held.HeldLock.{HeldLock}
use Rattle.flt_rules.specs.declared.place.Mode.{Mode}
use Rattle.flt_rules.specs.declared.place.Mode.TheVariants.{Irp, Fast}
use Rattle.flt_abs.specs.Sets.{StatusSet, ModeSet, DrainingSet, either_status, statuses_within, modes_within}
use Rattle.flt_abs.specs.Sets.{drainings_within, is_possible, is_mode_possible, is_draining_possible}
use Rattle.flt_abs.specs.State.{Status, Null, Held, Stale, Situation, State, IsBelow, IsJoin, has_status, has_mode}
use Rattle.flt_abs.specs.State.{has_draining, have_statuses, is_proper, is_below, all_within, either_all, join_of}
use Rattle.flt_abs.specs.LockLaws.{same_locks_decides}
use Rattle.flt_abs.specs.Locks.{are_locks}

-- ---- one set

-- where not one or the other, the one implies the other
pub implies : (a b : Bool) → (not a || b) ≡ true → a ≡ true → b ≡ true
implies true b h e = h
implies false b h e = cc

implies_from : (a b : Bool) → (a ≡ true → b ≡ true) → (not a || b) ≡ true
implies_from true b h = h refl
implies_from false b h = refl

-- what a status set has, each set that it is within has
pub status_within : (a b : StatusSet) (x : Status) → statuses_within a b ≡ true → has_status a x ≡ true → has_status b x ≡ true
status_within a b x h =
    let parts = and_parts _ _ h in
    let later = and_parts _ _ parts.1 in
    elim x as (λ x. has_status a x ≡ true → has_status b x ≡ true) [
      | Null ↦ implies _ _ parts.0
      | Held ↦ implies _ _ later.0
      | Stale ↦ implies _ _ later.1
    ]

status_within_from : (a b : StatusSet) → ((x : Status) → has_status a x ≡ true → has_status b x ≡ true) → statuses_within a b ≡ true
status_within_from a b h = and_from _ _ (implies_from _ _ (h Null)) (and_from _ _ (implies_from _ _ (h Held)) (implies_from _ _ (h Stale)))

mode_within : (a b : ModeSet) (x : Mode) → modes_within a b ≡ true → has_mode a x ≡ true → has_mode b x ≡ true
mode_within a b Irp h = implies _ _ (and_parts _ _ h).0
mode_within a b Fast h = implies _ _ (and_parts _ _ h).1

mode_within_from : (a b : ModeSet) → ((x : Mode) → has_mode a x ≡ true → has_mode b x ≡ true) → modes_within a b ≡ true
mode_within_from a b h = and_from _ _ (implies_from _ _ (h Irp)) (implies_from _ _ (h Fast))

draining_within : (a b : DrainingSet) (x : Bool) → drainings_within a b ≡ true → has_draining a x ≡ true → has_draining b x ≡ true
draining_within a b true h = implies _ _ (and_parts _ _ h).1
draining_within a b false h = implies _ _ (and_parts _ _ h).0

draining_within_from : (a b : DrainingSet) → ((x : Bool) → has_draining a x ≡ true → has_draining b x ≡ true) → drainings_within a b ≡ true
draining_within_from a b h = and_from _ _ (implies_from _ _ (h false)) (implies_from _ _ (h true))

-- ---- some situation

first_status : Bool → Bool → Status
first_status true held = Null
first_status false true = Held
first_status false false = Stale

some_status : StatusSet → Status
some_status s = first_status s.null s.held

has_first : (null held stale : Bool) → (null || (held || stale)) ≡ true →
    has_status (record { null = null; held = held; stale = stale }) (first_status null held) ≡ true
unfolding first_status
has_first true held stale h = refl
has_first false true stale h = refl
has_first false false stale h = h

has_some_status : (s : StatusSet) → is_possible s ≡ true → has_status s (some_status s) ≡ true
unfolding some_status
has_some_status s = has_first s.null s.held s.stale

have_some_statuses : (sets : List StatusSet) → list_all is_possible sets ≡ true → have_statuses sets (map some_status sets) ≡ true
have_some_statuses [] h = refl
have_some_statuses (s ∷ sets) h = let parts = and_parts (is_possible s) (list_all is_possible sets) h in
    and_from _ _ (has_some_status s parts.0) (have_some_statuses sets parts.1)

some_mode : (s : ModeSet) → is_mode_possible s ≡ true → (x : Mode) × (has_mode s x ≡ true)
some_mode s h = either s.irp s.fast h (λ e. (Irp, e)) (λ e. (Fast, e))
  where
    either : {P : Type 0} (x y : Bool) → (x || y) ≡ true → (x ≡ true → P) → (y ≡ true → P) → P
    either true y h f g = f refl
    either false y h f g = g h

some_draining : (s : DrainingSet) → is_draining_possible s ≡ true → (x : Bool) × (has_draining s x ≡ true)
some_draining s h = either s.no s.yes h (λ e. (false, e)) (λ e. (true, e))
  where
    either : {P : Type 0} (x y : Bool) → (x || y) ≡ true → (x ≡ true → P) → (y ≡ true → P) → P
    either true y h f g = f refl
    either false y h f g = g h

-- ---- lists of sets

all_hold : (xs ys : List StatusSet) (ts : List Status) → all_within xs ys ≡ true → have_statuses xs ts ≡ true → have_statuses ys ts ≡ true
all_hold [] [] ts h e = e
all_hold [] (b ∷ ys) ts h e = cc
all_hold (a ∷ xs) [] ts h e = cc
all_hold (a ∷ xs) (b ∷ ys) [] h e = cc
all_hold (a ∷ xs) (b ∷ ys) (t ∷ ts) h e =
    let within = and_parts (statuses_within a b) (all_within xs ys) h in
    let have = and_parts (has_status a t) (have_statuses xs ts) e in
    and_from _ _ (status_within a b t within.0 have.0) (all_hold xs ys ts within.1 have.1)

all_within_from : (xs ys : List StatusSet) → list_all is_possible xs ≡ true →
    ((ts : List Status) → have_statuses xs ts ≡ true → have_statuses ys ts ≡ true) → all_within xs ys ≡ true
all_within_from [] [] p h = refl
all_within_from [] (b ∷ ys) p h = let e = h [] refl in cc
all_within_from (a ∷ xs) [] p h = let e = h (map some_status (a ∷ xs)) (have_some_statuses (a ∷ xs) p) in cc
all_within_from (a ∷ xs) (b ∷ ys) p h =
    let possible = and_parts (is_possible a) (list_all is_possible xs) p in
    and_from _ _
    (status_within_from a b (λ x e. (and_parts (has_status b x) _
    (h (x ∷ map some_status xs) (and_from _ _ e (have_some_statuses xs possible.1)))).0))
    (all_within_from xs ys possible.1 (λ ts e.
    (and_parts (has_status b (some_status a)) _ (h (some_status a ∷ ts) (and_from _ _ (has_some_status a possible.0) e))).1))

-- lists of different lengths aren't within each other
pub lengths_differ : (xs ys : List StatusSet) → length xs ≢ length ys → all_within xs ys ≡ false
lengths_differ [] [] h = absurd (h refl)
lengths_differ [] (y ∷ ys) h = refl
lengths_differ (x ∷ xs) [] h = refl
lengths_differ (x ∷ xs) (y ∷ ys) h =
    rw (lengths_differ xs ys (λ e. h (ap suc e))) (and-false (statuses_within x y))

-- ---- states

-- a state that is computed as below another one is below it by its meaning
pub below_means : (a b : State) → is_below a b ≡ true → IsBelow a b
below_means a b h =
    let locks = and_parts (same_locks a.locks b.locks) _ h in
    let modes = and_parts (modes_within a.modes b.modes) _ locks.1 in
    let draining = and_parts (drainings_within a.draining b.draining) _ modes.1 in
    let lists = and_parts (all_within a.contexts b.contexts) _ draining.1 in
    let same : a.locks ≡ b.locks = (same_locks_decides a.locks b.locks).0 locks.0 in
    record {
      situations = λ t m. record {
        contexts = all_hold a.contexts b.contexts t.contexts lists.0 m.contexts;
        operations = all_hold a.operations b.operations t.operations lists.1 m.operations;
        mode = mode_within a.modes b.modes t.mode modes.0 m.mode;
        draining = draining_within a.draining b.draining t.draining draining.0 m.draining;
        locks = sym same ∙ m.locks;
      };
      locks = same;
    }

-- the parts of a proper state
pub record Proper (s : State) : Type 0 where
  pub nine : length s.contexts ≡ 9
  pub five : length s.operations ≡ 5
  pub contexts : list_all is_possible s.contexts ≡ true
  pub operations : list_all is_possible s.operations ≡ true
  pub modes : is_mode_possible s.modes ≡ true
  pub draining : is_draining_possible s.draining ≡ true
  pub locks : are_locks s.locks ≡ true

-- a proper state has nine sets of contexts and five of operations, and none of its sets is empty
pub proper_parts : (s : State) → is_proper s ≡ true → Proper s
proper_parts s h =
    let nine = and_parts _ _ h in
    let five = and_parts _ _ nine.1 in
    let contexts = and_parts _ _ five.1 in
    let operations = and_parts _ _ contexts.1 in
    let modes = and_parts _ _ operations.1 in
    let draining = and_parts _ _ modes.1 in
    record {
      nine = eqb-true _ _ nine.0;
      five = eqb-true _ _ five.0;
      contexts = contexts.0;
      operations = operations.0;
      modes = modes.0;
      draining = draining.0;
      locks = draining.1;
    }

-- a proper state that is below another one by its meaning is computed as below it
pub below_from : (a b : State) → is_proper a ≡ true → IsBelow a b → is_below a b ≡ true
below_from a b p h =
    let parts = proper_parts a p in
    let mode = some_mode a.modes parts.modes in
    let draining = some_draining a.draining parts.draining in
    let contexts = have_some_statuses a.contexts parts.contexts in
    let operations = have_some_statuses a.operations parts.operations in
    let at : List Status → List Status → Mode → Bool → Situation =
    λ c o m d. record { contexts = c; operations = o; mode = m; draining = d; locks = a.locks } in
    and_from _ _ ((same_locks_decides a.locks b.locks).1 h.locks)
    (and_from _ _ (mode_within_from _ _ (λ x e. (h.situations (at (map some_status a.contexts) (map some_status a.operations) x draining.0)
    (record { contexts = contexts; operations = operations; mode = e; draining = draining.1; locks = refl })).mode))
    (and_from _ _ (draining_within_from _ _ (λ x e. (h.situations (at (map some_status a.contexts) (map some_status a.operations) mode.0 x)
    (record { contexts = contexts; operations = operations; mode = mode.1; draining = e; locks = refl })).draining))
    (and_from _ _ (all_within_from _ _ parts.contexts (λ ts e. (h.situations (at ts (map some_status a.operations) mode.0 draining.0)
    (record { contexts = e; operations = operations; mode = mode.1; draining = draining.1; locks = refl })).contexts))
    (all_within_from _ _ parts.operations (λ ts e. (h.situations (at (map some_status a.contexts) ts mode.0 draining.0)
    (record { contexts = contexts; operations = e; mode = mode.1; draining = draining.1; locks = refl })).operations)))))

-- for a proper state, to be below is computed as it is meant
pub below_meaning : (a b : State) → is_proper a ≡ true → (is_below a b ≡ true) ↔ IsBelow a b
below_meaning a b p = (below_means a b, below_from a b p)

-- ---- joins

implies_or_left : (a b : Bool) → (not a || (a || b)) ≡ true
implies_or_left true b = refl
implies_or_left false b = refl

implies_or_right : (a b : Bool) → (not b || (a || b)) ≡ true
implies_or_right true true = refl
implies_or_right true false = refl
implies_or_right false true = refl
implies_or_right false false = refl

or_implies : (a b d : Bool) → (not a || d) ≡ true → (not b || d) ≡ true → (not (a || b) || d) ≡ true
or_implies true b d h e = h
or_implies false b d h e = e

all_within_left : (xs ys : List StatusSet) → length xs ≡ length ys → all_within xs (either_all xs ys) ≡ true
all_within_left [] ys h = refl
all_within_left (a ∷ xs) [] h = cc
all_within_left (a ∷ xs) (b ∷ ys) h =
    and_from _ _ (and_from _ _ (implies_or_left a.null b.null)
    (and_from _ _ (implies_or_left a.held b.held) (implies_or_left a.stale b.stale))) (all_within_left xs ys (omega arith))

all_within_right : (xs ys : List StatusSet) → length xs ≡ length ys → all_within ys (either_all xs ys) ≡ true
all_within_right [] [] h = refl
all_within_right [] (b ∷ ys) h = cc
all_within_right (a ∷ xs) [] h = cc
all_within_right (a ∷ xs) (b ∷ ys) h =
    and_from _ _ (and_from _ _ (implies_or_right a.null b.null)
    (and_from _ _ (implies_or_right a.held b.held) (implies_or_right a.stale b.stale))) (all_within_right xs ys (omega arith))

union_within : (a b d : StatusSet) → statuses_within a d ≡ true → statuses_within b d ≡ true → statuses_within (either_status a b) d ≡ true
union_within a b d h e =
    let left = and_parts (not a.null || d.null) _ h in
    let later_left = and_parts (not a.held || d.held) _ left.1 in
    let right = and_parts (not b.null || d.null) _ e in
    let later_right = and_parts (not b.held || d.held) _ right.1 in
    and_from _ _ (or_implies a.null b.null d.null left.0 right.0)
    (and_from _ _ (or_implies a.held b.held d.held later_left.0 later_right.0)
    (or_implies a.stale b.stale d.stale later_left.1 later_right.1))

all_union_within : (xs ys zs : List StatusSet) → all_within xs zs ≡ true → all_within ys zs ≡ true → all_within (either_all xs ys) zs ≡ true
all_union_within [] ys zs h e = h
all_union_within (a ∷ xs) [] zs h e = h
all_union_within (a ∷ xs) (b ∷ ys) [] h e = cc
all_union_within (a ∷ xs) (b ∷ ys) (d ∷ zs) h e =
    let left = and_parts (statuses_within a d) (all_within xs zs) h in
    let right = and_parts (statuses_within b d) (all_within ys zs) e in
    and_from _ _ (union_within a b d left.0 right.0) (all_union_within xs ys zs left.1 right.1)

locks_same : (xs ys : List HeldLock) → xs ≡ ys → same_locks xs ys ≡ true
locks_same xs ys h = (same_locks_decides xs ys).1 h

join_left : (a b : State) → Proper a → Proper b → is_below a (join_of a b) ≡ true
join_left a b p q =
    and_from _ _ (locks_same a.locks a.locks refl)
    (and_from _ _ (and_from _ _ (implies_or_left a.modes.irp b.modes.irp) (implies_or_left a.modes.fast b.modes.fast))
    (and_from _ _ (and_from _ _ (implies_or_left a.draining.no b.draining.no) (implies_or_left a.draining.yes b.draining.yes))
    (and_from _ _ (all_within_left a.contexts b.contexts (p.nine ∙ sym q.nine))
    (all_within_left a.operations b.operations (p.five ∙ sym q.five)))))

join_right : (a b : State) → Proper a → Proper b → a.locks ≡ b.locks → is_below b (join_of a b) ≡ true
join_right a b p q same =
    and_from _ _ (locks_same b.locks a.locks (sym same))
    (and_from _ _ (and_from _ _ (implies_or_right a.modes.irp b.modes.irp) (implies_or_right a.modes.fast b.modes.fast))
    (and_from _ _ (and_from _ _ (implies_or_right a.draining.no b.draining.no) (implies_or_right a.draining.yes b.draining.yes))
    (and_from _ _ (all_within_right a.contexts b.contexts (p.nine ∙ sym q.nine))
    (all_within_right a.operations b.operations (p.five ∙ sym q.five)))))

-- a join is below every state that both are below
pub join_within : (a b d : State) → is_below a d ≡ true → is_below b d ≡ true → is_below (join_of a b) d ≡ true
join_within a b d h e =
    let locks = and_parts (same_locks a.locks d.locks) _ h in
    let modes = and_parts (modes_within a.modes d.modes) _ locks.1 in
    let draining = and_parts (drainings_within a.draining d.draining) _ modes.1 in
    let lists = and_parts (all_within a.contexts d.contexts) _ draining.1 in
    let irp = and_parts (not a.modes.irp || d.modes.irp) _ modes.0 in
    let no = and_parts (not a.draining.no || d.draining.no) _ draining.0 in
    let locks-2 = and_parts (same_locks b.locks d.locks) _ e in
    let modes-2 = and_parts (modes_within b.modes d.modes) _ locks-2.1 in
    let draining-2 = and_parts (drainings_within b.draining d.draining) _ modes-2.1 in
    let lists-2 = and_parts (all_within b.contexts d.contexts) _ draining-2.1 in
    let irp-2 = and_parts (not b.modes.irp || d.modes.irp) _ modes-2.0 in
    let no-2 = and_parts (not b.draining.no || d.draining.no) _ draining-2.0 in
    and_from _ _ locks.0
    (and_from _ _ (and_from _ _ (or_implies a.modes.irp b.modes.irp d.modes.irp irp.0 irp-2.0)
    (or_implies a.modes.fast b.modes.fast d.modes.fast irp.1 irp-2.1))
    (and_from _ _ (and_from _ _ (or_implies a.draining.no b.draining.no d.draining.no no.0 no-2.0)
    (or_implies a.draining.yes b.draining.yes d.draining.yes no.1 no-2.1))
    (and_from _ _ (all_union_within a.contexts b.contexts d.contexts lists.0 lists-2.0)
    (all_union_within a.operations b.operations d.operations lists.1 lists-2.1))))

-- the join of proper states with the same locks is the join by its meaning
pub join_means : (a b : State) → is_proper a ≡ true → is_proper b ≡ true → a.locks ≡ b.locks → IsJoin a b (join_of a b)
join_means a b p q same =
    record {
      left = below_means a (join_of a b) (join_left a b (proper_parts a p) (proper_parts b q));
      right = below_means b (join_of a b) (join_right a b (proper_parts a p) (proper_parts b q) same);
      least = λ d h e. below_means (join_of a b) d (join_within a b d (below_from a d p h) (below_from b d q e));
    }

-- one more union, of those that stand at an index
pub unite_step : (xs ys : List StatusSet) (i : ℕ) (d e : StatusSet) → i < length xs → i < length ys →
    take i xs ++ either_all (drop i xs) (drop i ys)
    ≡ take (suc i) (set xs i (either_status (get_or xs i d) (get_or ys i e)))
    ++ either_all (drop (suc i) (set xs i (either_status (get_or xs i d) (get_or ys i e)))) (drop (suc i) ys)
unite_step [] ys i d e h k = absurd (omega arith)
unite_step (x ∷ xs) [] i d e h k = absurd (omega arith)
unite_step (x ∷ xs) (y ∷ ys) zero d e h k = refl
unite_step (x ∷ xs) (y ∷ ys) (suc i) d e h k = ap (λ zs. x ∷ zs) (unite_step xs ys i d e (omega arith) (omega arith))

-- ---- a join is proper

possible_union : (a b : StatusSet) → is_possible a ≡ true → is_possible (either_status a b) ≡ true
possible_union a b h = wider a.null a.held a.stale b.null b.held b.stale h
  where
    wider : (a b c d e f : Bool) → (a || (b || c)) ≡ true → ((a || d) || ((b || e) || (c || f))) ≡ true
    wider true b c d e f h = refl
    wider false true c true e f h = refl
    wider false true c false e f h = refl
    wider false false true true e f h = refl
    wider false false true false true f h = refl
    wider false false true false false f h = refl
    wider false false false d e f h = cc

all_possible : (xs ys : List StatusSet) → list_all is_possible xs ≡ true → list_all is_possible (either_all xs ys) ≡ true
all_possible [] ys h = refl
all_possible (a ∷ xs) [] h = h
all_possible (a ∷ xs) (b ∷ ys) h =
    let parts = and_parts (is_possible a) (list_all is_possible xs) h in
    and_from _ _ (possible_union a b parts.0) (all_possible xs ys parts.1)

either_length : (xs ys : List StatusSet) → length (either_all xs ys) ≡ length xs
either_length [] ys = refl
either_length (a ∷ xs) [] = refl
either_length (a ∷ xs) (b ∷ ys) = ap (λ n. suc n) (either_length xs ys)

or_wider : (a b c d : Bool) → (a || b) ≡ true → ((a || c) || (b || d)) ≡ true
or_wider true b c d h = refl
or_wider false true true d h = refl
or_wider false true false d h = refl
or_wider false false c d h = cc

-- a join with a proper state is proper
pub join_proper : (a b : State) → is_proper a ≡ true → is_proper (join_of a b) ≡ true
join_proper a b h =
    let p = proper_parts a h in
    and_from _ _ (eq-eqb _ _ (either_length a.contexts b.contexts ∙ p.nine))
    (and_from _ _ (eq-eqb _ _ (either_length a.operations b.operations ∙ p.five))
    (and_from _ _ (all_possible a.contexts b.contexts p.contexts)
    (and_from _ _ (all_possible a.operations b.operations p.operations)
    (and_from _ _ (or_wider a.modes.irp a.modes.fast b.modes.irp b.modes.fast p.modes)
    (and_from _ _ (or_wider a.draining.no a.draining.yes b.draining.no b.draining.yes p.draining) p.locks)))))

-- ---- the order is a partial order

same_from : (a b : Bool) → (not a || b) ≡ true → (not b || a) ≡ true → a ≡ b
same_from true b h e = sym h
same_from false b h e = not_back b e
  where
    not_back : (b : Bool) → (not b || false) ≡ true → false ≡ b
    not_back true e = cc
    not_back false e = refl

abbrev set_with : Bool → Bool → Bool → StatusSet
set_with null held stale = record { null = null; held = held; stale = stale }

same_set : (a b : StatusSet) → statuses_within a b ≡ true → statuses_within b a ≡ true → a ≡ b
same_set a b h e =
    let x = and_parts (not a.null || b.null) _ h in
    let y = and_parts (not a.held || b.held) _ x.1 in
    let z = and_parts (not b.null || a.null) _ e in
    let w = and_parts (not b.held || a.held) _ z.1 in
    let null = same_from a.null b.null x.0 z.0 in
    let held = same_from a.held b.held y.0 w.0 in
    let stale = same_from a.stale b.stale y.1 w.1 in
    let made : set_with a.null a.held a.stale ≡ set_with b.null b.held b.stale = cc in made

same_sets : (xs ys : List StatusSet) → all_within xs ys ≡ true → all_within ys xs ≡ true → xs ≡ ys
same_sets [] [] h e = refl
same_sets [] (b ∷ ys) h e = cc
same_sets (a ∷ xs) [] h e = cc
same_sets (a ∷ xs) (b ∷ ys) h e =
    let left = and_parts (statuses_within a b) (all_within xs ys) h in
    let right = and_parts (statuses_within b a) (all_within ys xs) e in
    let first = same_set a b left.0 right.0 in
    let rest = same_sets xs ys left.1 right.1 in
    cc

abbrev state_with : List StatusSet → List StatusSet → Bool → Bool → Bool → Bool → List HeldLock → State
state_with contexts operations irp fast unset set locks =
    record {
      contexts = contexts;
      operations = operations;
      modes = record { irp = irp; fast = fast };
      draining = record { no = unset; yes = set };
      locks = locks;
    }

-- states that are below each other are one
pub below_same : (a b : State) → is_below a b ≡ true → is_below b a ≡ true → a ≡ b
below_same a b h e =
    let locks = and_parts (same_locks a.locks b.locks) _ h in
    let modes = and_parts (modes_within a.modes b.modes) _ locks.1 in
    let draining = and_parts (drainings_within a.draining b.draining) _ modes.1 in
    let lists = and_parts (all_within a.contexts b.contexts) _ draining.1 in
    let irp = and_parts (not a.modes.irp || b.modes.irp) _ modes.0 in
    let no = and_parts (not a.draining.no || b.draining.no) _ draining.0 in
    let locks-2 = and_parts (same_locks b.locks a.locks) _ e in
    let modes-2 = and_parts (modes_within b.modes a.modes) _ locks-2.1 in
    let draining-2 = and_parts (drainings_within b.draining a.draining) _ modes-2.1 in
    let lists-2 = and_parts (all_within b.contexts a.contexts) _ draining-2.1 in
    let irp-2 = and_parts (not b.modes.irp || a.modes.irp) _ modes-2.0 in
    let no-2 = and_parts (not b.draining.no || a.draining.no) _ draining-2.0 in
    let same_contexts = same_sets a.contexts b.contexts lists.0 lists-2.0 in
    let same_operations = same_sets a.operations b.operations lists.1 lists-2.1 in
    let same_irp = same_from a.modes.irp b.modes.irp irp.0 irp-2.0 in
    let same_fast = same_from a.modes.fast b.modes.fast irp.1 irp-2.1 in
    let same_no = same_from a.draining.no b.draining.no no.0 no-2.0 in
    let same_yes = same_from a.draining.yes b.draining.yes no.1 no-2.1 in
    let one_list : a.locks ≡ b.locks = (same_locks_decides a.locks b.locks).0 locks.0 in
    let made : state_with a.contexts a.operations a.modes.irp a.modes.fast a.draining.no a.draining.yes a.locks
    ≡ state_with b.contexts b.operations b.modes.irp b.modes.fast b.draining.no b.draining.yes b.locks = cc in
    made

-- ---- the order as it is computed

chain : (a b c : Bool) → (not a || b) ≡ true → (not b || c) ≡ true → (not a || c) ≡ true
chain true true c h e = e
chain true false c h e = cc
chain false b c h e = refl

implies_itself : (a : Bool) → (not a || a) ≡ true
implies_itself true = refl
implies_itself false = refl

set_chain : (a b c : StatusSet) → statuses_within a b ≡ true → statuses_within b c ≡ true → statuses_within a c ≡ true
set_chain a b c h e =
    let x = and_parts (not a.null || b.null) _ h in
    let y = and_parts (not a.held || b.held) _ x.1 in
    let z = and_parts (not b.null || c.null) _ e in
    let w = and_parts (not b.held || c.held) _ z.1 in
    and_from _ _ (chain a.null b.null c.null x.0 z.0)
    (and_from _ _ (chain a.held b.held c.held y.0 w.0) (chain a.stale b.stale c.stale y.1 w.1))

sets_chain : (xs ys zs : List StatusSet) → all_within xs ys ≡ true → all_within ys zs ≡ true → all_within xs zs ≡ true
sets_chain [] [] zs h e = e
sets_chain [] (b ∷ ys) zs h e = cc
sets_chain (a ∷ xs) [] zs h e = cc
sets_chain (a ∷ xs) (b ∷ ys) [] h e = cc
sets_chain (a ∷ xs) (b ∷ ys) (c ∷ zs) h e =
    let left = and_parts (statuses_within a b) (all_within xs ys) h in
    let right = and_parts (statuses_within b c) (all_within ys zs) e in
    and_from _ _ (set_chain a b c left.0 right.0) (sets_chain xs ys zs left.1 right.1)

-- a status set is within itself
pub set_itself : (a : StatusSet) → statuses_within a a ≡ true
set_itself a = and_from _ _ (implies_itself a.null) (and_from _ _ (implies_itself a.held) (implies_itself a.stale))

sets_themselves : (xs : List StatusSet) → all_within xs xs ≡ true
sets_themselves [] = refl
sets_themselves (a ∷ xs) = and_from _ _ (set_itself a) (sets_themselves xs)

-- a state is below itself
pub below_itself : (a : State) → is_below a a ≡ true
below_itself a =
    and_from _ _ (locks_same a.locks a.locks refl)
    (and_from _ _ (and_from _ _ (implies_itself a.modes.irp) (implies_itself a.modes.fast))
    (and_from _ _ (and_from _ _ (implies_itself a.draining.no) (implies_itself a.draining.yes))
    (and_from _ _ (sets_themselves a.contexts) (sets_themselves a.operations))))

-- a state below one that is below a third is below the third
pub below_chain : (a b c : State) → is_below a b ≡ true → is_below b c ≡ true → is_below a c ≡ true
below_chain a b c h e =
    let locks = and_parts (same_locks a.locks b.locks) _ h in
    let modes = and_parts (modes_within a.modes b.modes) _ locks.1 in
    let draining = and_parts (drainings_within a.draining b.draining) _ modes.1 in
    let lists = and_parts (all_within a.contexts b.contexts) _ draining.1 in
    let irp = and_parts (not a.modes.irp || b.modes.irp) _ modes.0 in
    let no = and_parts (not a.draining.no || b.draining.no) _ draining.0 in
    let locks-2 = and_parts (same_locks b.locks c.locks) _ e in
    let modes-2 = and_parts (modes_within b.modes c.modes) _ locks-2.1 in
    let draining-2 = and_parts (drainings_within b.draining c.draining) _ modes-2.1 in
    let lists-2 = and_parts (all_within b.contexts c.contexts) _ draining-2.1 in
    let irp-2 = and_parts (not b.modes.irp || c.modes.irp) _ modes-2.0 in
    let no-2 = and_parts (not b.draining.no || c.draining.no) _ draining-2.0 in
    let first : a.locks ≡ b.locks = (same_locks_decides a.locks b.locks).0 locks.0 in
    let second : b.locks ≡ c.locks = (same_locks_decides b.locks c.locks).0 locks-2.0 in
    and_from _ _ (locks_same a.locks c.locks (first ∙ second))
    (and_from _ _ (and_from _ _ (chain a.modes.irp b.modes.irp c.modes.irp irp.0 irp-2.0)
    (chain a.modes.fast b.modes.fast c.modes.fast irp.1 irp-2.1))
    (and_from _ _ (and_from _ _ (chain a.draining.no b.draining.no c.draining.no no.0 no-2.0)
    (chain a.draining.yes b.draining.yes c.draining.yes no.1 no-2.1))
    (and_from _ _ (sets_chain a.contexts b.contexts c.contexts lists.0 lists-2.0)
    (sets_chain a.operations b.operations c.operations lists.1 lists-2.1))))

-- a proper state is below its join with another one
pub joined_left : (a b : State) → is_proper a ≡ true → is_proper b ≡ true → is_below a (join_of a b) ≡ true
joined_left a b p q = join_left a b (proper_parts a p) (proper_parts b q)

-- a proper state is below the join of another one with it, where both have the same locks
pub joined_right : (a b : State) → is_proper a ≡ true → is_proper b ≡ true → a.locks ≡ b.locks → is_below b (join_of a b) ≡ true
joined_right a b p q same = join_right a b (proper_parts a p) (proper_parts b q) same
