-- Paths of acquisitions back from lock to lock, and where they come round.
-- Here g is a graph, k a certificate, l, from and to are locks, list is a list of acquisitions.
use Rattle.std.proofs.Common.{◌≡◌, ◌≢◌, ℕ, zero, suc, ◌+◌, ◌<◌, ◌≤◌, Bool, true, false, List, [], ◌∷◌, ◌++◌, length, Option}
use Rattle.std.proofs.Common.{Some, None, IfSome, IfNone, IsNone, Ok, sym, subst, ap, refl, ◌∙◌, arith, inl, inr}
use Rattle.std.specs.Prelude.{if◌then◌else◌, find, cond, ◌||◌, ◌&&◌}
use Rattle.std.specs.List.{All, list_any}
use Rattle.std.proofs.Math.ListN.{get_or, set}
use Rattle.std.proofs.lemmas.Bool.{eqb-true, eq-eqb}
use Rattle.std.proofs.lemmas.List.Elements.{All-push, All-weaker}
use Rattle.std.proofs.lemmas.List.Quantifiers.{all_pairs_push}
use Rattle.flt_rules.specs.Call.{place_of}
use Rattle.flt_rules.specs.Held.{same_lock, holds_lock}
use Rattle.flt_rules.specs.Table.{row}
use Rattle.flt_rules.specs.declared.call.Call.{Call}
use Rattle.flt_rules.specs.declared.call.Call.TheVariants as call
use Rattle.flt_rules.specs.declared.call.LockNumber.{LockNumber}
use Rattle.flt_rules.specs.declared.rule.Rule.{Rule}
use Rattle.flt_rules.specs.declared.rule.Rule.TheVariants.{R01}
use Rattle.flt_graph.specs.Graph.{instruction_at, points_at}
use Rattle.flt_graph.specs.Instruction.{roles}
use Rattle.flt_graph.specs.declared.graph.Graph.{Graph}
use Rattle.flt_graph.specs.declared.instruction.Instruction.{Instruction}
use Rattle.flt_graph.specs.declared.instruction.Instruction.TheVariants as instruction
use Rattle.flt_abs.specs.Breaks.{breaks, first_broken, is_need_not_held, rules, takes_held_lock}
use Rattle.flt_abs.specs.Setting.{setting_of}
use Rattle.flt_abs.specs.State.{State}
use Rattle.flt_abs.specs.Step.{unless_broken}
use Rattle.flt_abs.specs.declared.setting.Setting.{Setting}
use Rattle.flt_abs.specs.declared.step.Successors.{Successors}
use Rattle.flt_cert.specs.Format.{Certificate}
use Rattle.flt_check.specs.Covering.{Covers}
use Rattle.flt_order.specs.Circle.{IsPath, IsCircle, CirclesHaveNoOrder, TakesOnce, from_taken}
use Rattle.flt_order.specs.Order.{IsAcquired, TakesInOrder, is_left, taken_by, taken_by_call}
use Rattle.flt_order.specs.declared.order.Acquisition.{Acquisition}
use Rattle.flt_order.proofs.Places.{place_same, callback_within, point_within}
use Rattle.flt_order.proofs.Ranks.{gone, taken_away, was_not}

-- ---- paths

-- a path goes on by an acquisition of the lock to which it leads
pub longer : (g : Graph) (k : Certificate) (from : LockNumber) (list : List Acquisition) (to : LockNumber) (a : Acquisition) →
    IsPath g k from list to → IsAcquired g k a → a.taken ≡ to → IsPath g k from (list ++ a ∷ []) a.holding
longer g k from [] to a h is same = (is, same ∙ sym h, refl)
longer g k from (b ∷ list) to a h is same = (h.0, h.1, longer g k b.holding list to a h.2 is same)

-- whether a lock is taken on a path
abbrev pub takes : LockNumber → List Acquisition → Bool
takes l list = list_any (λ (a : Acquisition). same_lock l a.taken) list

-- what was taken is taken on a longer path too
pub takes_more : (l : LockNumber) (list : List Acquisition) (a : Acquisition) → takes l list ≡ true → takes l (list ++ a ∷ []) ≡ true
takes_more l [] a h = absurd (cc)
takes_more l (b ∷ list) a h = by (same_lock l b.taken) h (takes_more l list a)
  where
    by : (b : Bool) → (b || takes l list) ≡ true → (takes l list ≡ true → takes l (list ++ a ∷ []) ≡ true) →
        (b || takes l (list ++ a ∷ [])) ≡ true
    by true h later = refl
    by false h later = later h

-- and the lock that the last acquisition takes
pub takes_last : (l : LockNumber) (list : List Acquisition) (a : Acquisition) → a.taken ≡ l → takes l (list ++ a ∷ []) ≡ true
takes_last l [] a same = by (same_lock l a.taken) (eq-eqb (place_of l) (place_of a.taken) (ap place_of (sym same)))
  where
    by : (b : Bool) → b ≡ true → (b || false) ≡ true
    by true h = refl
    by false h = h
takes_last l (b ∷ list) a same = by (same_lock l b.taken) (takes_last l list a same)
  where
    by : (b : Bool) → takes l (list ++ a ∷ []) ≡ true → (b || takes l (list ++ a ∷ [])) ≡ true
    by true h = refl
    by false h = h

-- where the locks that aren't left are those that are taken on a path, they are so on the longer path, with one less
pub met_on : (unmet : List Bool) (list : List Acquisition) (l : LockNumber) (a : Acquisition) → a.taken ≡ l →
    ((m : LockNumber) → is_left unmet m ≡ false → takes m list ≡ true) → (m : LockNumber) →
    is_left (set unmet (place_of l) false) m ≡ false → takes m (list ++ a ∷ []) ≡ true
met_on unmet list l a same met m h = elim (was_not unmet l m h) [
  | inl is ↦ takes_last m list a (same ∙ sym is)
  | inr old ↦ takes_more m list a (met m old)
]

-- ---- each lock once

-- the locks that are taken on a path aren't among these
abbrev pub AreMet : List Bool → List Acquisition → Type 0
AreMet unmet list = All (λ (a : Acquisition). is_left unmet a.taken ≡ false) list

-- they aren't among those that are left when the path goes on by one that was
pub met_more : (unmet : List Bool) (list : List Acquisition) (l : LockNumber) (a : Acquisition) → is_left unmet l ≡ true → a.taken ≡ l →
    AreMet unmet list → AreMet (set unmet (place_of l) false) (list ++ a ∷ [])
met_more unmet list l a among same met =
    All-push (λ (b : Acquisition). is_left (set unmet (place_of l) false) b.taken ≡ false) list a
    (All-weaker (λ (b : Acquisition). is_left unmet b.taken ≡ false)
    (λ (b : Acquisition). is_left (set unmet (place_of l) false) b.taken ≡ false)
    (λ b h. gone unmet l b.taken among h) list met)
    (taken_away unmet l a.taken among same)

-- and so each lock is taken once on the longer path too
pub once_more : (unmet : List Bool) (list : List Acquisition) (l : LockNumber) (a : Acquisition) → is_left unmet l ≡ true → a.taken ≡ l →
    AreMet unmet list → TakesOnce list → TakesOnce (list ++ a ∷ [])
once_more unmet list l a among same met once =
    all_pairs_push (λ (b c : Acquisition). b.taken ≢ c.taken) list a once (λ k d there is.
    let bad : true ≡ false = sym among ∙ (ap (is_left unmet) (sym (is ∙ same)) ∙ met k d there) in absurd (cc))

-- from the first acquisition on that takes a lock, each lock is taken once where it is on the whole path
pub once_from : (l : LockNumber) (list : List Acquisition) → TakesOnce list → IfSome (from_taken l list) TakesOnce
once_from l [] once = tt
once_from l (a ∷ list) once =
    by (same_lock l a.taken) (once_from l list (λ i j d less within. once (suc i) (suc j) d (omega (arith, less)) (omega (arith, within))))
  where
    by : (b : Bool) → IfSome (from_taken l list) TakesOnce → IfSome (if b then Some (a ∷ list) else from_taken l list) TakesOnce
    by true later = once
    by false later = later

-- ---- where a path comes round

-- a path to a lock that it took is a circle from there on
pub comes_round : (g : Graph) (k : Certificate) (from : LockNumber) (list : List Acquisition) (to : LockNumber) →
    IsPath g k from list to → IfSome (from_taken to list) (IsCircle g k)
comes_round g k from [] to h = tt
comes_round g k from (a ∷ list) to h = by (same_lock to a.taken) refl (comes_round g k a.holding list to h.2)
  where
    by : (b : Bool) → same_lock to a.taken ≡ b → IfSome (from_taken to list) (IsCircle g k) →
        IfSome (if b then Some (a ∷ list) else from_taken to list) (IsCircle g k)
    by true e later =
        let same : to ≡ a.taken = place_same to a.taken (eqb-true (place_of to) (place_of a.taken) e) in
        (h.0, refl, subst (λ l. IsPath g k a.holding list l) same h.2)
    by false e later = later

-- a lock that is taken is found
is_found : (l : LockNumber) (list : List Acquisition) → takes l list ≡ true → from_taken l list ≡ None → ⊥
is_found l [] h none = absurd (cc)
is_found l (a ∷ list) h none = by (same_lock l a.taken) h none (is_found l list)
  where
    by : (b : Bool) → (b || takes l list) ≡ true → (if b then Some (a ∷ list) else from_taken l list) ≡ None →
        (takes l list ≡ true → from_taken l list ≡ None → ⊥) → ⊥
    by true h none later = absurd (cc)
    by false h none later = later h none

-- so there is no list in which it isn't
pub none_found : (l : LockNumber) (list : List Acquisition) (P : Type 0) → takes l list ≡ true → IfNone (from_taken l list) P
none_found l list P h = by (from_taken l list) refl
  where
    by : (o : Option (List Acquisition)) → from_taken l list ≡ o → IfNone o P
    by None none = absurd (is_found l list h none)
    by (Some circle) e = tt

-- ---- no order

-- along a path ranks fall by one at each acquisition at least
falls : (g : Graph) (k : Certificate) (o : TakesInOrder g k) (from : LockNumber) (list : List Acquisition) (to : LockNumber) →
    IsPath g k from list to → o.rank (place_of to) + length list ≤ o.rank (place_of from)
falls g k o from [] to h = let same = ap (λ l. o.rank (place_of l)) h in omega (arith, same)
falls g k o from (a ∷ list) to h =
    let less = o.ordered a h.0 in
    let same = ap (λ l. o.rank (place_of l)) h.1 in
    omega (arith, less, same, falls g k o a.holding list to h.2)

-- a circle has no order
pub circles_have_no_order : CirclesHaveNoOrder
circles_have_no_order g k [] c o = c
circles_have_no_order g k (a ∷ list) c o = absurd (omega (arith, falls g k o a.taken (a ∷ list) a.taken c))

-- so where there is one, there is no circle
pub none_ordered : (g : Graph) (k : Certificate) (o : Option (List Acquisition)) → IfSome o (IsCircle g k) → TakesInOrder g k → IsNone o
none_ordered g k None c order = refl
none_ordered g k (Some circle) c order = absurd (circles_have_no_order g k circle c order)

-- what holds where nothing is answered, and nothing is
pub if_none : {X : Type 0} {P : Type 0} (o : Option X) → IsNone o → IfNone o P → P
if_none None e h = h
if_none (Some x) e h = absurd (cc)

-- ---- two acquisitions or more

-- a test that finds no rule of a list broken, at one of them
fails_at : (test : Rule → Bool) (rs : List Rule) (i : ℕ) → find test rs ≡ None → i < length rs → test (get_or rs i R01) ≡ false
fails_at test [] i e h = absurd (omega (arith, h))
fails_at test (r ∷ rs) i e h = by (test r) i refl e h (fails_at test rs)
  where
    by : (b : Bool) (i : ℕ) → test r ≡ b → cond b (Some r) (find test rs) ≡ None → i < suc (length rs) →
        ((i : ℕ) → find test rs ≡ None → i < length rs → test (get_or rs i R01) ≡ false) → test (get_or (r ∷ rs) i R01) ≡ false
    by true i t e h later = absurd (cc)
    by false zero t e h later = t
    by false (suc i) t e h later = later i e (omega (arith, h))

-- a transfer that succeeds has found no broken rule
none_broken : (b : Option Rule) (n m : Successors) → unless_broken b n ≡ Ok m → b ≡ None
none_broken (Some r) n m e = absurd (cc)
none_broken None n m e = refl

-- a call that takes a lock breaks R11 where it is held
call_taking : (x : State) (l : LockNumber) (k : Call) (o : Option LockNumber) → taken_by_call k o ≡ Some l →
    (is_need_not_held (row k).needs.lock && takes_held_lock x o) ≡ false → holds_lock l x.locks ≡ true → ⊥
call_taking x l (call.AcquireLock kind) o e f h =
    let bad : true ≡ false = sym h ∙ subst (λ o. takes_held_lock x o ≡ false) e f in absurd (cc)
call_taking x l call.AcquirePushLockShared o e f h =
    let bad : true ≡ false = sym h ∙ subst (λ o. takes_held_lock x o ≡ false) e f in absurd (cc)
call_taking x l _ o e f h = absurd (cc)

-- so no instruction takes a lock that is held
taking : (s : Setting) (x : State) (i : Instruction) (l : LockNumber) → taken_by i ≡ Some l → first_broken s x i ≡ None →
    holds_lock l x.locks ≡ true → ⊥
taking s x (instruction.Call c granted failed) l e f h =
    call_taking x l (roles c).call (roles c).lock e (fails_at (breaks s x (instruction.Call c granted failed)) rules 10 f (omega arith)) h
taking s x _ l e f h = absurd (cc)

-- whoever takes a lock doesn't hold it, where the certificate covers the graph
not_held : (g : Graph) (k : Certificate) → Covers g k → (a : Acquisition) → IsAcquired g k a → a.taken ≡ a.holding → ⊥
not_held g k c a q same =
    let there : a.callback < length g.callbacks = omega (arith, callback_within k a.callback a.point q.state q.reached, c.callbacks) in
    let within : a.point < points_at g a.callback =
    omega (arith, point_within k a.callback a.point q.state q.reached, c.points a.callback there) in
    let steps = c.steps a.callback a.point q.state there within q.reached in
    taking (setting_of g a.callback q.state) q.state (instruction_at g a.callback a.point) a.taken q.takes
    (none_broken (first_broken (setting_of g a.callback q.state) q.state (instruction_at g a.callback a.point)) _ _ steps.1)
    (subst (λ l. holds_lock l q.state.locks ≡ true) (sym same) q.holds)

-- so a circle of one is none
pub two_at_least : (g : Graph) (k : Certificate) → Covers g k → (o : Option (List Acquisition)) → IfSome o (IsCircle g k) →
    IfSome o (λ c. 2 ≤ length c)
two_at_least g k c None h = tt
two_at_least g k c (Some []) h = absurd h
two_at_least g k c (Some (a ∷ [])) h = absurd (not_held g k c a h.0 (sym h.2))
two_at_least g k c (Some (a ∷ b ∷ circle)) h = omega arith
