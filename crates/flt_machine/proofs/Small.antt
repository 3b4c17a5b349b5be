-- Locks that differ are eight at most, and what a standing counts goes on little by little.
use Rattle.std.proofs.Common.{◌≡◌, ℕ, ◌+◌, ◌*◌, Some, None, ◌<◌, ◌≤◌, ◌^◌, ◌==◌, Bool, true, false, not, ◌&&◌, ◌||◌, List}
use Rattle.std.proofs.Common.{[], ◌∷◌, ◌++◌, length, map, if◌then◌else◌, ap, sym, subst, refl, ◌∙◌, inl, inr, arith}
use Rattle.std.proofs.Math.Dec.{eqb}
use Rattle.std.proofs.lemmas.Bool.{cases_eq, eq-eqb, ne_eqb}
use Rattle.std.proofs.lemmas.List.{length-append, length-map}
use Rattle.std.proofs.lemmas.Map.Keys.{IsDistinct-cons, IsDistinct-from_apart}
use Rattle.std.proofs.lemmas.Map.Steps.{length-le_from_distinct_below}
use Rattle.std.specs.List.{AllByRecursion, IsDistinct, list_any}
use Rattle.flt_rules.specs.Call.{place_of}
use Rattle.flt_rules.specs.Held.{held, holds_lock, same_lock, without_last}
use Rattle.flt_rules.specs.declared.call.LockNumber.{LockNumber}
use Rattle.flt_rules.specs.declared.call.LockNumber.TheVariants.{L0, L1, L2, L3, L4, L5, L6, L7}
use Rattle.flt_rules.specs.declared.held.Access.{Access}
use Rattle.flt_rules.specs.declared.held.HeldLock.{HeldLock}
use Rattle.flt_machine_calls.specs.Continuing.{HasRoom}
use Rattle.flt_machine_calls.specs.Plans.{TakesNone, written, is_end}
use Rattle.flt_machine_calls.specs.declared.plans.Write.{Write}
use Rattle.flt_machine_calls.specs.declared.plans.Write.TheVariants as write
use Rattle.flt_machine_frames.specs.Standings.{activation_with}
use Rattle.flt_machine_frames.specs.declared.standing.Standing.{Standing}
use Rattle.flt_model.specs.World.{Activation}
use Rattle.flt_machine.specs.Counted.{AreApart, AreDistinct, IsSmall}
use Rattle.flt_rules.specs.Limits.{max_entries, max_filters}

-- ---- locks

-- locks by their places
abbrev places_of : List HeldLock → List ℕ
places_of locks = map (λ (h : HeldLock). place_of h.lock) locks

below : (l : LockNumber) → place_of l < 8
below L0 = omega arith
below L1 = omega arith
below L2 = omega arith
below L3 = omega arith
below L4 = omega arith
below L5 = omega arith
below L6 = omega arith
below L7 = omega arith

all_below : (locks : List HeldLock) (q : ℕ) → list_any (eqb q) (places_of locks) ≡ true → q < 8
all_below [] q is = absurd (cc)
all_below (h ∷ locks) q is = elim (cases_eq q (place_of h.lock)) [
  | inl same ↦ subst (λ (n : ℕ). n < 8) (sym same) (below h.lock)
  | inr differs ↦ all_below locks q
      (ap (λ (b : Bool). b || list_any (eqb q) (places_of locks)) (sym (ne_eqb q (place_of h.lock) differs)) ∙ is)
]

places_apart : (n : ℕ) (locks : List HeldLock) → AreApart n locks → AllByRecursion (λ (y : ℕ). eqb n y ≡ false) (places_of locks)
places_apart n [] apart = tt
places_apart n (h ∷ locks) (one, others) = (one, places_apart n locks others)

places_distinct : (locks : List HeldLock) → AreDistinct locks → IsDistinct eqb (places_of locks)
places_distinct [] distinct = IsDistinct-from_apart eqb [] (λ i j d a b. absurd (omega (arith, b)))
places_distinct (h ∷ locks) (one, others) =
    IsDistinct-cons eqb (place_of h.lock) (places_of locks) (places_apart (place_of h.lock) locks one) (places_distinct locks others)

-- no more locks than a filter may have
eight : (locks : List HeldLock) → AreDistinct locks → length locks ≤ 8
eight locks distinct = subst (λ (n : ℕ). n ≤ 8) (length-map locks (λ (h : HeldLock). place_of h.lock))
    (length-le_from_distinct_below (places_of locks) 8 (places_distinct locks distinct) (all_below locks))

first : (b c : Bool) → (b || c) ≡ false → b ≡ false
first false c is = refl
first true c is = absurd (cc)

second : (b c : Bool) → (b || c) ≡ false → c ≡ false
second false c is = is
second true c is = absurd (cc)

module _ (l : LockNumber) (access : Access) where
  turned : (h : HeldLock) → same_lock l h.lock ≡ false → (place_of h.lock == place_of l) ≡ false
  turned h differs = elim (cases_eq (place_of h.lock) (place_of l)) [
    | inl same ↦ absurd (let it : same_lock l h.lock ≡ true = eq-eqb (place_of l) (place_of h.lock) (sym same) in cc)
    | inr other ↦ ne_eqb (place_of h.lock) (place_of l) other
  ]

  pushed_apart : (n : ℕ) (locks : List HeldLock) → (n == place_of l) ≡ false → AreApart n locks → AreApart n (locks ++ held l access ∷ [])
  pushed_apart n [] differs all = (differs, tt)
  pushed_apart n (k ∷ locks) differs (one, others) = (one, pushed_apart n locks differs others)

  -- one lock more that isn't held
  pub taken : (locks : List HeldLock) → AreDistinct locks → holds_lock l locks ≡ false → AreDistinct (locks ++ held l access ∷ [])
  taken [] distinct free = (tt, tt)
  taken (h ∷ locks) (one, others) free = (
    pushed_apart (place_of h.lock) locks (turned h (first (same_lock l h.lock) (holds_lock l locks) free)) one,
    taken locks others (second (same_lock l h.lock) (holds_lock l locks) free),
  )

  -- a lock that isn't held has its place
  pub has_place : (locks : List HeldLock) → AreDistinct locks → holds_lock l locks ≡ false → length locks < 8
  has_place locks distinct free =
      omega (arith, eight (locks ++ held l access ∷ []) (taken locks distinct free), length-append locks (held l access ∷ []))

either_apart : (n : ℕ) (b : Bool) (locks others : List HeldLock) →
    AreApart n locks → AreApart n others → AreApart n (if b then locks else others)
either_apart n true locks others one other = one
either_apart n false locks others one other = other

either_distinct : (b : Bool) (locks others : List HeldLock) →
    AreDistinct locks → AreDistinct others → AreDistinct (if b then locks else others)
either_distinct true locks others one other = one
either_distinct false locks others one other = other

module _ (l : LockNumber) where
  still_apart : (n : ℕ) (locks : List HeldLock) → AreApart n locks → AreApart n (without_last l locks)
  still_apart n [] all = tt
  still_apart n (h ∷ locks) (one, others) = either_apart n (same_lock l h.lock && not (holds_lock l locks)) locks
      (h ∷ without_last l locks) others (one, still_apart n locks others)

  given_up : (locks : List HeldLock) → AreDistinct locks → AreDistinct (without_last l locks)
  given_up [] distinct = tt
  given_up (h ∷ locks) (one, others) =
      either_distinct (same_lock l h.lock && not (holds_lock l locks)) locks (h ∷ without_last l locks) others
      (still_apart (place_of h.lock) locks one, given_up locks others)

written_locks : (x : Write) (s later : Standing) → is_end x ≡ false → TakesNone s.locks x →
    activation_with later [] ≡ written x (activation_with s []) → AreDistinct s.locks → AreDistinct later.locks
written_locks x s later goes free same distinct = subst AreDistinct (sym (ap (λ (act : Activation). act.locks) same)) (by x goes free)
  where
    by : (x : Write) → is_end x ≡ false → TakesNone s.locks x → AreDistinct (written x (activation_with s [])).locks
    by write.Nothing goes free = distinct
    by (write.Number n value) goes free = distinct
    by (write.Output None x) goes free = distinct
    by (write.Output (Some d) x) goes free = distinct
    by (write.Removed o v d x) goes free = distinct
    by (write.Take l access) goes free = taken l access s.locks distinct free
    by (write.GiveUp l) goes free = given_up l s.locks distinct
    by write.End goes free = absurd (cc)

-- a standing that is written stays small, where one entry more comes
pub written_small : (n : ℕ) (x : Write) (s later : Standing) →
    is_end x ≡ false → TakesNone s.locks x → activation_with later [] ≡ written x (activation_with s []) →
    later.gained ≤ s.gained + 16 → later.lost ≤ s.lost + 16 → IsSmall n s → IsSmall (n + 1) later
written_small n x s later goes free same gained lost small = record {
  gained = omega (arith, gained, small.gained);
  lost = omega (arith, lost, small.lost);
  locks = written_locks x s later goes free same small.locks;
}

-- a standing stays small where entries come
pub stays_small : (n : ℕ) (s : Standing) → IsSmall n s → IsSmall (n + 1) s
stays_small n s small = record { gained = omega (arith, small.gained); lost = omega (arith, small.lost); locks = small.locks }

-- there is room for what is written
pub has_room : (s : Standing) (x : Write) → TakesNone s.locks x → AreDistinct s.locks → HasRoom s x
has_room s (write.Take l access) free distinct = has_place l access s.locks distinct free
has_room s write.Nothing free distinct = tt
has_room s (write.Number n value) free distinct = tt
has_room s (write.Output d x) free distinct = tt
has_room s (write.Removed o v d x) free distinct = tt
has_room s (write.GiveUp l) free distinct = tt
has_room s write.End free distinct = tt

-- counts that are so small grow
pub counts_on : (n : ℕ) → n ≤ max_filters * max_entries → n + 16 < 2 ^ 64
counts_on n few = omega (arith, few)

-- what isn't the end doesn't end
pub goes : (x : Write) → (x ≡ write.End → ⊥) → is_end x ≡ false
goes write.Nothing not_end = refl
goes (write.Number n value) not_end = refl
goes (write.Output d x) not_end = refl
goes (write.Removed o v d x) not_end = refl
goes (write.Take l access) not_end = refl
goes (write.GiveUp l) not_end = refl
goes write.End not_end = absurd (not_end refl)
