-- What the tests of a standing's parts say.
use Rattle.std.proofs.Math.Seq.{take-length}
use Rattle.std.proofs.Common.{◌≡◌, ℕ, ◌-◌, ◌≤◌, arith, Bool, true, false, not, ◌&&◌, ◌==◌, List, [], ◌∷◌, length}
use Rattle.std.proofs.Common.{take, drop, get_or, subst, Option, Some, None, refl, ap, sym, ◌∙◌, eqb}
use Rattle.std.specs.Bool.{Decides}
use Rattle.std.specs.Cmp.Lexicographic.{pointwise}
use Rattle.std.specs.Option.{option_eq}
use Rattle.std.proofs.lemmas.Bool.Decides.{Decides-eqb, Decides-and, Decides-like}
use Rattle.std.proofs.lemmas.Bool.{or_parts, and_parts}
use Rattle.std.proofs.lemmas.Option.{same_Some}
use Rattle.std.proofs.lemmas.Slice.Eq.{slice_eq-Decides}
use Rattle.flt_graph.specs.declared.turns.Turn.{Turn}
use Rattle.flt_rules.specs.Call.{lock_at, place_of}
use Rattle.flt_rules.specs.Held.{same_lock, same_access, same_held, holds_lock, without_last}
use Rattle.flt_rules.specs.declared.call.LockNumber.{LockNumber}
use Rattle.flt_rules.specs.declared.call.LockNumber.TheVariants.{L0, L1, L2, L3, L4, L5, L6, L7}
use Rattle.flt_rules.specs.declared.held.Access.{Access}
use Rattle.flt_rules.specs.declared.held.Access.TheVariants.{Exclusive, Shared}
use Rattle.flt_rules.specs.declared.held.HeldLock.{HeldLock}
use Rattle.flt_machine_frames.specs.Turns.{same_turn}

-- ---- turns

turn_decides : (t u : Turn) → Decides (same_turn t u) (t ≡ u)
turn_decides t u =
    Decides-like (same_turn t u)
    (λ (p : (t.point ≡ u.point) × (t.left ≡ u.left)). let same : t ≡ u = (λ i. record { point = p.0 i; left = p.1 i }) in same)
    (λ (e : t ≡ u). (ap (λ (x : Turn). x.point) e, ap (λ (x : Turn). x.left) e))
    (Decides-and (t.point == u.point) (t.left == u.left) (Decides-eqb t.point u.point) (Decides-eqb t.left u.left))

-- turns compared one by one are compared as lists
pub turns_decide : (ts us : List Turn) (r : Bool) → r ≡ pointwise same_turn ts us → Decides r (ts ≡ us)
turns_decide ts us r e = slice_eq-Decides turn_decides ts us r e

-- ---- locks

at_place : (l : LockNumber) → lock_at (place_of l) ≡ Some l
at_place L0 = refl
at_place L1 = refl
at_place L2 = refl
at_place L3 = refl
at_place L4 = refl
at_place L5 = refl
at_place L6 = refl
at_place L7 = refl

lock_decides : (l m : LockNumber) → Decides (same_lock l m) (l ≡ m)
lock_decides l m =
    Decides-like (same_lock l m)
    (λ (e : place_of l ≡ place_of m). same_Some l m (sym (at_place l) ∙ ap (λ (n : ℕ). lock_at n) e ∙ at_place m))
    (λ (e : l ≡ m). ap (λ (x : LockNumber). place_of x) e)
    (Decides-eqb (place_of l) (place_of m))

access_decides : (a b : Access) → Decides (same_access a b) (a ≡ b)
access_decides Exclusive Exclusive = (λ e. refl, λ e. refl)
access_decides Exclusive Shared = (λ e. absurd (cc), λ e. absurd (cc))
access_decides Shared Exclusive = (λ e. absurd (cc), λ e. absurd (cc))
access_decides Shared Shared = (λ e. refl, λ e. refl)

held_decides : (h k : HeldLock) → Decides (same_held h k) (h ≡ k)
held_decides h k =
    Decides-like (same_held h k)
    (λ (p : (h.lock ≡ k.lock) × (h.access ≡ k.access)). let same : h ≡ k = (λ i. record { lock = p.0 i; access = p.1 i }) in same)
    (λ (e : h ≡ k). (ap (λ (x : HeldLock). x.lock) e, ap (λ (x : HeldLock). x.access) e))
    (Decides-and (same_lock h.lock k.lock) (same_access h.access k.access) (lock_decides h.lock k.lock) (access_decides h.access k.access))

-- held locks compared one by one are compared as lists
pub locks_decide : (hs ks : List HeldLock) (r : Bool) → r ≡ pointwise same_held hs ks → Decides r (hs ≡ ks)
locks_decide hs ks r e = slice_eq-Decides held_decides hs ks r e

-- ---- variables

option_decides : (x y : Option ℕ) → Decides (option_eq eqb x y) (x ≡ y)
option_decides None None = (λ e. refl, λ e. refl)
option_decides None (Some y) = (λ e. absurd (cc), λ e. absurd (cc))
option_decides (Some x) None = (λ e. absurd (cc), λ e. absurd (cc))
option_decides (Some x) (Some y) =
    Decides-like (x == y) (λ (e : x ≡ y). ap (λ (n : ℕ). Some n) e) (λ (e : Some x ≡ Some y). same_Some x y e) (Decides-eqb x y)

-- numbers compared one by one are compared as lists
pub numbers_decide : (xs ys : List ℕ) (r : Bool) → r ≡ pointwise eqb xs ys → Decides r (xs ≡ ys)
numbers_decide xs ys r e = slice_eq-Decides Decides-eqb xs ys r e

-- options compared one by one are compared as lists
pub options_decide : (xs ys : List (Option ℕ)) (r : Bool) → r ≡ pointwise (option_eq eqb) xs ys → Decides r (xs ≡ ys)
options_decide xs ys r e = slice_eq-Decides option_decides xs ys r e

-- ---- locks that are given up

-- where the lock isn't among some, none of them goes
none_goes : (l : LockNumber) (hs : List HeldLock) → holds_lock l hs ≡ false → without_last l hs ≡ hs
none_goes l [] e = refl
none_goes l (h ∷ hs) e =
    let parts = or_parts (same_lock l h.lock) (holds_lock l hs) e in
    let other : same_lock l h.lock ≡ false = parts.0 in
    rw other (ap (λ (ks : List HeldLock). h ∷ ks) (none_goes l hs parts.1))

-- the last entry of the lock goes
pub last_goes : (l : LockNumber) (h : HeldLock) (hs : List HeldLock) → (same_lock l h.lock && not (holds_lock l hs)) ≡ true →
    without_last l (h ∷ hs) ≡ without_last l hs
last_goes l h hs e = rw e (sym (none_goes l hs (by (holds_lock l hs) (and_parts (same_lock l h.lock) (not (holds_lock l hs)) e).1)))
  where
    by : (b : Bool) → not b ≡ true → b ≡ false
    by true e = absurd (cc)
    by false e = refl

-- any other stays
pub other_stays : (l : LockNumber) (h : HeldLock) (hs : List HeldLock) → (same_lock l h.lock && not (holds_lock l hs)) ≡ false →
    without_last l (h ∷ hs) ≡ h ∷ without_last l hs
other_stays l h hs e = rw e refl

-- the first of some goes, where it is the lock's last entry
pub first_goes : (l : LockNumber) (hs : List HeldLock) (d : HeldLock) → 1 ≤ length hs →
    (same_lock l (get_or hs 0 d).lock && not (holds_lock l (take (length hs - 1) (drop 1 hs)))) ≡ true →
    without_last l (take (length hs - 1) (drop 1 hs)) ≡ without_last l hs
first_goes l [] d some e = absurd (omega arith)
first_goes l (h ∷ hs) d some e =
    let counted : length (h ∷ hs) - 1 ≡ length hs = omega arith in
    let whole : take (length (h ∷ hs) - 1) hs ≡ hs = ap (λ (n : ℕ). take n hs) counted ∙ take-length hs in
    let goes : (same_lock l h.lock && not (holds_lock l hs)) ≡ true =
    subst (λ (ks : List HeldLock). (same_lock l h.lock && not (holds_lock l ks)) ≡ true) whole e in
    ap (λ (ks : List HeldLock). without_last l ks) whole ∙ sym (last_goes l h hs goes)
