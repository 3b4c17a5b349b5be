-- What the state at a point says of the variables of an activation that stands there: a variable that the state holds surely owns an
-- object, one that the state never holds owns none. So a call that passes the rules finds what it uses, and overwrites nothing held.
-- Here i is the place of a variable among the slots, x the object, e the equation that the rule leaves.
use Rattle.std.proofs.Common.{◌≡◌, ℕ, zero, suc, ◌+◌, ◌<◌, Bool, true, false, List, []}
use Rattle.std.proofs.Common.{◌∷◌, length, map, ap, sym, refl, ◌∙◌, arith, inl, inr}
use Rattle.std.specs.Prelude.{not, ◌&&◌, is_some, slice_index_or}
use Rattle.std.proofs.Math.ListN.{set, get_or}
use Rattle.std.proofs.lemmas.Bool.{and_parts, cases_eq, cases_lt}
use Rattle.std.proofs.lemmas.List.{get_or-set_same, get_or-set_other, set_past}
use Rattle.flt_tree.specs.Variable.{context_place, operation_place}
use Rattle.flt_tree.specs.declared.variable.ContextVariable.{ContextVariable}
use Rattle.flt_tree.specs.declared.variable.ContextVariable.TheVariants.{C0, C1, C2, C3, C4, C5, C6, C7, Arg}
use Rattle.flt_tree.specs.declared.variable.OperationVariable.{OperationVariable}
use Rattle.flt_tree.specs.declared.variable.OperationVariable.TheVariants.{Removed, Data}
use Rattle.flt_tree.specs.declared.variable.RemovedVariable.{RemovedVariable}
use Rattle.flt_tree.specs.declared.variable.RemovedVariable.TheVariants.{O0, O1, O2, O3}
use Rattle.flt_abs.specs.Outcome.{is_null}
use Rattle.flt_abs.specs.Sets.{StatusSet, null_alone, is_held}
use Rattle.flt_abs.specs.State.{has_status, have_statuses}
use Rattle.flt_sound.proofs.sums.Counts.{one_if-same}
use Rattle.flt_sound.proofs.sums.Eaches.{within}
use Rattle.flt_sound.proofs.sums.Shadows.{Slot, Unset, Owns, Past, value_of, status_of, own, own_all, own_all-set}

-- ---- one variable

-- the status of each variable is one of those that the state has for it
pub slot_has : (sets : List StatusSet) (slots : List Slot) (i : ℕ) → have_statuses sets (map status_of slots) ≡ true →
    has_status (slice_index_or sets i null_alone) (status_of (get_or slots i Unset)) ≡ true
slot_has [] [] i h = refl
slot_has [] (x ∷ slots) i h = absurd (cc)
slot_has (s ∷ sets) [] i h = absurd (cc)
slot_has (s ∷ sets) (x ∷ slots) zero h = (and_parts (has_status s (status_of x)) (have_statuses sets (map status_of slots)) h).0
slot_has (s ∷ sets) (x ∷ slots) (suc i) h =
    slot_has sets slots i (and_parts (has_status s (status_of x)) (have_statuses sets (map status_of slots)) h).1

-- the variable owns an object
pub record IsOwned (slot : Slot) : Type 0 where
  -- the object that it owns
  pub object : ℕ
  pub is : slot ≡ Owns object

held_by : (null held stale : Bool) (slot : Slot) → has_status (record { null = null; held = held; stale = stale }) (status_of slot) ≡ true →
    not (held && (not null && not stale)) ≡ false → IsOwned slot
held_by null held stale (Owns x) h e = record { object = x; is = refl }
held_by true true stale Unset h e = absurd (cc)
held_by true false stale Unset h e = absurd (cc)
held_by false held stale Unset h e = absurd (cc)
held_by null held false (Past x) h e = absurd (cc)
held_by true true true (Past x) h e = absurd (cc)
held_by false true true (Past x) h e = absurd (cc)
held_by null false true (Past x) h e = absurd (cc)

-- a variable that can only be held, by its state, owns an object
pub surely_held : (sets : List StatusSet) (slots : List Slot) (i : ℕ) → have_statuses sets (map status_of slots) ≡ true →
    not (is_held (slice_index_or sets i null_alone)) ≡ false → IsOwned (get_or slots i Unset)
surely_held sets slots i h e =
    let s = slice_index_or sets i null_alone in held_by s.null s.held s.stale (get_or slots i Unset) (slot_has sets slots i h) e

-- a variable whose statuses don't include held owns nothing
not_held_by : (s : StatusSet) (slot : Slot) (x : ℕ) → has_status s (status_of slot) ≡ true → s.held ≡ false → own x slot ≡ 0
not_held_by s Unset x h e = refl
not_held_by s (Past y) x h e = refl
not_held_by s (Owns y) x h e = let bad : true ≡ false = sym h ∙ e in absurd (cc)

-- a variable that can't be held, by its state, owns nothing
pub not_held : (sets : List StatusSet) (slots : List Slot) (i x : ℕ) → have_statuses sets (map status_of slots) ≡ true →
    (slice_index_or sets i null_alone).held ≡ false → own x (get_or slots i Unset) ≡ 0
not_held sets slots i x h e = not_held_by (slice_index_or sets i null_alone) (get_or slots i Unset) x (slot_has sets slots i h) e

-- a test of NULL finds what the variable's status says
pub some_same : (slot : Slot) → not (is_null (status_of slot)) ≡ is_some (value_of slot)
some_same Unset = refl
some_same (Owns x) = refl
some_same (Past x) = refl

-- a variable that owns something is there
pub owned_there : (slots : List Slot) (i x : ℕ) → get_or slots i Unset ≡ Owns x → i < length slots
owned_there slots i x e = within slots i Unset (λ d. let bad : Unset ≡ Owns x = sym d ∙ e in absurd (cc))

-- it owns its object once
pub owns_one : (slots : List Slot) (i x : ℕ) → get_or slots i Unset ≡ Owns x → own x (get_or slots i Unset) ≡ 1
owns_one slots i x e = rw e (one_if-same x)

-- ---- what all variables hold, where one changes

-- where a variable that owns nothing gets a value that owns nothing, what all hold stays the same
pub own_all-cleared : (x : ℕ) (slots : List Slot) (i : ℕ) (y : Slot) → own x (get_or slots i Unset) ≡ 0 → own x y ≡ 0 →
    own_all x (set slots i y) ≡ own_all x slots
own_all-cleared x slots i y a b =
    elim (cases_lt i (length slots)) [
      | inl h ↦ omega (arith, own_all-set x slots i y h)
      | inr h ↦ ap (λ l. own_all x l) (set_past slots i y h)
    ]

-- where a variable that owns nothing gets a value, what all hold grows by it
pub own_all-put : (x : ℕ) (slots : List Slot) (i : ℕ) (y : Slot) → own x (get_or slots i Unset) ≡ 0 → i < length slots →
    own_all x (set slots i y) ≡ own_all x slots + own x y
own_all-put x slots i y a h = omega (arith, own_all-set x slots i y h)

-- ---- one variable changes, and the others stay

-- a change of a removed operation's variable leaves `data` as it was
pub data_stays : (ops : List Slot) (o : RemovedVariable) (x : Slot) →
    get_or (set ops (operation_place (Removed o)) x) 4 Unset ≡ get_or ops 4 Unset
data_stays ops O0 x = get_or-set_other ops 0 4 x Unset (λ e. absurd (omega arith))
data_stays ops O1 x = get_or-set_other ops 1 4 x Unset (λ e. absurd (omega arith))
data_stays ops O2 x = get_or-set_other ops 2 4 x Unset (λ e. absurd (omega arith))
data_stays ops O3 x = get_or-set_other ops 3 4 x Unset (λ e. absurd (omega arith))

-- what a variable owns after a change of one is what was put, or what it owned before
pub owned_before : (ops : List Slot) (i j : ℕ) (x : Slot) (v : ℕ) → get_or (set ops i x) j Unset ≡ Owns v → (x ≡ Owns v → ⊥) →
    get_or ops j Unset ≡ Owns v
owned_before ops i j x v e other =
    elim (cases_eq j i) [
      | inl h ↦ elim (cases_lt i (length ops)) [
        | inl there ↦ absurd (other (sym (get_or-set_same ops i x Unset there) ∙ (ap (λ k. get_or (set ops i x) k Unset) (sym h) ∙ e)))
        | inr past ↦ ap (λ l. get_or l j Unset) (sym (set_past ops i x past)) ∙ e
      ]
      | inr ne ↦ sym (get_or-set_other ops i j x Unset ne) ∙ e
    ]

-- ---- each variable has its slot

-- each context variable has one of the nine slots
pub context_there : (c : ContextVariable) → context_place c < 9
context_there C0 = omega arith
context_there C1 = omega arith
context_there C2 = omega arith
context_there C3 = omega arith
context_there C4 = omega arith
context_there C5 = omega arith
context_there C6 = omega arith
context_there C7 = omega arith
context_there Arg = omega arith

-- each operation variable has one of the five slots
pub operation_there : (d : OperationVariable) → operation_place d < 5
operation_there (Removed O0) = omega arith
operation_there (Removed O1) = omega arith
operation_there (Removed O2) = omega arith
operation_there (Removed O3) = omega arith
operation_there Data = omega arith
