-- What the slots of a lock's holders say, and the places of those that hold it.
use Rattle.std.specs.Prelude.{◌≡◌, ℕ, ◌+◌, Bool, true, false, not, ◌&&◌, ◌||◌, ◌==◌, if◌then◌else◌}
use Rattle.std.specs.Prelude.{List, [], ◌∷◌, Option, Some, None, length, get_or}
use Rattle.std.specs.BTreeMap.{is_at}
use Rattle.std.specs.List.{list_all}
use Rattle.std.specs.Map.{lookup}
use Rattle.std.specs.Ordering.{nat_cmp}
use Rattle.flt_rules.specs.Held.{same_access}
use Rattle.flt_rules.specs.declared.held.Access.{Access}
use Rattle.flt_rules.specs.declared.held.Access.TheVariants.{Exclusive, Shared}
use Rattle.flt_model.specs.Locks.{may_join}
use Rattle.flt_model.specs.declared.parts.Holder.{Holder}

-- the holders that are left
abbrev pub left : List (Option Holder) → List Holder
left [] = []
left (None ∷ slots) = left slots
left (Some h ∷ slots) = h ∷ left slots

-- whether the slot is that of an activation
abbrev pub is_slot_of : ℕ → Option Holder → Bool
is_slot_of a None = false
is_slot_of a (Some h) = h.activation == a

-- whether an activation may take the lock so beside the holder of a slot
abbrev pub may_join_slot : ℕ → Access → Option Holder → Bool
may_join_slot a access None = true
may_join_slot a access (Some h) = may_join a access h

-- whether the holder is this activation, which holds the lock so
abbrev pub is_own : Access → ℕ → Holder → Bool
is_own access a h = (h.activation == a) && same_access access h.access

-- whether the slot is that of such a holder
abbrev pub is_owned : Access → ℕ → Option Holder → Bool
is_owned access a None = false
is_owned access a (Some h) = is_own access a h

-- how many hold the lock so
abbrev pub how_many : Access → List Holder → ℕ
how_many access [] = 0
how_many access (h ∷ holders) = (if same_access access h.access then 1 else 0) + how_many access holders

-- whether nobody else holds the lock so
abbrev pub no_other : Access → ℕ → List Holder → Bool
no_other access a = list_all (λ (h : Holder). not (same_access access h.access) || (h.activation == a))

-- no slot is such a holder's, or only one is
abbrev pub IsOnly : Access → ℕ → List (Option Holder) → Option ℕ → Type 0
IsOnly access a slots None = (p : ℕ) → is_owned access a (get_or slots p None) ≡ false
IsOnly access a slots (Some q) =
    (is_owned access a (get_or slots q None) ≡ true) × ((p : ℕ) → (p ≡ q → ⊥) → is_owned access a (get_or slots p None) ≡ false)

-- the places are those of the activations that hold the lock so
pub record ArePlaces (access : Access) (slots : List (Option Holder)) (places : List (ℕ × ℕ)) : Type 0 where
  pub each : (a : ℕ) → IsOnly access a slots (lookup (is_at (nat_cmp a)) places)
  pub counted : length places ≡ how_many access (left slots)

-- so it is with those that hold it exclusively and those that share it
pub record AreSlots (slots : List (Option Holder)) (alone beside : List (ℕ × ℕ)) : Type 0 where
  pub exclusive : ArePlaces Exclusive slots alone
  pub shared : ArePlaces Shared slots beside
