-- How the holders of a lock are kept: each at a place of its own, which stays empty once it has given the lock back.
use Rattle.std.specs.Prelude.{◌≡◌, ℕ, Bool, false, true, not, ◌==◌, List, length, filter, filter_map, get_or, Option, Some, None}
use Rattle.std.specs.BTreeMap.{is_at}
use Rattle.std.specs.Map.{lookup}
use Rattle.std.specs.Ordering.{nat_cmp}
use Rattle.flt_model.specs.Locks.{may_join}
use Rattle.flt_model.specs.declared.parts.Holder.{Holder}
use Rattle.flt_rules.specs.Held.{are_compatible}
use Rattle.flt_rules.specs.declared.held.Access.{Access}
use Rattle.flt_rules.specs.declared.held.Access.TheVariants.{Exclusive, Shared}

-- who stands at the places, in their order
abbrev pub standing : List (Option Holder) → List Holder
standing places = filter_map (λ (p : Option Holder). p) places

-- whether the activation stands there
abbrev pub is_of : ℕ → Option Holder → Bool
is_of a None = false
is_of a (Some h) = h.activation == a

-- who stands at a place
abbrev pub at_place : List (Option Holder) → ℕ → Option Holder
at_place places p = get_or places p None

-- the place that is noted for the activation
unfoldable pub place_in : List (ℕ × ℕ) → ℕ → Option ℕ
place_in noted a = lookup (is_at (nat_cmp a)) noted

-- whether it is this place
abbrev pub is_place : ℕ → Option ℕ → Bool
is_place p None = false
is_place p (Some q) = q == p

-- whether an activation may take the lock so beside who stands there
abbrev pub is_free : ℕ → Access → Option Holder → Bool
is_free a access None = true
is_free a access (Some h) = may_join a access h

-- whether a holder holds the lock alone
abbrev pub is_alone : Holder → Bool
is_alone h = not (are_compatible h.access Shared)

-- how many of one holder hold it alone
abbrev pub weight : Access → ℕ
weight Exclusive = 1
weight Shared = 0

-- each activation stands at the place that is noted for it and nowhere else; and how many hold the lock, and how many of them alone
pub record AreNoted (places : List (Option Holder)) (noted : List (ℕ × ℕ)) (count alone : ℕ) : Type 0 where
  pub there : (a p : ℕ) → is_of a (at_place places p) ≡ is_place p (place_in noted a)
  pub all : count ≡ length (standing places)
  pub lone : alone ≡ length (filter is_alone (standing places))

-- so it is as long as no activation took the lock while it held it
abbrev pub AreHeld : List (Option Holder) → List (ℕ × ℕ) → ℕ → ℕ → Bool → Type 0
AreHeld places noted count alone repeats = repeats ≡ false → AreNoted places noted count alone
