-- The number of a text that no table has.
use Rattle.std.proofs.Common.{◌≡◌, ℕ, suc, ◌+◌, Bool, true, false, List, [], ◌∷◌, length, refl, arith}
use Rattle.std.specs.List.{list_any, position_or_len}
use Rattle.std.specs.Prelude.{◌||◌, cond, not}
use Rattle.std.specs.Str.{bytes_eq}
use Rattle.flt_c_tokens.specs.Bytes.{Text}
use Rattle.flt_c_tokens.specs.Spelled.{has_text, number_of}

absent : (p : Text → Bool) (ws : List Text) → list_any p ws ≡ false → length ws ≡ position_or_len p ws
absent p [] e = refl
absent p (w ∷ ws) e =
    elim (p w) as (λ b. (b || list_any p ws) ≡ false → suc (length ws) ≡ cond (not b) (1 + position_or_len p ws) 0) [
      | true ↦ λ h. absurd (cc)
      | false ↦ λ h. let same : length ws ≡ position_or_len p ws = absent p ws h in omega arith
    ] e

-- it is that of none
pub number_absent : (known : List Text) (w : Text) → has_text known w ≡ false → length known ≡ number_of known w
unfolding number_of
number_absent known w e = absent (bytes_eq w) known e
