-- Names of kinds of warnings.
use Rattle.std.proofs.Common.{◌≡◌, List, ℕ, Bool, Some, None, Bor, if◌then◌else◌, map, refl}
use Rattle.std.proofs.lemmas.List.Folds.{list_all-map}
use Rattle.std.specs.List.{list_all}
use Rattle.flt_words.specs.Values.{is_kind, kinds_in}

-- names are taken where each is the name of a kind, and else none is
pub kinds_if : (names slice : List (Bor (List ℕ))) (b : Bool) → slice ≡ names → b ≡ list_all (λ name. is_kind name.now) slice →
    kinds_in (map (λ name. name.now) names) ≡ (if b then Some (map (λ name. name.now) names) else None)
kinds_if names slice b same all = rw (all, same, list_all-map is_kind (λ (name : Bor (List ℕ)). name.now) names) refl
