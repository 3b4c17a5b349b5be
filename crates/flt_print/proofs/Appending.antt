-- What is written one step at a time.
use Rattle.std.proofs.Common.{◌≡◌, ℕ, zero, suc, ◌+◌, [], ◌∷◌, ◌++◌, refl, sym, ap, ◌∙◌, add-one}
use Rattle.flt_print.specs.Line.{indentation}

below : (n : ℕ) → indentation n ++ 32 ∷ 32 ∷ [] ≡ indentation (suc n)
below zero = refl
below (suc n) = ap (λ l. 32 ∷ 32 ∷ l) (below n)

-- one level more
pub deeper : (n : ℕ) → indentation (n + 1) ≡ indentation n ++ 32 ∷ 32 ∷ []
deeper n = ap indentation (add-one n) ∙ sym (below n)
