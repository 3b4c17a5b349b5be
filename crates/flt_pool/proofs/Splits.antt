-- A list without one of its elements.
use Rattle.std.proofs.Common.{◌≡◌, ℕ, ◌+◌, List, ◌∷◌, ◌++◌, length, take, drop, ◌∙◌}
use Rattle.std.proofs.Math.Seq.{take-append_seam, drop-append-add}

module _ {A : Type 0} (earlier later : List A) (x : A) where
  around : take (length earlier) (earlier ++ x ∷ later) ++ drop (length earlier + 1) (earlier ++ x ∷ later) ≡ earlier ++ later
  around = λ i. take-append_seam earlier (x ∷ later) i ++ drop-append-add earlier (x ∷ later) 1 i

  -- what stands before and after the n-th
  pub without : (n : ℕ) (xs : List A) → n ≡ length earlier → xs ≡ earlier ++ x ∷ later → take n xs ++ drop (n + 1) xs ≡ earlier ++ later
  without n xs e f = (λ i. take (e i) (f i) ++ drop (e i + 1) (f i)) ∙ around
