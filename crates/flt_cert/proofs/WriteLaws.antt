-- Texts that are written piece by piece.
use Rattle.std.proofs.Common.{◌≡◌, ℕ, [], ◌∷◌, ◌++◌, append_assoc}
use Rattle.flt_cert.specs.Text.{Text}

-- five fields of a line, with blanks between them, are written one after the other
pub five_fields : (out a b e : Text) (c d : ℕ) (one two three four five : Text) →
    one ≡ out ++ (a ++ 32 ∷ []) → two ≡ one ++ (b ++ 32 ∷ []) → three ≡ two ++ c ∷ 32 ∷ [] → four ≡ three ++ d ∷ 32 ∷ [] →
    five ≡ four ++ e →
    five ≡ out ++ (a ++ 32 ∷ (b ++ 32 ∷ c ∷ 32 ∷ d ∷ 32 ∷ e))
five_fields out a b e c d one two three four five h i j k l = rw (l, k, j, i, h) (simp append_assoc)
