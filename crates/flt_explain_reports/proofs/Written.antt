-- Pieces that are written one after the other.
use Rattle.std.proofs.Common.{◌≡◌, ◌∙◌, ℕ, List, ◌++◌, Result, Ok, Err, ap, append_assoc}
use Rattle.std.specs.Prelude.{OnOk}
use Rattle.std.specs.declared.alloc.AllocError.{AllocError}

-- two of them
pub two_pieces : (r : Result (Unit {0}) AllocError) (before one two a b : List ℕ) → one ≡ before ++ a → OnOk r (two ≡ one ++ b) →
    OnOk r (two ≡ before ++ (a ++ b))
two_pieces (Ok x) before one two a b first second = second ∙ ap (λ z. z ++ b) first ∙ append_assoc before a b
two_pieces (Err e) before one two a b first second = tt

-- three of them
pub three_pieces : (r : Result (Unit {0}) AllocError) (before one two three a b c : List ℕ) → one ≡ before ++ a → two ≡ one ++ b →
    OnOk r (three ≡ two ++ c) → OnOk r (three ≡ before ++ (a ++ (b ++ c)))
three_pieces (Ok x) before one two three a b c first second third =
    third ∙ ap (λ z. z ++ c) (second ∙ ap (λ z. z ++ b) first ∙ append_assoc before a b) ∙ append_assoc before (a ++ b) c
    ∙ ap (λ z. before ++ z) (append_assoc a b c)
three_pieces (Err e) before one two three a b c first second third = tt
