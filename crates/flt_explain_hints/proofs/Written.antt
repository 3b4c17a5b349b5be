-- What is written piece by piece.
use Rattle.std.proofs.Common.{◌≡◌, ℕ, List, ◌++◌, Result, Ok, Err, ap, ◌∙◌, append_assoc, append-nil}
use Rattle.std.specs.Prelude.{OnOk}
use Rattle.std.specs.declared.alloc.AllocError.{AllocError}

-- pieces that are written one behind the other
pub ruleset joined = (append_assoc, append-nil)

-- two pieces, by what was written before them and after each
pub two_pieces : (r : Result (Unit {0}) AllocError) (before one two a b : List ℕ) → one ≡ before ++ a → OnOk r (two ≡ one ++ b) →
    OnOk r (two ≡ before ++ (a ++ b))
two_pieces (Ok x) before one two a b p s = s ∙ ap (λ z. z ++ b) p ∙ append_assoc before a b
two_pieces (Err e) before one two a b p s = tt

-- three
pub three_pieces : (r : Result (Unit {0}) AllocError) (before one two three a b c : List ℕ) → one ≡ before ++ a → two ≡ one ++ b →
    OnOk r (three ≡ two ++ c) → OnOk r (three ≡ before ++ (a ++ (b ++ c)))
three_pieces (Ok x) before one two three a b c p q s =
    s ∙ ap (λ z. z ++ c) (q ∙ ap (λ z. z ++ b) p) ∙ append_assoc (before ++ a) b c ∙ append_assoc before a (b ++ c)
three_pieces (Err e) before one two three a b c p q s = tt

-- four
pub four_pieces : (r : Result (Unit {0}) AllocError) (before one two three four a b c d : List ℕ) → one ≡ before ++ a → two ≡ one ++ b →
    three ≡ two ++ c → OnOk r (four ≡ three ++ d) → OnOk r (four ≡ before ++ (a ++ (b ++ (c ++ d))))
four_pieces (Ok x) before one two three four a b c d p q t s =
    s ∙ ap (λ z. z ++ d) (t ∙ ap (λ z. z ++ c) (q ∙ ap (λ z. z ++ b) p)) ∙ append_assoc ((before ++ a) ++ b) c d
    ∙ append_assoc (before ++ a) b (c ++ d) ∙ append_assoc before a (b ++ (c ++ d))
four_pieces (Err e) before one two three four a b c d p q t s = tt
