-- The first of some words.
use Rattle.std.proofs.Common.{◌≡◌, ◌≤◌, ◌↔◌, ◌∙◌, ℕ, Bool, IsTrue, List, [], ◌∷◌, ap, arith, get_or, length, map, sym}
use Rattle.std.proofs.lemmas.Slice.Eq.{bytes_eq-Decides}
use Rattle.std.specs.Str.{bytes_eq}
use Rattle.flt_words.specs.Words.{BeginWith}

-- words begin with a word if the first is equal to it
pub begin_if_equal : {A : Type 0} (f : A → List ℕ) (words : List A) (word : List ℕ) (first : A) (equal : Bool) → 1 ≤ length words →
    first ≡ get_or words 0 first → equal ≡ bytes_eq (f first) word → IsTrue equal ↔ BeginWith word (map f words)
begin_if_equal f [] word first equal some is same = absurd (omega (arith, some))
begin_if_equal f (x ∷ rest) word first equal some is same =
    let decides = bytes_eq-Decides (f first) word in
    (λ holds. ap f (sym is) ∙ decides.0 (sym same ∙ holds), λ begins. same ∙ decides.1 (ap f is ∙ begins))
