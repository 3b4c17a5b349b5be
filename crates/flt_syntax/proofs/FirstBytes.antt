-- A word is found among those of the vocabulary that begin as it does.
use Rattle.std.proofs.Common.{◌≡◌, ◌≢◌, ℕ, ◌≤◌, Bool, true, false, List, [], ◌∷◌, length, refl, sym, ap, arith}
use Rattle.std.proofs.lemmas.Bool.{and_parts}
use Rattle.std.specs.Cmp.Lexicographic.{same_text}
use Rattle.std.specs.Prelude.{slice_index, Option, Some, None, IfSome}
use Rattle.std.specs.Str.{bytes_eq}
use Rattle.flt_syntax.specs.Lex.{lookup, word, keyword, run, IsVariable}
use Rattle.flt_syntax.specs.Vocabulary.{vocabulary}
use Rattle.flt_syntax.specs.declared.token.Kind.{Kind}
use Rattle.flt_tree.specs.Names.{Text, is_word}

-- a table that has all words of the vocabulary with these four bytes in front has those of each text that begins with them
pub found_by_four : (table : List (Text × Kind)) (d : ℕ) (name : Text) →
    4 ≤ length name → slice_index name 0 ≡ 70 → slice_index name 1 ≡ 108 →
    slice_index name 2 ≡ 116 → d ≡ slice_index name 3 →
    ((rest : Text) → lookup table (70 ∷ 108 ∷ 116 ∷ d ∷ rest) ≡ lookup vocabulary (70 ∷ 108 ∷ 116 ∷ d ∷ rest)) →
    lookup table name ≡ lookup vocabulary name
found_by_four table d [] four f l t letter all = absurd (omega arith)
found_by_four table d (a ∷ []) four f l t letter all = absurd (omega arith)
found_by_four table d (a ∷ (b ∷ [])) four f l t letter all = absurd (omega arith)
found_by_four table d (a ∷ (b ∷ (c ∷ []))) four f l t letter all = absurd (omega arith)
found_by_four table d (a ∷ (b ∷ (c ∷ (e ∷ name)))) four f l t letter all = rw (f, l, t, ← letter) (all name)

-- texts of two lengths differ
pub as_long : (a b : Text) → length a ≢ length b → bytes_eq a b ≡ false
as_long a b other = by (bytes_eq a b) refl
  where
    by : (x : Bool) → x ≡ bytes_eq a b → bytes_eq a b ≡ false
    by true e = absurd (other (ap length (same_text a b e)))
    by false e = sym e

-- two bytes of a word, with none behind them
short_run : (z : Text) (kind : Kind) → 3 ≤ length z → IsVariable (slice_index z 0) (slice_index z 1) kind →
    is_word (slice_index z 2) ≡ false → run z ≡ (word kind, 2)
unfolding run keyword
short_run [] kind some v last = absurd (omega arith)
short_run (a ∷ []) kind some v last = absurd (omega arith)
short_run (a ∷ (b ∷ [])) kind some v last = absurd (omega arith)
short_run (a ∷ (b ∷ (c ∷ z))) kind some v last =
    let p = and_parts (is_word a) (is_word b) v.1 in
    rw (p.0, p.1, last, v.0, v.2) refl

-- a word of two bytes that names a variable is a word where no more of it follows
pub short_variable : (z : Text) (found : Option Kind) → 3 ≤ length z → IfSome found (IsVariable (slice_index z 0) (slice_index z 1)) →
    is_word (slice_index z 2) ≡ false → IfSome found (λ kind. (run z ≡ (word kind, 2)) × (2 ≤ length z))
short_variable z None some v last = tt
short_variable z (Some kind) some v last = (short_run z kind some v last, omega arith)
