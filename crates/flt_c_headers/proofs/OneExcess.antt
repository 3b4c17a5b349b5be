-- A file has no tokens for one reason at most, and has some if it fits.
use Rattle.std.proofs.Common.{◌≡◌, ℕ, ◌+◌, ◌≤◌, false, List, [], ◌∷◌, ◌++◌, length, refl, sym, ap, subst, ◌∙◌, length-append, arith}
use Rattle.flt_c_tokens.proofs.Spelling.{GoesOn, texts_go_on, texts_of_more}
use Rattle.flt_c_tokens.specs.Bytes.{Text}
use Rattle.flt_c_tokens.specs.Spelled.{has_text, max_spellings, with_text}
use Rattle.flt_c_tokens.specs.Tokens.{IsExcess, IsOverfull, Lexeme, with_texts}
use Rattle.flt_c_tokens.specs.declared.lexer.Excess.{Excess}
use Rattle.flt_c_tokens.specs.declared.lexer.Excess.TheVariants.{LargeFile, TooManySpellings}
use Rattle.flt_c_headers.specs.Files.{Fits}

no_shorter : (known next : List Text) → GoesOn known next → length known ≤ length next
no_shorter known next g = rw g.parts (omega (arith, length-append known g.more))

one_longer : (known : List Text) (w : Text) → has_text known w ≡ false → length (with_text known w) ≡ length known + 1
unfolding with_text
one_longer known w e = rw e (omega (arith, length-append known (w ∷ [])))

-- a table that is full where an unknown text comes has too many texts, whatever is behind that text
too_many : (known : List Text) (x : Lexeme) (xs : List Lexeme) → length known ≡ max_spellings → has_text known x.text ≡ false →
    length (with_texts known (x ∷ xs)) ≤ max_spellings → ⊥
too_many known x xs full unknown few =
    let longer = one_longer known x.text unknown in
    let stays = no_shorter (with_text known x.text) (with_texts known (x ∷ xs)) (texts_go_on (with_text known x.text) xs) in
    absurd (omega arith)

not_overfull : (known : List Text) (z : Text) (line column : ℕ) → Fits known z → IsOverfull known z line column → ⊥
not_overfull known z line column fits full =
    too_many (with_texts known full.before) full.word full.after full.full full.unknown
    (subst (λ ts. length ts ≤ max_spellings)
    (ap (with_texts known) full.parts ∙ texts_of_more known full.before (full.word ∷ full.after)) fits.few)

-- one word at most is the first without room
one_word : (known : List Text) (before others after rest : List Lexeme) (x y : Lexeme) → before ++ x ∷ after ≡ others ++ y ∷ rest →
    length (with_texts known before) ≡ max_spellings → has_text (with_texts known before) x.text ≡ false →
    length (with_texts known others) ≡ max_spellings → has_text (with_texts known others) y.text ≡ false → x ≡ y
one_word known [] [] after rest x y e full unknown filled missing = cc
one_word known [] (b ∷ others) after rest x y e full unknown filled missing =
    let head : x ≡ b = cc in
    absurd (too_many known b others full (subst (λ (l : Lexeme). has_text known l.text ≡ false) head unknown) (omega (arith, filled)))
one_word known (a ∷ before) [] after rest x y e full unknown filled missing =
    let head : y ≡ a = cc in
    absurd (too_many known a before filled (subst (λ (l : Lexeme). has_text known l.text ≡ false) head missing) (omega (arith, full)))
one_word known (a ∷ before) (b ∷ others) after rest x y e full unknown filled missing =
    let head : b ≡ a = cc in
    let tail : before ++ x ∷ after ≡ others ++ y ∷ rest = cc in
    one_word (with_text known a.text) before others after rest x y tail full unknown
    (subst (λ (l : Lexeme). length (with_texts known (l ∷ others)) ≡ max_spellings) head filled)
    (subst (λ (l : Lexeme). has_text (with_texts known (l ∷ others)) y.text ≡ false) head missing)

-- a file has no tokens for one reason at most
pub one_excess : (known : List Text) (z : Text) (e f : Excess) → IsExcess known z e → IsExcess known z f → e ≡ f
one_excess known z LargeFile LargeFile a b = refl
one_excess known z LargeFile (TooManySpellings line column) a b = absurd (omega (arith, a, b.0))
one_excess known z (TooManySpellings line column) LargeFile a b = absurd (omega (arith, a.0, b))
one_excess known z (TooManySpellings line column) (TooManySpellings row place) (_, a) (_, b) =
    let word = one_word known a.before b.before a.after b.after a.word b.word (sym a.parts ∙ b.parts) a.full a.unknown b.full b.unknown in
    let same_line : line ≡ row = a.same_line ∙ ap (λ (x : Lexeme). x.line) word ∙ sym b.same_line in
    let same_column : column ≡ place = a.same_column ∙ ap (λ (x : Lexeme). x.column) word ∙ sym b.same_column in
    ap (λ n. TooManySpellings n column) same_line ∙ ap (TooManySpellings row) same_column

-- one that fits has tokens
pub not_excess : (known : List Text) (z : Text) (e : Excess) → Fits known z → IsExcess known z e → ⊥
not_excess known z LargeFile fits large = absurd (omega (arith, fits.small, large))
not_excess known z (TooManySpellings line column) fits excess = not_overfull known z line column fits excess.1
