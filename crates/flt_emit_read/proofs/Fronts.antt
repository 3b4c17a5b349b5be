-- What stands at the front of a text is read.
use Rattle.std.proofs.Common.{◌≡◌, ◌<◌, ◌/◌, ◌%◌, ◌^◌, ℕ, zero, suc, Bool, true, false, List, [], ◌∷◌, ◌++◌}
use Rattle.std.proofs.Common.{length, refl, ap, arith, rules, ◌∙◌, append_assoc, ◌*◌, ◌-◌, ◌≤◌, ◌+◌}
use Rattle.std.specs.Prelude.{◌==◌, not, nat_lt, if◌then◌else◌, Option, Some, None, decimal}
use Rattle.std.specs.Char.{is_ascii_digit}
use Rattle.std.specs.Fmt.{digits, digits_onto, digit_glyph}
use Rattle.std.specs.List.{list_all}
use Rattle.std.proofs.lemmas.Bool.{and_parts, eq-eqb, lt-ltb, agree_below_at}
use Rattle.std.proofs.lemmas.Fmt.{decimal_nonempty, digits_value-decimal}
use Rattle.std.proofs.lemmas.Str.Parse.{IsNumeralModel, numerals_by_fold}
use Rattle.flt_tree.specs.Names.{Text, is_word, is_name}
use Rattle.flt_emit.specs.Line.{joined, indentation}
use Rattle.flt_emit_read.specs.Front.{◌>>=◌, or_else, after, front_while, past_while, past_blanks}
use Rattle.flt_emit_read.specs.Front.{number_from, number_of, number_at, name_at}

-- ---- steps

-- what is read first is handed to what is read then
pub then_reads : {A B : Type 0} {o : Option A} {x : A} (f : A → Option B) → o ≡ Some x → (o >>= f) ≡ f x
then_reads f e = ap (λ o. o >>= f) e

-- what is read first is taken
pub first_reads : {A B : Type 0} {o : Option A} {x : A} (f : A → Option B) (other : Option B) → o ≡ Some x → or_else o f other ≡ f x
first_reads f other e = ap (λ o. or_else o f other) e

-- where the first can't be read, the other is
pub other_reads : {A B : Type 0} {o : Option A} (f : A → Option B) (other : Option B) → o ≡ None → or_else o f other ≡ other
other_reads f other e = ap (λ o. or_else o f other) e

-- ---- fixed texts

-- a front is taken from a text that begins with it
pub after_again : (front rest : Text) → after front (front ++ rest) ≡ Some rest
after_again [] rest = refl
after_again (a ∷ front) rest = rw (eq-eqb a a refl) (after_again front rest)

-- ---- bytes of a kind

-- the first byte is of another kind
abbrev pub Stops : (ℕ → Bool) → Text → Type 0
Stops test [] = Unit {0}
Stops test (b ∷ z) = test b ≡ false

front_stops : (test : ℕ → Bool) (r : Text) → Stops test r → front_while test r ≡ []
front_stops test [] s = refl
front_stops test (b ∷ z) s = rw s refl

past_stops : (test : ℕ → Bool) (r : Text) → Stops test r → past_while test r ≡ r
past_stops test [] s = refl
past_stops test (b ∷ z) s = rw s refl

pub front_all : (test : ℕ → Bool) (x r : Text) → list_all test x ≡ true → Stops test r → front_while test (x ++ r) ≡ x
front_all test [] r h s = front_stops test r s
front_all test (b ∷ x) r h s =
    let both = and_parts (test b) (list_all test x) h in rw both.0 (ap (λ l. b ∷ l) (front_all test x r both.1 s))

-- what passes a test is passed over up to where it stops
pub past_all : (test : ℕ → Bool) (x r : Text) → list_all test x ≡ true → Stops test r → past_while test (x ++ r) ≡ r
past_all test [] r h s = past_stops test r s
past_all test (b ∷ x) r h s =
    let both = and_parts (test b) (list_all test x) h in rw both.0 (past_all test x r both.1 s)

-- ---- numbers

glyph : (n : ℕ) → is_ascii_digit (digit_glyph false (n % 10)) ≡ true
glyph n = agree_below_at (λ d. is_ascii_digit (digit_glyph false d)) (λ d. true) 10 (n % 10) refl (omega arith)

chosen : (b : Bool) (x y : Text) → list_all is_ascii_digit x ≡ true → list_all is_ascii_digit y ≡ true →
    list_all is_ascii_digit (if b then x else y) ≡ true
chosen true x y h k = h
chosen false x y h k = k

onto : (k n : ℕ) (z : Text) → list_all is_ascii_digit z ≡ true → list_all is_ascii_digit (digits_onto k 10 false n z) ≡ true
onto zero n z h = h
onto (suc k) n z h =
    let more : list_all is_ascii_digit (digit_glyph false (n % 10) ∷ z) ≡ true = rw (glyph n) h in
    chosen (n / 10 == 0) (digit_glyph false (n % 10) ∷ z) (digits_onto k 10 false (n / 10) (digit_glyph false (n % 10) ∷ z)) more
    (onto k (n / 10) (digit_glyph false (n % 10) ∷ z) more)

-- a number in decimal has digits alone
pub all_digits : (n : ℕ) → list_all is_ascii_digit (decimal n) ≡ true
unfolding digits
all_digits n = onto 64 n [] refl

-- the value of digits, after that of the digits before them
abbrev pub value_from : ℕ → Text → ℕ
value_from n [] = n
value_from n (d ∷ ds) = value_from (10 * n + (d - 48)) ds

own : IsNumeralModel (λ ds. list_all is_ascii_digit ds ≡ true) (value_from 0)
own = numerals_by_fold _ (search rules) value_from (search rules)

grows : (n : ℕ) (ds : Text) → n ≤ value_from n ds
grows n [] = omega arith
grows n (d ∷ ds) = let more = grows (10 * n + (d - 48)) ds in omega (arith, more)

fits : (n : ℕ) (ds : Text) → value_from n ds < 2 ^ 64 → number_from n ds ≡ Some (value_from n ds)
fits n [] small = refl
fits n (d ∷ ds) small =
    let more = grows (10 * n + (d - 48)) ds in
    rw (lt-ltb (10 * n + (d - 48)) (2 ^ 64) (omega (arith, more, small))) (fits (10 * n + (d - 48)) ds small)

number_again : (ds : Text) (n : ℕ) → 0 < length ds → value_from 0 ds ≡ n → n < 2 ^ 64 → number_of ds ≡ Some n
number_again [] n some e small = absurd (omega (arith, some))
number_again (d ∷ ds) n some e small =
    fits 0 (d ∷ ds) (omega (arith, e, small)) ∙ ap (λ m. Some m) e

-- a number below 2^64 is read back where no digit follows
pub number_reads : (n : ℕ) (r : Text) → n < 2 ^ 64 → Stops is_ascii_digit r → number_at (decimal n ++ r) ≡ Some (n, r)
unfolding number_at
number_reads n r small s =
    rw (front_all is_ascii_digit (decimal n) r (all_digits n) s, past_all is_ascii_digit (decimal n) r (all_digits n) s)
    (then_reads _ (number_again (decimal n) n (decimal_nonempty n small) (digits_value-decimal own n small) small))

-- ---- names

-- all bytes of a name may be in a word
pub all_words : (w : Text) → is_name w ≡ true → list_all is_word w ≡ true
all_words [] h = refl
all_words (b ∷ z) h =
    let first = and_parts (is_word b) _ h in
    let second = and_parts (not (is_ascii_digit b)) _ first.1 in
    let third = and_parts (list_all is_word z) (nat_lt (length z) 64) second.1 in rw first.0 third.0

-- a name is read back where no byte of a word follows
pub name_reads : (w r : Text) → is_name w ≡ true → Stops is_word r → name_at (w ++ r) ≡ Some (w, r)
unfolding name_at
name_reads w r h s =
    rw (front_all is_word w r (all_words w h) s, past_all is_word w r (all_words w h) s, h) refl

-- ---- pieces of text

-- texts one behind the other, and what follows them
abbrev pub pieces : List Text → Text → Text
pieces [] r = r
pieces (p ∷ ps) r = p ++ pieces ps r

-- pieces that are joined, and what follows, are the pieces one after the other before it
pub joined_pieces : (ps : List Text) (r : Text) → joined ps ++ r ≡ pieces ps r
joined_pieces [] r = refl
joined_pieces (p ∷ ps) r = append_assoc p (joined ps) r ∙ ap (λ l. p ++ l) (joined_pieces ps r)

-- the blanks of an indentation are passed over
pub past_indentation : (level : ℕ) (r : Text) → past_blanks (indentation level ++ r) ≡ past_blanks r
past_indentation zero r = refl
past_indentation (suc level) r = past_indentation level r
