-- What the tokens of a text are: the bytes of a word are a name, and a number is below 2^64.
use Rattle.std.proofs.Common.{◌≡◌, ℕ, zero, suc, ◌+◌, ◌-◌, ◌*◌, ◌^◌, ◌<◌, Bool, true, false, [], ◌∷◌}
use Rattle.std.proofs.Common.{◌++◌, length, take, drop, take-append-drop, refl, sym, ap, ◌∙◌, arith}
use Rattle.std.proofs.lemmas.Bool.{ltb-true, ltb-false, lt-ltb, and_parts, and_from}
use Rattle.std.proofs.lemmas.List.Folds.{length-prefix_len}
use Rattle.std.specs.Char.{is_ascii_digit}
use Rattle.std.specs.List.{list_all, prefix_len}
use Rattle.std.specs.Prelude.{◌==◌, ◌&&◌, not, nat_lt, slice_index, if◌then◌else◌, Option, Some, None, IfSome}
use Rattle.flt_syntax.specs.Cursor as cursor
use Rattle.flt_syntax.specs.Cursor.{Input, bytes_of}
use Rattle.flt_tree.specs.Names.{Text, is_word, is_name}
use Rattle.flt_syntax.specs.Lex.{past, word, is_blank, is_fault, keyword, value_from, number_by}
use Rattle.flt_syntax.specs.Lex.{number, run, pair_or, token, tokens_from, tokens}
use Rattle.flt_tree.specs.declared.filter.Position.{Position}
use Rattle.flt_syntax.specs.declared.token.Kind.{Kind}
use Rattle.flt_syntax.specs.declared.token.Kind.TheVariants as k
use Rattle.flt_syntax.specs.declared.token.Token.{Token}
use Rattle.flt_syntax.specs.declared.token.Word.{Word}
use Rattle.flt_syntax.proofs.Lexed.{bytes, one_on, lexed_gap}
use Rattle.flt_syntax.proofs.TokenKinds.{differ}

-- a token of a text: if it is a word, its bytes are a name, and its value fits
pub record IsToken (text : Text) (t : Token) : Type 0 where
  pub named : cursor.is_word t.word.kind ≡ true → is_name (bytes_of text t) ≡ true
  pub fits : t.word.value < 2 ^ 64

pub data AreTokens (text : Text) : Input → Type 0 where
  none : AreTokens text []
  more : {t : Token} {i : Input} → IsToken text t → AreTokens text i → AreTokens text (t ∷ i)

-- the same of what is read at the front of a text, with its length
record IsFront (z : Text) (p : Word × ℕ) : Type 0 where
  named : cursor.is_word p.0.kind ≡ true → (is_name (take p.1 z) ≡ true) × (length (take p.1 z) ≡ p.1)
  fits : p.0.value < 2 ^ 64

-- ---- symbols

none_fits : 0 < 2 ^ 64
none_fits = omega arith

symbol : {z : Text} (kd : Kind) (n : ℕ) → cursor.is_word kd ≡ false → IsFront z (word kd, n)
symbol kd n e = record { named = λ h. elim (differ (sym e ∙ h)) [ ]; fits = none_fits }

either : {z : Text} (c : Bool) (p q : Word × ℕ) → (c ≡ true → IsFront z p) → (c ≡ false → IsFront z q) → IsFront z (if c then p else q)
either true p q f g = f refl
either false p q f g = g refl

pair_front : {z : Text} (pair one : Kind) → cursor.is_word pair ≡ false → cursor.is_word one ≡ false → IsFront z (pair_or pair one z)
unfolding pair_or
pair_front {z} pair one e h =
    either (nat_lt 1 (length z) && slice_index z 1 == 61) (word pair, 2) (word one, 1) (λ _. symbol pair 2 e) (λ _. symbol one 1 h)

-- ---- numbers

value_if : (c : Bool) (o : Option ℕ) → (c ≡ true → IfSome o (λ n. n < 2 ^ 64)) → IfSome (if c then o else None) (λ n. n < 2 ^ 64)
value_if true o f = f refl
value_if false o f = tt

value_fits : (n : ℕ) (ds : Text) → n < 2 ^ 64 → IfSome (value_from n ds) (λ n. n < 2 ^ 64)
value_fits n [] h = h
value_fits n (b ∷ ds) h =
    let m = 10 * n + (b - 48) in
    value_if (is_ascii_digit b && nat_lt m (2 ^ 64)) (value_from m ds)
    (λ e. value_fits m ds (ltb-true m (2 ^ 64) (and_parts (is_ascii_digit b) (nat_lt m (2 ^ 64)) e).1))

-- a word that is no name, with a value that fits
record IsNumeral (w : Word) : Type 0 where
  no_word : cursor.is_word w.kind ≡ false
  fits : w.value < 2 ^ 64

numeral_by : (o : Option ℕ) → IfSome o (λ n. n < 2 ^ 64) → IsNumeral (number_by o)
numeral_by None h = record { no_word = refl; fits = none_fits }
numeral_by (Some n) h = record { no_word = refl; fits = h }

numeral_if : (c : Bool) (w : Word) → IsNumeral w → IsNumeral (if c then word k.Malformed else w)
numeral_if true w h = record { no_word = refl; fits = none_fits }
numeral_if false w h = h

numeral : (ds : Text) → IsNumeral (number ds)
unfolding number
numeral ds = numeral_if (slice_index ds 0 == 48 && nat_lt 1 (length ds)) _ (numeral_by (value_from 0 ds) (value_fits 0 ds none_fits))

-- ---- words

one_longer : (b : ℕ) (z : Text) → is_word b ≡ true → prefix_len is_word (b ∷ z) ≡ suc (prefix_len is_word z)
one_longer b z e = let h : 1 + prefix_len is_word z ≡ suc (prefix_len is_word z) = omega arith in rw (e, h) refl

none_there : (b : ℕ) (z : Text) → is_word b ≡ false → prefix_len is_word (b ∷ z) ≡ 0
none_there b z e = rw e refl

run_is : (b : ℕ) (z : Text) → is_word b ≡ true → take (prefix_len is_word (b ∷ z)) (b ∷ z) ≡ b ∷ take (prefix_len is_word z) z
run_is b z e = ap (λ n. take n (b ∷ z)) (one_longer b z e)

words_if : (b : ℕ) (z : Text) (x : Bool) → is_word b ≡ x → list_all is_word (take (prefix_len is_word z) z) ≡ true →
    list_all is_word (take (prefix_len is_word (b ∷ z)) (b ∷ z)) ≡ true
words_if b z true e h = ap (list_all is_word) (run_is b z e) ∙ and_from (is_word b) _ e h
words_if b z false e h = ap (λ n. list_all is_word (take n (b ∷ z))) (none_there b z e)

-- the run at the front of a text has letters, digits and `_` only
run_words : (z : Text) → list_all is_word (take (prefix_len is_word z) z) ≡ true
run_words [] = refl
run_words (b ∷ z) = words_if b z (is_word b) refl (run_words z)

short_by : (long : Bool) (kd : Kind) → cursor.is_word (if long then k.Malformed else kd) ≡ true → long ≡ false
short_by true kd e = elim (differ e) [ ]
short_by false kd e = refl

-- what is read as a word has at most 64 bytes
short_word : (w : Text) → cursor.is_word (keyword w).kind ≡ true → nat_lt 64 (length w) ≡ false
unfolding keyword
short_word w e = short_by (nat_lt 64 (length w)) _ e

word_fits : (w : Text) → (keyword w).value < 2 ^ 64
unfolding keyword
word_fits w = none_fits

is_short : (n : ℕ) → nat_lt 64 (suc n) ≡ false → nat_lt n 64 ≡ true
is_short n e = lt-ltb n 64 (omega (arith, ltb-false 64 (suc n) e))

a_name : (b : ℕ) (w : Text) → is_word b ≡ true → is_ascii_digit b ≡ false → list_all is_word w ≡ true →
    nat_lt 64 (length (b ∷ w)) ≡ false → is_name (b ∷ w) ≡ true
a_name b w e d h s = rw (e, d, h, is_short (length w) s) refl

name_run : (b : ℕ) (z w : Text) → w ≡ b ∷ take (prefix_len is_word z) z → is_word b ≡ true → is_ascii_digit b ≡ false →
    cursor.is_word (keyword w).kind ≡ true → is_name w ≡ true
name_run b z w e h d s =
    ap is_name e
    ∙ a_name b (take (prefix_len is_word z) z) h d (run_words z) (sym (ap (λ y. nat_lt 64 (length y)) e) ∙ short_word w s)

run_by : (b : ℕ) (z : Text) (x : Bool) → is_word b ≡ true → is_ascii_digit b ≡ x →
    let end = prefix_len is_word (b ∷ z) in
    IsFront (b ∷ z) (if x then number (take end (b ∷ z)) else keyword (take end (b ∷ z)), end)
run_by b z true e d =
    let n = numeral (take (prefix_len is_word (b ∷ z)) (b ∷ z)) in
    record { named = λ h. elim (differ (sym n.no_word ∙ h)) [ ]; fits = n.fits }
run_by b z false e d =
    record {
      named = λ h. (name_run b z _ (run_is b z e) e d h, length-prefix_len is_word (b ∷ z));
      fits = word_fits _;
    }

run_front : (b : ℕ) (z : Text) → is_word b ≡ true → IsFront (b ∷ z) (run (b ∷ z))
unfolding run
run_front b z e = run_by b z (is_ascii_digit b) e refl

-- ---- tokens

token_front : (b : ℕ) (z : Text) → IsFront (b ∷ z) (token (b ∷ z))
unfolding token
token_front b z =
    either (b == 123) _ _ (λ _. symbol k.OpenBrace 1 refl) (λ _.
    either (b == 125) _ _ (λ _. symbol k.CloseBrace 1 refl) (λ _.
    either (b == 60) _ _ (λ _. symbol k.Less 1 refl) (λ _.
    either (b == 43) _ _ (λ _. symbol k.Plus 1 refl) (λ _.
    either (b == 45) _ _ (λ _. symbol k.Minus 1 refl) (λ _.
    either (b == 61) _ _ (λ _. pair_front k.Equal k.Assign refl refl) (λ _.
    either (b == 33) _ _ (λ _. pair_front k.NotEqual k.Stray refl refl) (λ _.
    either (is_word b) _ _ (run_front b z) (λ _. symbol k.Stray 1 refl))))))))

-- the bytes of the token that was read at the front
front_bytes : (text pre z : Text) (t : Token) (n : ℕ) → text ≡ pre ++ z → t.start ≡ length pre → t.end ≡ length pre + n →
    length (take n z) ≡ n →
    bytes_of text t ≡ take n z
front_bytes text pre z t n e s h l =
    bytes text pre (take n z) (drop n z) t (e ∙ ap (λ y. pre ++ y) (sym (take-append-drop n z))) s (h ∙ ap (λ m. length pre + m) (sym l))

is_token : (text pre z : Text) (p : Word × ℕ) (at : Position) (off : ℕ) → text ≡ pre ++ z → off ≡ length pre → IsFront z p →
    IsToken text (record { word = p.0; position = at; start = off; end = off + p.1 })
is_token text pre z p at off e h f =
    let t : Token = record { word = p.0; position = at; start = off; end = off + p.1 } in
    record {
      named = λ w. let n = f.named w in ap is_name (front_bytes text pre z t p.1 e h (ap (λ m. m + p.1) h) n.1) ∙ n.0;
      fits = f.fits;
    }

tokens_if : {text : Text} (c : Bool) (i j : Input) → AreTokens text i → AreTokens text j → AreTokens text (if c then i else j)
tokens_if true i j p q = p
tokens_if false i j p q = q

tokens_along : (text pre z : Text) (left : ℕ) (comment : Bool) (last : ℕ) (at : Position) (off : ℕ) → text ≡ pre ++ z → off ≡ length pre →
    AreTokens text (tokens_from left comment last at off z)
tokens_along text pre [] left comment last at off e h = more (record { named = λ w. elim (differ w) [ ]; fits = none_fits }) none
tokens_along text pre (b ∷ z) (suc left) comment last at off e h =
    tokens_along text (pre ++ b ∷ []) z left comment b (past last at) (off + 1) (lexed_gap text pre z b e) (one_on pre b off h)
tokens_along text pre (b ∷ z) zero true last at off e h =
    tokens_along text (pre ++ b ∷ []) z zero (not (b == 10)) b (past last at) (off + 1) (lexed_gap text pre z b e) (one_on pre b off h)
tokens_along text pre (b ∷ z) zero false last at off e h =
    let on = λ (left : ℕ) (comment : Bool). tokens_along text (pre ++ b ∷ []) z left comment b (past last at) (off + 1)
    (lexed_gap text pre z b e) (one_on pre b off h) in
    let t = token (b ∷ z) in
    tokens_if (b == 35) _ _ (on zero true)
    (tokens_if (is_blank b) _ _ (on zero false)
    (more (is_token text pre (b ∷ z) t (past last at) off e h (token_front b z))
    (tokens_if (is_fault t.0.kind) _ _ none (on (t.1 - 1) false))))

-- a text's tokens are tokens of the text
pub are_tokens : (text : Text) → AreTokens text (tokens text)
unfolding tokens
are_tokens text = tokens_along text [] text zero false 0 (record { line = 1; column = 0 }) 0 refl refl
