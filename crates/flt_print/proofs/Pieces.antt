-- Names, numbers and the words of the grammar are read as one word each.
use Rattle.std.proofs.Common.{◌≡◌, ℕ, zero, suc, ◌+◌, ◌-◌, ◌*◌, ◌/◌, ◌%◌, ◌^◌, ◌<◌, ◌≤◌, Bool, true, false, List}
use Rattle.std.proofs.Common.{[], ◌∷◌, ◌++◌, length, take, map, refl, sym, ap, subst, ◌∙◌, arith, get_or, rules}
use Rattle.std.proofs.Math.Seq.{take-append_seam}
use Rattle.std.proofs.lemmas.Bool.{eqb-true, ltb-true, lt-ltb, le-ltb, le-leb, ne_eqb, and_parts}
use Rattle.std.proofs.lemmas.Bool.{and_from, and_left, and_right, not-true, false≢true}
use Rattle.std.proofs.lemmas.Fmt.{decimal_by_steps, decimal_digit, decimal_nonempty, first_decimal}
use Rattle.std.specs.Char.{is_ascii_digit}
use Rattle.std.specs.List.{list_all, prefix_len}
use Rattle.std.specs.Prelude.{◌==◌, ◌&&◌, not, nat_lt, slice_index, if◌then◌else◌, Some, None, decimal}
use Rattle.std.specs.Str.{bytes_eq}
use Rattle.flt_syntax.specs.Cursor as cursor
use Rattle.flt_tree.specs.Names.{Text, is_word, is_name}
use Rattle.flt_syntax.specs.Lex.{word, is_blank, is_fault, lookup, keyword, value_from, number, run, pair_or, token, same_kind}
use Rattle.flt_syntax.specs.Vocabulary.{vocabulary}
use Rattle.flt_print.specs.Vocabulary.{spelling}
use Rattle.flt_syntax.specs.declared.token.Kind.{Kind}
use Rattle.flt_syntax.specs.declared.token.Kind.TheVariants as k
use Rattle.flt_syntax.specs.declared.token.Word.{Word}
use Rattle.flt_syntax.specs.Written.{Gap, blank, feed, Piece, piece}
use Rattle.flt_syntax.specs.contracts.token.Kind.{the_type}
use denote.Enum.Bare.{same_true}

-- ---- a run of letters, digits and `_`

other_by : (c d : ℕ) (x : Bool) → (c == d) ≡ x → is_word c ≡ true → is_word d ≡ false → x ≡ false
other_by c d true e h l = absurd (false≢true (sym l ∙ ap is_word (sym (eqb-true c d e)) ∙ h))
other_by c d false e h l = refl

other : (c d : ℕ) → is_word c ≡ true → is_word d ≡ false → (c == d) ≡ false
other c d = other_by c d (c == d) refl

not_blank : (c : ℕ) → is_word c ≡ true → is_blank c ≡ false
not_blank c e = rw (other c 32 e refl, other c 9 e refl, other c 10 e refl, other c 13 e refl) refl

run_front : (w z : Text) (b : ℕ) → list_all is_word w ≡ true → Gap b → prefix_len is_word (w ++ b ∷ z) ≡ length w
run_front [] z _ e blank = refl
run_front [] z _ e feed = refl
run_front (c ∷ w) z b e g =
    let p = and_parts (is_word c) (list_all is_word w) e in
    let h : 1 + length w ≡ suc (length w) = omega arith in
    rw (p.0, run_front w z b p.1 g, h) refl

run_by : (z : Text) (end : ℕ) (front : Text) → prefix_len is_word z ≡ end → take end z ≡ front →
    run z ≡ (if is_ascii_digit (slice_index z 0) then number front else keyword front, end)
unfolding run
run_by z end front e h = rw (e, h) refl

token_run : (c : ℕ) (y : Text) → is_word c ≡ true → token (c ∷ y) ≡ run (c ∷ y)
unfolding token
token_run c y e =
    rw (
      other c 123 e refl,
      other c 125 e refl,
      other c 60 e refl,
      other c 43 e refl,
      other c 45 e refl,
      other c 61 e refl,
      other c 33 e refl,
      e,
    ) refl

token_word : (c b : ℕ) (w z : Text) → is_word c ≡ true → list_all is_word w ≡ true → Gap b →
    token (c ∷ (w ++ b ∷ z)) ≡ (if is_ascii_digit c then number (c ∷ w) else keyword (c ∷ w), suc (length w))
token_word c b w z e h g =
    token_run c (w ++ b ∷ z) e
    ∙ run_by (c ∷ (w ++ b ∷ z)) (suc (length w)) (c ∷ w) (run_front (c ∷ w) z b (and_from (is_word c) (list_all is_word w) e h) g)
    (take-append_seam (c ∷ w) (b ∷ z))

word_piece : (c : ℕ) (w : Text) (v : Word) → is_word c ≡ true → list_all is_word w ≡ true →
    (if is_ascii_digit c then number (c ∷ w) else keyword (c ∷ w)) ≡ v → is_fault v.kind ≡ false → Piece (c ∷ w) v
word_piece c w v e h s f =
    piece (other c 35 e refl) (not_blank c e) (λ b z g. token_word c b w z e h g ∙ ap (λ (x : Word). (x, suc (length w))) s) f

-- ---- names

-- a word that is no symbol, number or fault
names : Kind → Bool
names kd = cursor.is_word kd && not (is_fault kd)

names_by : (b : Bool) (a c : Kind) → names a ≡ true → names c ≡ true → names (if b then a else c) ≡ true
names_by true a c e h = e
names_by false a c e h = h

lookup_names : (entries : List (Text × Kind)) (name : Text) → list_all (λ e. names e.1) entries ≡ true → names (lookup entries name) ≡ true
unfolding names
lookup_names [] name e = refl
lookup_names (x ∷ entries) name e =
    let p = and_parts (names x.1) (list_all (λ e. names e.1) entries) e in
    names_by (bytes_eq name x.0) x.1 (lookup entries name) p.0 (lookup_names entries name p.1)

keyword_names : (name : Text) → nat_lt 64 (length name) ≡ false → names (keyword name).kind ≡ true
unfolding keyword names
keyword_names name e = rw e (lookup_names vocabulary name refl)

short_by : (n : ℕ) → nat_lt n 64 ≡ true → nat_lt 64 (suc n) ≡ false
short_by n e = let h : n < 64 = ltb-true n 64 e in le-ltb 64 (suc n) (omega arith)

record Parts (b : ℕ) (z : Text) : Type 0 where
  begins : is_word b ≡ true
  no_digit : is_ascii_digit b ≡ false
  goes_on : list_all is_word z ≡ true
  short : nat_lt (length z) 64 ≡ true

parts : (b : ℕ) (z : Text) → is_name (b ∷ z) ≡ true → Parts b z
parts b z e =
    let p = and_parts (is_word b) (not (is_ascii_digit b) && (list_all is_word z && nat_lt (length z) 64)) e in
    let q = and_parts (not (is_ascii_digit b)) (list_all is_word z && nat_lt (length z) 64) p.1 in
    let r = and_parts (list_all is_word z) (nat_lt (length z) 64) q.1 in
    record { begins = p.0; no_digit = not-true (is_ascii_digit b) q.0; goes_on = r.0; short = r.1 }

name_names : (w : Text) → is_name w ≡ true → names (keyword w).kind ≡ true
name_names [] e = absurd (false≢true e)
name_names (b ∷ z) e = keyword_names (b ∷ z) (short_by (length z) (parts b z e).short)

-- a name that is looked up among the words is a word
pub named_word : (w : Text) → is_name w ≡ true → cursor.is_word (keyword w).kind ≡ true
unfolding names
named_word w e = (and_parts (cursor.is_word (keyword w).kind) (not (is_fault (keyword w).kind)) (name_names w e)).0

named_right : (w : Text) → is_name w ≡ true → is_fault (keyword w).kind ≡ false
unfolding names
named_right w e = not-true _ (and_parts (cursor.is_word (keyword w).kind) (not (is_fault (keyword w).kind)) (name_names w e)).1

-- a name is read as one word
pub named : (w : Text) → is_name w ≡ true → Piece w (keyword w)
named [] e = absurd (false≢true e)
named (b ∷ z) e =
    let p = parts b z e in
    word_piece b z (keyword (b ∷ z)) p.begins p.goes_on (rw p.no_digit refl) (named_right (b ∷ z) e)

-- ---- the words of the grammar

-- its spelling is read as the kind
abbrev pub reads_back : Kind → Bool
reads_back kd = is_name (spelling kd) && same_kind (keyword (spelling kd)).kind kd

-- what is of the kind is the word of that kind
pub keyword_is : (w : Text) (kd : Kind) → same_kind (keyword w).kind kd ≡ true → keyword w ≡ word kd
unfolding keyword same_kind
keyword_is w kd e = ap word (same_true the_type (search rules) _ kd e)

-- the spelling of a kind that reads back is read as one word of the kind
pub spelled : (kd : Kind) → reads_back kd ≡ true → Piece (spelling kd) (word kd)
spelled kd e =
    let p = and_parts (is_name (spelling kd)) (same_kind (keyword (spelling kd)).kind kd) e in
    subst (Piece (spelling kd)) (keyword_is (spelling kd) kd p.1) (named (spelling kd) p.0)

-- `{` is read as one word
pub open_piece : Piece (spelling k.OpenBrace) (word k.OpenBrace)
unfolding spelling token
open_piece = piece refl refl (λ b z g. refl) refl

-- `}` is read as one word
pub close_piece : Piece (spelling k.CloseBrace) (word k.CloseBrace)
unfolding spelling token
close_piece = piece refl refl (λ b z g. refl) refl

-- `<` is read as one word
pub less_piece : Piece (spelling k.Less) (word k.Less)
unfolding spelling token
less_piece = piece refl refl (λ b z g. refl) refl

-- `+` is read as one word
pub plus_piece : Piece (spelling k.Plus) (word k.Plus)
unfolding spelling token
plus_piece = piece refl refl (λ b z g. refl) refl

-- `-` is read as one word
pub minus_piece : Piece (spelling k.Minus) (word k.Minus)
unfolding spelling token
minus_piece = piece refl refl (λ b z g. refl) refl

alone : (pair one : Kind) (c b : ℕ) (z : Text) → Gap b → pair_or pair one (c ∷ b ∷ z) ≡ (word one, 1)
unfolding pair_or
alone pair one c _ z blank = rw (and_right (nat_lt 1 (length (c ∷ 32 ∷ z))) false refl) refl
alone pair one c _ z feed = rw (and_right (nat_lt 1 (length (c ∷ 10 ∷ z))) false refl) refl

both : (pair one : Kind) (c : ℕ) (z : Text) → pair_or pair one (c ∷ 61 ∷ z) ≡ (word pair, 2)
unfolding pair_or
both pair one c z =
    let e : nat_lt 1 (length (c ∷ 61 ∷ z)) ≡ true = lt-ltb 1 (suc (suc (length z))) (omega arith) in
    rw e refl

-- `=` is read as one word
pub assign_piece : Piece (spelling k.Assign) (word k.Assign)
unfolding spelling token
assign_piece = piece refl refl (λ b z g. alone k.Equal k.Assign 61 b z g) refl

-- `==` is read as one word
pub equal_piece : Piece (spelling k.Equal) (word k.Equal)
unfolding spelling token
equal_piece = piece refl refl (λ b z g. both k.Equal k.Assign 61 (b ∷ z)) refl

-- `!=` is read as one word
pub differs_piece : Piece (spelling k.NotEqual) (word k.NotEqual)
unfolding spelling token
differs_piece = piece refl refl (λ b z g. both k.NotEqual k.Stray 33 (b ∷ z)) refl

-- ---- numbers

digit_word : (c : ℕ) → is_ascii_digit c ≡ true → is_word c ≡ true
digit_word c e = rw e refl

digits_words : (ds : Text) → list_all is_ascii_digit ds ≡ true → list_all is_word ds ≡ true
digits_words [] e = refl
digits_words (c ∷ ds) e =
    let p = and_parts (is_ascii_digit c) (list_all is_ascii_digit ds) e in
    and_from (is_word c) (list_all is_word ds) (digit_word c p.0) (digits_words ds p.1)

is_digit : (d : ℕ) → d < 10 → is_ascii_digit (48 + d) ≡ true
is_digit d h = and_from _ _ (le-leb 48 (48 + d) (omega arith)) (le-leb (48 + d) 57 (omega arith))

all_more : (ds : Text) (c : ℕ) → list_all is_ascii_digit ds ≡ true → is_ascii_digit c ≡ true → list_all is_ascii_digit (ds ++ c ∷ []) ≡ true
all_more [] c e h = and_from (is_ascii_digit c) true h refl
all_more (d ∷ ds) c e h =
    let p = and_parts (is_ascii_digit d) (list_all is_ascii_digit ds) e in
    and_from (is_ascii_digit d) (list_all is_ascii_digit (ds ++ c ∷ [])) p.0 (all_more ds c p.1 h)

some_same : {A : Type 0} (a b : A) → Some a ≡ Some b → a ≡ b
some_same a b e = cc

value_by : (x : Bool) (m l : ℕ) (z y : Text) → (value_from m z ≡ Some l → value_from m (z ++ y) ≡ value_from l y) →
    (if x then value_from m z else None) ≡ Some l → (if x then value_from m (z ++ y) else None) ≡ value_from l y
value_by true m l z y f e = f e
value_by false m l z y f e = cc

value_append : (m l : ℕ) (ds y : Text) → value_from m ds ≡ Some l → value_from m (ds ++ y) ≡ value_from l y
value_append m l [] y e = ap (λ n. value_from n y) (some_same m l e)
value_append m l (b ∷ ds) y e =
    value_by (is_ascii_digit b && nat_lt (10 * m + (b - 48)) (2 ^ 64)) (10 * m + (b - 48)) l ds y
    (value_append (10 * m + (b - 48)) l ds y) e

value_last : (m d n : ℕ) → d < 10 → 10 * m + d ≡ n → n < 2 ^ 64 → value_from m ((48 + d) ∷ []) ≡ Some n
value_last m d n small e fits =
    let h : 10 * m + (48 + d - 48) ≡ n = omega arith in
    rw (is_digit d small, h, lt-ltb n (2 ^ 64) fits) refl

record Reads (n : ℕ) (ds : Text) : Type 0 where
  value : value_from 0 ds ≡ Some n
  digits : list_all is_ascii_digit ds ≡ true

ReadsIf : ℕ → Text → Type 0
ReadsIf n ds = n < 2 ^ 64 → Reads n ds

one_digit : (n : ℕ) → n < 10 → ReadsIf n ((48 + n) ∷ [])
unfolding ReadsIf
one_digit n h fits =
    record { value = value_last 0 n n h (omega arith) fits; digits = and_from (is_ascii_digit (48 + n)) true (is_digit n h) refl }

more_digits : (n : ℕ) (ds : Text) → 10 ≤ n → ReadsIf (n / 10) ds → ReadsIf n (ds ++ (48 + n % 10) ∷ [])
unfolding ReadsIf
more_digits n ds some r fits =
    let q : n / 10 < 2 ^ 64 = omega arith in
    let s : Reads (n / 10) ds = r q in
    let small : n % 10 < 10 = omega arith in
    let whole : 10 * (n / 10) + n % 10 ≡ n = omega arith in
    record {
      value = value_append 0 (n / 10) ds ((48 + n % 10) ∷ []) s.value ∙ value_last (n / 10) (n % 10) n small whole fits;
      digits = all_more ds (48 + n % 10) s.digits (is_digit (n % 10) small);
    }

decimal_reads : (n : ℕ) → n < 2 ^ 64 → Reads n (decimal n)
unfolding ReadsIf
decimal_reads n fits = decimal_by_steps ReadsIf one_digit more_digits n fits fits

leads : (n : ℕ) → n < 2 ^ 64 → (slice_index (decimal n) 0 == 48 && nat_lt 1 (length (decimal n))) ≡ false
leads zero fits = let h : 0 < 10 = omega arith in rw (decimal_digit 0 h) refl
leads (suc m) fits =
    let h : 48 < get_or (decimal (suc m)) 0 0 = first_decimal (suc m) (omega arith) fits in
    and_left (slice_index (decimal (suc m)) 0 == 48) _ (ne_eqb (get_or (decimal (suc m)) 0 0) 48 (λ e. absurd (omega (arith, e))))

-- a number as a word
abbrev pub numeral : ℕ → Word
numeral n = record { kind = k.Number; value = n }

decimal_number : (n : ℕ) → n < 2 ^ 64 → number (decimal n) ≡ numeral n
unfolding number
decimal_number n fits = let r = decimal_reads n fits in rw (leads n fits, r.value) refl

digits_piece : (ds : Text) (n : ℕ) → 0 < length ds → list_all is_ascii_digit ds ≡ true → number ds ≡ numeral n → Piece ds (numeral n)
digits_piece [] n some e h = absurd (omega arith)
digits_piece (c ∷ w) n some e h =
    let p = and_parts (is_ascii_digit c) (list_all is_ascii_digit w) e in
    word_piece c w (numeral n) (digit_word c p.0) (digits_words w p.1) (rw p.0 h) refl

-- a number below 2^64 is read as one word
pub decimal_piece : (n : ℕ) → n < 2 ^ 64 → Piece (decimal n) (numeral n)
decimal_piece n fits = let r = decimal_reads n fits in digits_piece (decimal n) n (decimal_nonempty n fits) r.digits (decimal_number n fits)
