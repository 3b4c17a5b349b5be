-- Laws of quiet lines.
use Rattle.std.proofs.Common.{◌≡◌, ◌%◌, ◌/◌, ◌+◌, ℕ, zero, suc, Bool, true, false, List}
use Rattle.std.proofs.Common.{[], ◌∷◌, ◌++◌, refl, sym, ap, arith, ◌∙◌, append_assoc}
use Rattle.std.specs.Prelude.{nat_lt, not, ◌&&◌, ◌||◌, ◌==◌, codes, eqb, if◌then◌else◌}
use Rattle.std.specs.Fmt.{decimal, digit_glyph, digits, digits_onto}
use Rattle.std.specs.List.{starts_with}
use Rattle.std.proofs.lemmas.Bool.{eqb-true, eqb-false, ne_eqb}
use Rattle.flt_explain_runs.specs.Quiet.{begins_note, is_quiet, is_quiet_from, quieted, quieted_from}

-- what is quiet stays as it is
same_from : (begins : Bool) (lines : List ℕ) → is_quiet_from begins lines ≡ true → quieted_from begins lines ≡ lines
same_from true [] is = refl
same_from false [] is = absurd (cc is)
same_from false (b ∷ bytes) is = ap (λ r. b ∷ r) (same_from (b == 10) bytes is)
same_from true (b ∷ bytes) is = go (begins_note (b ∷ bytes)) is (same_from (b == 10) bytes)
  where
    go : (noted : Bool) → (not noted && is_quiet_from (b == 10) bytes) ≡ true →
        (is_quiet_from (b == 10) bytes ≡ true → quieted_from (b == 10) bytes ≡ bytes) →
        (if noted then 32 ∷ (b ∷ quieted_from (b == 10) bytes) else b ∷ quieted_from (b == 10) bytes) ≡ b ∷ bytes
    go true is same = absurd (cc is)
    go false is same = ap (λ r. b ∷ r) (same is)

-- quiet lines stay as they are when they are quieted
pub quieted_same : (lines : List ℕ) → is_quiet lines ≡ true → quieted lines ≡ lines
quieted_same lines is = same_from true lines is

-- ---- how lines begin

abbrev has_no_end : List ℕ → Bool
has_no_end [] = true
has_no_end (b ∷ bytes) = not (b == 10) && has_no_end bytes

-- a line begins as it did
same_start : (needle bytes : List ℕ) → has_no_end needle ≡ true →
    starts_with eqb (quieted_from false bytes) needle ≡ starts_with eqb bytes needle
same_start [] bytes is = refl
same_start (h ∷ hs) [] is = go (h == 10) is
  where
    go : (z : Bool) → (not z && has_no_end hs) ≡ true → (z && starts_with eqb [] hs) ≡ false
    go true is = absurd (cc is)
    go false is = refl
same_start (h ∷ hs) (b ∷ bytes) is = go (b == 10) refl (h == 10) refl is (same_start hs bytes)
  where
    go : (z : Bool) → (b == 10) ≡ z → (y : Bool) → (h == 10) ≡ y → (not y && has_no_end hs) ≡ true →
        (has_no_end hs ≡ true → starts_with eqb (quieted_from false bytes) hs ≡ starts_with eqb bytes hs) →
        (eqb h b && starts_with eqb (quieted_from z bytes) hs) ≡ (eqb h b && starts_with eqb bytes hs)
    go z e true f is more = absurd (cc is)
    go true e false f is more =
        let other : eqb h b ≡ false = ne_eqb h b (λ same. eqb-false h 10 f (same ∙ eqb-true b 10 e)) in rw other refl
    go false e false f is more = ap (λ r. eqb h b && r) (more is)

begins_same : (line : List ℕ) → begins_note (quieted_from false line) ≡ begins_note line
begins_same line =
    rw (same_start (codes "   = journal: ") line refl, same_start (codes "   = with a callback") line refl) refl

third : (a b c r s : Bool) → ((a && (b && (c && r))) || (a && (b && (c && s)))) ≡ true → c ≡ true
third true true true r s is = refl
third true true false r s is = absurd (cc is)
third true false c r s is = absurd (cc is)
third false b c r s is = absurd (cc is)

neither : (a b r s : Bool) → ((a && (b && (false && r))) || (a && (b && (false && s)))) ≡ false
neither true true r s = refl
neither true false r s = refl
neither false b r s = refl

-- with one more blank in front a line doesn't begin so
blank_first : (line : List ℕ) → begins_note line ≡ true → begins_note (32 ∷ line) ≡ false
blank_first [] is = absurd (cc is)
blank_first (x ∷ []) is = go (eqb 32 x) is
  where
    go : (z : Bool) → ((z && false) || (z && false)) ≡ true → begins_note (32 ∷ (x ∷ [])) ≡ false
    go true is = absurd (cc is)
    go false is = absurd (cc is)
blank_first (x ∷ (y ∷ [])) is = go (eqb 32 x) (eqb 32 y) is
  where
    go : (z w : Bool) → ((z && (w && false)) || (z && (w && false))) ≡ true → begins_note (32 ∷ (x ∷ (y ∷ []))) ≡ false
    go true true is = absurd (cc is)
    go true false is = absurd (cc is)
    go false w is = absurd (cc is)
blank_first (x ∷ (y ∷ (z ∷ line))) is =
    let same : z ≡ 32 = sym (eqb-true 32 z (third (eqb 32 x) (eqb 32 y) (eqb 32 z)
    (starts_with eqb line (codes "= journal: ")) (starts_with eqb line (codes "= with a callback")) is)) in
    rw same (neither (eqb 32 x) (eqb 32 y) (starts_with eqb line (codes " journal: ")) (starts_with eqb line (codes " with a callback")))

-- ---- what is made quiet is quiet

quiet_from : (begins : Bool) (lines : List ℕ) → is_quiet_from begins (quieted_from begins lines) ≡ true
quiet_from true [] = refl
quiet_from false [] = refl
quiet_from false (b ∷ bytes) = quiet_from (b == 10) bytes
quiet_from true (b ∷ bytes) = go (begins_note (b ∷ bytes)) refl (begins_same (b ∷ bytes)) (quiet_from (b == 10) bytes)
  where
    rest : List ℕ
    rest = b ∷ quieted_from (b == 10) bytes

    go : (noted : Bool) → begins_note (b ∷ bytes) ≡ noted → begins_note rest ≡ begins_note (b ∷ bytes) →
        is_quiet_from (b == 10) (quieted_from (b == 10) bytes) ≡ true → is_quiet_from true (if noted then 32 ∷ rest else rest) ≡ true
    go true e same quiet = rw (blank_first rest (same ∙ e)) quiet
    go false e same quiet = rw (same ∙ e) quiet

-- quieted lines are quiet
pub quiet_quieted : (lines : List ℕ) → is_quiet (quieted lines) ≡ true
quiet_quieted lines = quiet_from true lines

-- ---- lines put together

-- within a line these go on to what is behind them
pub record Plain (line : List ℕ) : Type 0 where
  pub goes_on : (rest : List ℕ) → is_quiet_from false (line ++ rest) ≡ is_quiet_from false rest

-- two plain texts one after the other are plain
pub plain_both : (a b : List ℕ) → Plain a → Plain b → Plain (a ++ b)
plain_both a b first second =
    record { goes_on = λ rest. rw (append_assoc a b rest) (first.goes_on (b ++ rest) ∙ second.goes_on rest) }

glyph_apart : (d : ℕ) → (digit_glyph false d == 10) ≡ false
glyph_apart d = go (nat_lt d 10)
  where
    go : (z : Bool) → ((if z then 48 + d else 87 + d) == 10) ≡ false
    go true = ne_eqb (48 + d) 10 (λ h. omega arith)
    go false = ne_eqb (87 + d) 10 (λ h. omega arith)

glyph_plain : (d : ℕ) (rest : List ℕ) → is_quiet_from false (digit_glyph false d ∷ rest) ≡ is_quiet_from false rest
glyph_plain d rest = rw (glyph_apart d) refl

digits_plain : (k n : ℕ) (acc rest : List ℕ) →
    is_quiet_from false (digits_onto k 10 false n acc ++ rest) ≡ is_quiet_from false (acc ++ rest)
digits_plain zero n acc rest = refl
digits_plain (suc k) n acc rest = go (n / 10 == 0) (digits_plain k (n / 10) (digit_glyph false (n % 10) ∷ acc) rest)
  where
    go : (z : Bool) → is_quiet_from false (digits_onto k 10 false (n / 10) (digit_glyph false (n % 10) ∷ acc) ++ rest)
        ≡ is_quiet_from false (digit_glyph false (n % 10) ∷ (acc ++ rest)) →
        is_quiet_from false
        ((if z then digit_glyph false (n % 10) ∷ acc else digits_onto k 10 false (n / 10) (digit_glyph false (n % 10) ∷ acc)) ++ rest)
        ≡ is_quiet_from false (acc ++ rest)
    go true further = glyph_plain (n % 10) (acc ++ rest)
    go false further = further ∙ glyph_plain (n % 10) (acc ++ rest)

-- a number in decimal is plain
pub plain_decimal : (n : ℕ) → Plain (decimal n)
unfolding digits
plain_decimal n = record { goes_on = λ rest. digits_plain 64 n [] rest }

-- a number begins no such line
glyph_first : (d : ℕ) (rest : List ℕ) → begins_note (digit_glyph false d ∷ rest) ≡ false
glyph_first d rest = go (nat_lt d 10)
  where
    go : (z : Bool) → begins_note ((if z then 48 + d else 87 + d) ∷ rest) ≡ false
    go true = rw (ne_eqb 32 (48 + d) (λ h. omega arith)) refl
    go false = rw (ne_eqb 32 (87 + d) (λ h. omega arith)) refl

digits_first : (k n : ℕ) (acc rest : List ℕ) → begins_note (acc ++ rest) ≡ false →
    begins_note (digits_onto k 10 false n acc ++ rest) ≡ false
digits_first zero n acc rest is = is
digits_first (suc k) n acc rest is =
    go (n / 10 == 0) (digits_first k (n / 10) (digit_glyph false (n % 10) ∷ acc) rest (glyph_first (n % 10) (acc ++ rest)))
  where
    go : (z : Bool) → begins_note (digits_onto k 10 false (n / 10) (digit_glyph false (n % 10) ∷ acc) ++ rest) ≡ false →
        begins_note
        ((if z then digit_glyph false (n % 10) ∷ acc else digits_onto k 10 false (n / 10) (digit_glyph false (n % 10) ∷ acc)) ++ rest)
        ≡ false
    go true further = glyph_first (n % 10) (acc ++ rest)
    go false further = further

quiet_if : (bytes : List ℕ) → begins_note bytes ≡ false → is_quiet_from false bytes ≡ true → is_quiet bytes ≡ true
quiet_if [] first is = refl
quiet_if (b ∷ bytes) first is = rw first is

-- a line that begins with a number is quiet
pub quiet_number : (n : ℕ) (rest : List ℕ) → begins_note rest ≡ false → is_quiet_from false rest ≡ true →
    is_quiet (decimal n ++ rest) ≡ true
unfolding digits
quiet_number n rest first is =
    quiet_if (decimal n ++ rest) (digits_first 64 n [] rest first) (digits_plain 64 n [] rest ∙ is)

-- ---- closing lines
