-- Each byte of the annotations of a file, where they are laid, is in the file at the same line and column.
use Rattle.std.proofs.Common.{◌≡◌, ◌⊎◌, inl, inr, ℕ, zero, suc, ◌+◌, ◌-◌, ◌≤◌, ◌<◌, Bool, true, false, List, [], ◌∷◌}
use Rattle.std.proofs.Common.{◌++◌, length, refl, sym, ap, subst, ◌∙◌, arith, append_assoc, append-nil, eq-eqb}
use Rattle.std.specs.Prelude.{◌==◌, if◌then◌else◌, nat_lt, map, replicate, Option, Some, None, Result, Ok, Err}
use Rattle.flt_c.proofs.Beside.{Chain, chained}
use Rattle.flt_c.proofs.Follow.{differ}
use Rattle.flt_c.specs.declared.fault.Fault.{Fault}
use Rattle.flt_c.specs.declared.files.FileFlaw.{FileFlaw}
use Rattle.flt_c.specs.declared.files.Flaw.TheVariants.{Large, Bare, Long}
use Rattle.flt_c.specs.declared.laying.PlaceFlaw.{PlaceFlaw}
use Rattle.flt_c.specs.declared.lock.LockLine.{LockLine}
use Rattle.flt_c.specs.declared.lock.LockLine.TheVariants as l
use Rattle.flt_c.specs.declared.place.Place.{Place}
use Rattle.flt_c.specs.declared.place.PlacedByte.{PlacedByte}
use Rattle.flt_c.specs.declared.text.Line.{Line}
use Rattle.flt_c.specs.Files.{flawed, grown, with_files, without_expressions, ◌>>=◌}
use Rattle.flt_c.specs.InPlace.{AreInC, EachByteIsInItsPlace, IsInC, crowded, gap, laid, laid_of, laid_unless}
use Rattle.flt_c.specs.Laws.{IsAt, beside}
use Rattle.flt_c.specs.Locks.{after as after_byte, plain, plain_byte, plain_from}
use Rattle.flt_c.specs.Places.{first_place, past, place_from, place_of}
use Rattle.flt_c.specs.Scan.{annotations}
use Rattle.flt_c.specs.Texts.{Text, after, empty, plain_text, put, put_all}
use Rattle.flt_rules.specs.Limits.{max_text}

-- ---- places of a file

past_up : (at : Place) (b : ℕ) (x : Bool) → (b == 10) ≡ x → at.line ≤ (past at b).line
past_up at b true e = rw e (omega arith)
past_up at b false e = rw e (omega arith)

line_from : (at : Place) (z : List ℕ) (m : ℕ) → at.line ≤ (place_from at z m).line
line_from at [] zero = omega arith
line_from at (b ∷ z) zero = omega arith
line_from at [] (suc m) = omega arith
line_from at (b ∷ z) (suc m) =
    let one = past_up at b (b == 10) refl in
    let more = line_from (past at b) z m in
    omega (arith, one, more)

-- lines rise
lines_rise : (at : Place) (z : List ℕ) (n m : ℕ) → n ≤ m → (place_from at z n).line ≤ (place_from at z m).line
lines_rise at [] zero m h = line_from at [] m
lines_rise at (b ∷ z) zero m h = line_from at (b ∷ z) m
lines_rise at z (suc n) zero h = absurd (omega (arith, h))
lines_rise at [] (suc n) (suc m) h = omega arith
lines_rise at (b ∷ z) (suc n) (suc m) h = let less : n ≤ m = omega (arith, h) in lines_rise (past at b) z n m less

past_column_up : (at : Place) (b : ℕ) (x : Bool) → (b == 10) ≡ x → 1 ≤ at.column → 1 ≤ (past at b).column
past_column_up at b true e h = rw e (omega arith)
past_column_up at b false e h = rw e (omega (arith, h))

-- columns count from 1
column_from : (at : Place) (z : List ℕ) (m : ℕ) → 1 ≤ at.column → 1 ≤ (place_from at z m).column
column_from at [] zero h = h
column_from at (b ∷ z) zero h = h
column_from at [] (suc m) h = h
column_from at (b ∷ z) (suc m) h = column_from (past at b) z m (past_column_up at b (b == 10) refl h)

-- ---- a text as its bytes and the places of its lines

abbrev bytes_of : List PlacedByte → List ℕ
bytes_of ps = map (λ p. p.byte) ps

abbrev line_at : ℕ → Place → Line
line_at number place = record { file = number; place = place }

abbrev lines_of : ℕ → Bool → List PlacedByte → List Line
lines_of number fresh [] = []
lines_of number true (p ∷ ps) = line_at number p.place ∷ lines_of number (p.byte == 10) ps
lines_of number false (p ∷ ps) = lines_of number (p.byte == 10) ps

put_bytes : (number : ℕ) (ps : List PlacedByte) (text : Text) → (put_all number text ps).bytes ≡ text.bytes ++ bytes_of ps
put_bytes number [] text = sym (append-nil text.bytes)
put_bytes number (p ∷ ps) text = put_bytes number ps (put number text p) ∙ append_assoc text.bytes (p.byte ∷ []) (bytes_of ps)

put_lines : (number : ℕ) (ps : List PlacedByte) (text : Text) → (put_all number text ps).lines ≡ text.lines ++ lines_of number text.fresh ps
put_lines number [] text = sym (append-nil text.lines)
put_lines number (p ∷ ps) text = put_lines number ps (put number text p) ∙ by text.fresh text.lines
  where
    by : (fresh : Bool) (lines : List Line) →
        (if fresh then lines ++ (line_at number p.place ∷ []) else lines) ++ lines_of number (p.byte == 10) ps
        ≡ lines ++ lines_of number fresh (p ∷ ps)
    by true lines = append_assoc lines (line_at number p.place ∷ []) (lines_of number (p.byte == 10) ps)
    by false lines = refl

-- ---- gaps

abbrev Goes : List ℕ → List ℕ → ℕ → ℕ → Type 0
Goes file z line column = (there : Place) → there.line ≡ line → there.column ≡ column → AreInC file there z

feeds_on : (file : List ℕ) (k : ℕ) (here : Place) (z : List ℕ) →
    here.column ≡ 1 → Goes file z (here.line + k) 1 → AreInC file here (replicate k 10 ++ z)
feeds_on file zero here z c f = let same : here.line ≡ here.line + 0 = omega arith in f here same c
feeds_on file (suc k) here z c f = (
  inl (inr refl),
  feeds_on file k (past here 10) z refl
      (λ there l d. let same : there.line ≡ here.line + suc k = omega (arith, l) in f there same d),
)

blanks_on : (file : List ℕ) (k : ℕ) (here : Place) (z : List ℕ) →
    Goes file z here.line (here.column + k) → AreInC file here (replicate k 32 ++ z)
blanks_on file zero here z f = let same : here.column ≡ here.column + 0 = omega arith in f here refl same
blanks_on file (suc k) here z f = (
  inl (inl refl),
  blanks_on file k (past here 32) z
      (λ there l d. let same : there.column ≡ here.column + suc k = omega (arith, d) in f there l same),
)

gap_on : (file : List ℕ) (last : ℕ) (at here : Place) (z : List ℕ) →
    here.line ≡ last + 1 → here.column ≡ 1 → last < at.line → 1 ≤ at.column →
    Goes file z at.line at.column → AreInC file here (gap last at ++ z)
gap_on file last at here z l c less one f =
    subst (AreInC file here) (sym (append_assoc (replicate (at.line - last - 1) 10) (replicate (at.column - 1) 32) z))
    (feeds_on file (at.line - last - 1) here (replicate (at.column - 1) 32 ++ z) c
    (λ there m d. blanks_on file (at.column - 1) there z
    (λ beyond n e. let line : beyond.line ≡ at.line = omega (arith, l, less, m, n) in
    let column : beyond.column ≡ at.column = omega (arith, one, d, e) in f beyond line column)))

-- ---- bytes

-- from a place on no line is an earlier one
abbrev IsOn : List ℕ → Place → ℕ → Type 0
IsOn file at last = (n : ℕ) → at.start ≤ n → last ≤ (place_of file n).line

-- the place in the text: at the start of the line after the last one, or that of the next byte in C
abbrev Meets : Bool → ℕ → Place → Place → Type 0
Meets true last at here = (here.line ≡ last + 1) × (here.column ≡ 1)
Meets false last at here = (last ≡ at.line) × ((here.line ≡ at.line) × (here.column ≡ at.column))

is_in : (file : List ℕ) (p : PlacedByte) (here : Place) → IsAt file p.place p.byte →
    here.line ≡ p.place.line → here.column ≡ p.place.column →
    IsInC file here p.byte
is_in file p here i l c = (p.place.start, (ap (λ (q : Place). q.line) i.0 ∙ sym l, (ap (λ (q : Place). q.column) i.0 ∙ sym c, i.1)))

meets : (b last : ℕ) (at here : Place) (x : Bool) → (b == 10) ≡ x → last ≡ at.line → here.line ≡ at.line → here.column ≡ at.column →
    Meets x last (beside at) (past here b)
meets b last at here true e o l c = rw e (ap (λ n. n + 1) (l ∙ sym o), refl)
meets b last at here false e o l c = rw e (o, (l, ap (λ n. n + 1) c))

differs : (n m : ℕ) → (n == m) ≡ false → n ≡ m → ⊥
differs n m f e = differ (sym f ∙ eq-eqb n m e)

abbrev is_none : Option Place → Bool
is_none None = true
is_none (Some at) = false

uncrowded : (x : Bool) (at : Place) (o : Option Place) → (if x then Some at else o) ≡ None → (x ≡ false) × (o ≡ None)
uncrowded true at o e = elim (differ (ap is_none e)) [ ]
uncrowded false at o e = (refl, e)

-- ---- blanks for the expressions of locks

-- a byte of the text is itself, or such a blank
plain_is : (line : LockLine) (b : ℕ) → (plain_byte line b ≡ 32) ⊎ (plain_byte line b ≡ b)
plain_is l.Expression b = inl refl
plain_is l.Nothing b = inr refl
plain_is (l.Word word read) b = inr refl
plain_is l.Kind b = inr refl
plain_is l.Name b = inr refl
plain_is l.Letters b = inr refl
plain_is l.Equals b = inr refl
plain_is l.Other b = inr refl

-- no such blank ends a line
same_end : (line : LockLine) (b : ℕ) → (plain_byte (after_byte line b) b == 10) ≡ (b == 10)
same_end line b = by (b == 10) refl
  where
    other : (on : LockLine) → (b == 10) ≡ false → (plain_byte on b == 10) ≡ (b == 10)
    other on e = elim (plain_is on b) [ inl is ↦ ap (λ c. c == 10) is ∙ sym e | inr is ↦ ap (λ c. c == 10) is ]

    by : (x : Bool) → (b == 10) ≡ x → (plain_byte (after_byte line b) b == 10) ≡ (b == 10)
    by true e = ap (λ on. plain_byte on b == 10) (ended e)
      where
        ended : (b == 10) ≡ true → after_byte line b ≡ l.Nothing
        ended e = rw e refl
    by false e = other (after_byte line b) e

-- the place after a byte that ends a line, or after another one
abbrev past_by : Place → Bool → Place
past_by at x =
    if x then record { line = at.line + 1; column = 1; start = at.start + 1 }
    else record { line = at.line; column = at.column + 1; start = at.start + 1 }

-- a byte of the text, and what is laid after it
plain_on : (file : List ℕ) (here : Place) (on : LockLine) (b last : ℕ) (z : List ℕ) (lines : List Line) →
    (plain_byte on b == 10) ≡ (b == 10) →
    IsInC file here b → AreInC file (past here b) (laid last (b == 10) z lines) →
    AreInC file here (plain_byte on b ∷ laid last (plain_byte on b == 10) z lines)
plain_on file here on b last z lines e i r = (
  elim (plain_is on b) [ inl is ↦ inl (inl is) | inr is ↦ inr (subst (IsInC file here) (sym is) i) ],
  subst (λ x. AreInC file (past_by here x) (laid last x z lines)) (sym e) r,
)

laid_on : (file : List ℕ) (ps : List PlacedByte) (line : LockLine) (fresh : Bool) (at here : Place) (last : ℕ) → Chain file at fresh ps →
    crowded last (lines_of 0 fresh ps) ≡ None → IsOn file at last → Meets fresh last at here →
    AreInC file here (laid last fresh (plain_from line (bytes_of ps)) (lines_of 0 fresh ps))
laid_on file [] line true at here last c w on m = tt
laid_on file [] line false at here last c w on m = tt
laid_on file (p ∷ ps) line false at here last c w on m =
    let same = c.0 in
    let o : last ≡ p.place.line = m.0 ∙ ap (λ (q : Place). q.line) same in
    let l : here.line ≡ p.place.line = m.1.0 ∙ ap (λ (q : Place). q.line) same in
    let k : here.column ≡ p.place.column = m.1.1 ∙ ap (λ (q : Place). q.column) same in
    let s : at.start ≡ p.place.start = ap (λ (q : Place). q.start) same in
    plain_on file here (after_byte line p.byte) p.byte last (plain_from (after_byte line p.byte) (bytes_of ps))
    (lines_of 0 (p.byte == 10) ps)
    (same_end line p.byte) (is_in file p here c.1.0 l k)
    (laid_on file ps (after_byte line p.byte) (p.byte == 10) (beside p.place) (past here p.byte) last c.1.1 w
    (λ n h. let there : at.start ≤ n = omega (arith, s, h) in on n there)
    (meets p.byte last p.place here (p.byte == 10) refl o l k))
laid_on file (p ∷ ps) line true at here last c w on m =
    let free = uncrowded (p.place.line == last) p.place (crowded p.place.line (lines_of 0 (p.byte == 10) ps)) w in
    let is : (place_of file p.place.start) ≡ p.place = c.1.0.0 in
    let line_is : (place_of file p.place.start).line ≡ p.place.line = ap (λ (q : Place). q.line) is in
    let column_is : (place_of file p.place.start).column ≡ p.place.column = ap (λ (q : Place). q.column) is in
    let no_less = on p.place.start c.0 in
    let other = differs p.place.line last free.0 in
    let less : last < p.place.line = further last p.place.line (subst (λ k. last ≤ k) line_is no_less) other in
    let first : 1 ≤ (place_of file p.place.start).column = column_from first_place file p.place.start (omega arith) in
    let one : 1 ≤ p.place.column = subst (λ k. 1 ≤ k) column_is first in
    let rest = plain_from (after_byte line p.byte) (bytes_of ps) in
    let byte = plain_byte (after_byte line p.byte) p.byte in
    gap_on file last p.place here (byte ∷ laid p.place.line (byte == 10) rest (lines_of 0 (p.byte == 10) ps)) m.0 m.1 less one
    (λ there l k.
    plain_on file there (after_byte line p.byte) p.byte p.place.line rest (lines_of 0 (p.byte == 10) ps)
    (same_end line p.byte) (is_in file p there c.1.0 l k)
    (laid_on file ps (after_byte line p.byte) (p.byte == 10) (beside p.place) (past there p.byte) p.place.line c.1.1 free.1
    (λ n h. let start : p.place.start ≤ n = omega (arith, h) in
    subst (λ k. k ≤ (place_of file n).line) line_is (lines_rise first_place file p.place.start n start))
    (meets p.byte p.place.line p.place there (p.byte == 10) refl refl l k)))
  where
    further : (n m : ℕ) → n ≤ m → (m ≡ n → ⊥) → n < m
    further n m h d = omega (arith, h, d)

-- ---- a file

abbrev or_none : Result (List ℕ) PlaceFlaw → List ℕ
or_none (Ok z) = z
or_none (Err flaw) = []

abbrev is_ok : Result (List ℕ) PlaceFlaw → Bool
is_ok (Ok z) = true
is_ok (Err flaw) = false

text_laid : (file text : List ℕ) (ps : List PlacedByte) → annotations file ≡ Ok ps →
    (o : Option Place) → crowded 0 (put_all 0 empty ps).lines ≡ o →
    laid_unless o (plain_text (put_all 0 empty ps)) ≡ Ok text → AreInC file first_place text
text_laid file text ps a (Some at) w e = elim (differ (ap is_ok e)) [ ]
text_laid file text ps a None w e =
    let bytes : (put_all 0 empty ps).bytes ≡ bytes_of ps = put_bytes 0 ps empty in
    let lines : (put_all 0 empty ps).lines ≡ lines_of 0 true ps = put_lines 0 ps empty in
    let free : crowded 0 (lines_of 0 true ps) ≡ None = ap (crowded 0) (sym lines) ∙ w in
    let there = laid_on file ps l.Nothing true first_place first_place 0 (chained file ps a) free (λ n h. omega arith) (refl, refl) in
    let same : laid 0 true (plain (put_all 0 empty ps).bytes) (put_all 0 empty ps).lines ≡ text = ap or_none e in
    subst (AreInC file first_place) same
    (subst (λ z. AreInC file first_place (laid 0 true (plain z) (put_all 0 empty ps).lines)) (sym bytes)
    (subst (λ (ls : List Line). AreInC file first_place (laid 0 true (plain (bytes_of ps)) ls)) (sym lines) there))

-- what is made of a file's text
abbrev laid_after : Result Text FileFlaw → Result (List ℕ) PlaceFlaw
laid_after r = laid_of (without_expressions (r >>= (λ more. with_files 1 more [])))

grown_laid : (file text : List ℕ) (ps : List PlacedByte) → annotations file ≡ Ok ps → (x y : Bool) →
    laid_after (if x then flawed 0 Bare else (if y then flawed 0 Long else Ok (put_all 0 empty ps))) ≡ Ok text →
    AreInC file first_place text
grown_laid file text ps a true y e = elim (differ (ap is_ok e)) [ ]
grown_laid file text ps a false true e = elim (differ (ap is_ok e)) [ ]
grown_laid file text ps a false false e = text_laid file text ps a (crowded 0 (put_all 0 empty ps).lines) refl e

read_laid : (file text : List ℕ) (r : Result (List PlacedByte) Fault) →
    annotations file ≡ r → laid_after (grown 0 empty (after 0 empty r)) ≡ Ok text →
    AreInC file first_place text
read_laid file text (Err f) a e = elim (differ (ap is_ok e)) [ ]
read_laid file text (Ok ps) a e =
    grown_laid file text ps a (length (put_all 0 empty ps).bytes == length empty.bytes)
    (nat_lt max_text (length (put_all 0 empty ps).bytes)) e

size_laid : (file text : List ℕ) (x : Bool) →
    laid_after (if x then flawed 0 Large else grown 0 empty (after 0 empty (annotations file))) ≡ Ok text →
    AreInC file first_place text
size_laid file text true e = elim (differ (ap is_ok e)) [ ]
size_laid file text false e = read_laid file text (annotations file) refl e

-- each byte of the annotations of a file, where they stand in it, is in the file at the same line and column
pub each_byte_is_in_its_place : EachByteIsInItsPlace
each_byte_is_in_its_place file text e = size_laid file text (nat_lt 16777216 (length file)) e
