-- What the loop over a file keeps: the text so far and what is read of the rest are what is read of the file.
use Rattle.std.proofs.Common.{◌≡◌, ℕ, zero, suc, ◌+◌, ◌-◌, ◌≤◌, ◌<◌, Bool, true, false, List, [], ◌∷◌}
use Rattle.std.proofs.Common.{◌++◌, length, drop, refl, sym, ap, ◌∙◌, arith, length-drop, get_or}
use Rattle.std.proofs.lemmas.Bool.{eqb-true}
use Rattle.std.specs.Prelude.{◌==◌, Result, Ok, Err}
use Rattle.flt_c.specs.declared.fault.Fault.{Fault}
use Rattle.flt_c.specs.declared.place.Place.{Place}
use Rattle.flt_c.specs.declared.place.PlacedByte.{PlacedByte}
use Rattle.flt_c.specs.declared.scan.Scanner.{Scanner}
use Rattle.flt_c.specs.Places.{past, past_continuation}
use Rattle.flt_c.specs.Scan.{continuation, join, step, added, with_front, read, annotations}
use Rattle.flt_c.specs.Texts.{Text, put, put_all, after}

pub record IsRead (number : ℕ) (before : Text) (file : List ℕ) (text : Text) (s : Scanner) (rest : List ℕ) : Type 0 where
  pub same : after number text (read zero s rest) ≡ after number before (annotations file)
  pub counted : s.at.start + length rest ≡ length file
  pub line : s.at.line ≤ s.at.start + 1
  pub column : s.at.column ≤ s.at.start + 1
  pub depth : s.depth ≤ s.at.start

put_more : (number : ℕ) (text : Text) (xs ys : List PlacedByte) →
    put_all number text (xs ++ ys) ≡ put_all number (put_all number text xs) ys
put_more number text [] ys = refl
put_more number text (x ∷ xs) ys = put_more number (put number text x) xs ys

-- what is read after some bytes is read after the text with these
pub after_front : (number : ℕ) (text : Text) (front : List PlacedByte) (r : Result (List PlacedByte) Fault) →
    after number text (with_front front r) ≡ after number (put_all number text front) r
after_front number text front (Ok ps) = ap (λ t. Ok t) (put_more number text front ps)
after_front number text front (Err f) = refl

read_skip : (k : ℕ) (s : Scanner) (z : List ℕ) → read k s z ≡ read zero s (drop k z)
read_skip zero s z = refl
read_skip (suc k) s [] = refl
read_skip (suc k) s (b ∷ z) = read_skip k s z

-- the place after a byte is one byte on
pub past_start : (at : Place) (b : ℕ) (x : Bool) → (b == 10) ≡ x → (past at b).start ≡ at.start + 1
past_start at b true e = rw e refl
past_start at b false e = rw e refl

-- a number above 0 isn't 0
pub not_zero : (n : ℕ) → 0 < n → (n == 0) ≡ false
not_zero n h = by (n == 0) refl
  where
    by : (x : Bool) → (n == 0) ≡ x → x ≡ false
    by true e = let z : n ≡ 0 = eqb-true n 0 e in absurd (omega arith)
    by false e = refl

read_over : (rest : List ℕ) (n : ℕ) (s next : Scanner) → 0 < n → n ≤ length rest → n ≡ continuation rest → join s n ≡ Ok next →
    read zero s rest ≡ read zero next (drop n rest)
read_over [] n s next p l e h = absurd (omega arith)
read_over (b ∷ z) zero s next p l e h = absurd (omega arith)
read_over (b ∷ z) (suc m) s next p l e h =
    let q : suc m - 1 ≡ m = omega arith in
    let f : (suc m == 0) ≡ false = not_zero (suc m) p in
    rw (sym e, h, q, f) (read_skip m next z)

-- the line after a byte is within what the place after it allows
pub past_line : (at : Place) (b : ℕ) (x : Bool) → (b == 10) ≡ x → at.line ≤ at.start + 1 → (past at b).line ≤ at.start + 1 + 1
past_line at b true e h = rw e (omega (arith, h))
past_line at b false e h = rw e (omega (arith, h))

-- the column after a byte is within what the place after it allows
pub past_column : (at : Place) (b : ℕ) (x : Bool) → (b == 10) ≡ x → at.column ≤ at.start + 1 → (past at b).column ≤ at.start + 1 + 1
past_column at b true e h = rw e (omega arith)
past_column at b false e h = rw e (omega (arith, h))

-- one byte more is read
pub read_on : (s next : Scanner) (b : ℕ) (z : List ℕ) → continuation (b ∷ z) ≡ 0 → step s b ≡ Ok next →
    read zero s (b ∷ z) ≡ with_front (added s b) (read zero next z)
read_on s next b z e h = rw (e, h) refl

-- the loop goes on over a byte
pub stepped_on : (number : ℕ) (before : Text) (file : List ℕ) (text more : Text) (s next : Scanner) (rest : List ℕ) →
    IsRead number before file text s rest → 0 ≡ continuation rest → 1 ≤ length rest → step s (get_or rest 0 0) ≡ Ok next →
    more ≡ put_all number text (added s (get_or rest 0 0)) → next.at ≡ past s.at (get_or rest 0 0) → next.depth ≤ s.depth + 1 →
    IsRead number before file more next (drop 1 rest)
stepped_on number before file text more s next [] i e l h t p d = absurd (omega arith)
stepped_on number before file text more s next (b ∷ z) i e l h t p d =
    let there = i.counted in
    let line = i.line in
    let column = i.column in
    let deep = i.depth in
    let on = past_start s.at b (b == 10) refl in
    record {
      same = ap (λ u. after number u (read zero next z)) t
          ∙ (sym (after_front number text (added s b) (read zero next z))
          ∙ (ap (after number text) (sym (read_on s next b z (sym e) h)) ∙ i.same));
      counted = rw (p, on) (omega (arith, there));
      line = rw (p, on) (past_line s.at b (b == 10) refl line);
      column = rw (p, on) (past_column s.at b (b == 10) refl column);
      depth = rw (p, on) (omega (arith, deep, d));
    }

-- the loop goes on over a continuation
pub joined_on : (number : ℕ) (before : Text) (file : List ℕ) (text : Text) (s next : Scanner) (rest : List ℕ) (n : ℕ) →
    IsRead number before file text s rest → n ≡ continuation rest → (n ≡ 0 → ⊥) → n ≤ length rest → join s n ≡ Ok next →
    next.at ≡ past_continuation s.at n → next.depth ≡ s.depth → IsRead number before file text next (drop n rest)
joined_on number before file text s next rest n i e m l h p d =
    let some : 0 < n = omega (arith, m) in
    let there = i.counted in
    let line = i.line in
    let deep = i.depth in
    let left = length-drop n rest in
    record {
      same = ap (after number text) (sym (read_over rest n s next some l e h)) ∙ i.same;
      counted = rw (p, left) (omega (arith, there, l));
      line = rw p (omega (arith, line, some));
      column = rw p (omega (arith, some));
      depth = rw (p, d) (omega (arith, deep));
    }
