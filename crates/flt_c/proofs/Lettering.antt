-- What the loop over a file's letters keeps: the letters so far and those of the rest are the file's;
-- and that letters are the file's bytes.
use Rattle.std.proofs.Common.{◌≡◌, ℕ, zero, suc, ◌+◌, ◌-◌, ◌≤◌, ◌<◌, Bool, true, false, List, [], ◌∷◌, ◌++◌, length}
use Rattle.std.proofs.Common.{drop, take, map, refl, sym, ap, ◌∙◌, arith, length-drop, get_or, append_assoc, subst}
use Rattle.std.specs.Prelude.{◌==◌, if◌then◌else◌, nat_lt, Option, Some, None, Result, Ok, Err}
use Rattle.flt_c.proofs.Follow.{differ}
use Rattle.flt_c.proofs.Reading.{not_zero, past_start, past_line, past_column}
use Rattle.flt_c.specs.declared.fault.Fault.{Fault}
use Rattle.flt_c.specs.declared.fault.FaultKind.{FaultKind}
use Rattle.flt_c.specs.declared.files.Flaw.{Flaw}
use Rattle.flt_c.specs.declared.files.Flaw.TheVariants.{Large}
use Rattle.flt_c.specs.declared.letter.Letter.{Letter}
use Rattle.flt_c.specs.declared.scan.Scanner.{Scanner}
use Rattle.flt_c.specs.Letters.{LettersAreTheFile, flawed, is_aside, letter_of, letters_end, letters_from, letters_of, other, with_letters}
use Rattle.flt_c.specs.Places.{past, past_continuation}
use Rattle.flt_c.specs.Scan.{◌>>=◌, continuation, join, open_at_end, start, step}

pub record AreLetters (file : List ℕ) (out : List Letter) (s : Scanner) (aside : Bool) (rest : List ℕ) : Type 0 where
  pub same : with_letters out (letters_from zero s aside rest) ≡ letters_of file
  pub counted : s.at.start + length rest ≡ length file
  pub line : s.at.line ≤ s.at.start + 1
  pub column : s.at.column ≤ s.at.start + 1
  pub depth : s.depth ≤ s.at.start

-- letters before others
pub fronts : (xs ys : List Letter) (r : Result (List Letter) Fault) → with_letters xs (with_letters ys r) ≡ with_letters (xs ++ ys) r
fronts xs ys (Ok ls) = ap (λ all. Ok all) (sym (append_assoc xs ys ls))
fronts xs ys (Err f) = refl

none_before : (r : Result (List Letter) Fault) → with_letters [] r ≡ r
none_before (Ok ls) = refl
none_before (Err f) = refl

-- what is left over of a continuation
skipped : (k : ℕ) (s : Scanner) (aside : Bool) (z : List ℕ) → k ≤ length z →
    letters_from k s aside z ≡ with_letters (map other (take k z)) (letters_from zero s aside (drop k z))
skipped zero s aside z h = sym (none_before (letters_from zero s aside z))
skipped (suc k) s aside [] h = absurd (omega (arith, h))
skipped (suc k) s aside (b ∷ z) h =
    let less : k ≤ length z = omega (arith, h) in
    ap (with_letters (other b ∷ [])) (skipped k s aside z less)
    ∙ fronts (other b ∷ []) (map other (take k z)) (letters_from zero s aside (drop k z))

-- a whole continuation
over : (rest : List ℕ) (n : ℕ) (s next : Scanner) (aside : Bool) → 0 < n → n ≤ length rest → n ≡ continuation rest → join s n ≡ Ok next →
    letters_from zero s aside rest ≡ with_letters (map other (take n rest)) (letters_from zero next aside (drop n rest))
over [] n s next aside p l e h = absurd (omega arith)
over (b ∷ z) zero s next aside p l e h = absurd (omega arith)
over (b ∷ z) (suc m) s next aside p l e h =
    let q : suc m - 1 ≡ m = omega arith in
    let f : (suc m == 0) ≡ false = not_zero (suc m) p in
    let less : m ≤ length z = omega (arith, l) in
    rw (sym e, h, q, f) (
    ap (with_letters (other b ∷ [])) (skipped m next aside z less)
    ∙ fronts (other b ∷ []) (map other (take m z)) (letters_from zero next aside (drop m z)))

-- one letter more
pub one : (s next : Scanner) (aside : Bool) (b : ℕ) (z : List ℕ) → continuation (b ∷ z) ≡ 0 → step s b ≡ Ok next →
    letters_from zero s aside (b ∷ z)
    ≡ with_letters (letter_of s b (is_aside s b aside next) next ∷ []) (letters_from zero next (is_aside s b aside next) z)
one s next aside b z e h = rw (e, h) refl

-- the loop goes on over a byte
pub stepped_on : (file : List ℕ) (out : List Letter) (s next : Scanner) (before aside : Bool) (rest : List ℕ) (letter : Letter) →
    AreLetters file out s before rest → 0 ≡ continuation rest → 1 ≤ length rest → step s (get_or rest 0 0) ≡ Ok next →
    aside ≡ is_aside s (get_or rest 0 0) before next → letter ≡ letter_of s (get_or rest 0 0) aside next →
    next.at ≡ past s.at (get_or rest 0 0) → next.depth ≤ s.depth + 1 → AreLetters file (out ++ (letter ∷ [])) next aside (drop 1 rest)
stepped_on file out s next before aside [] letter i e l h a t p d = absurd (omega arith)
stepped_on file out s next before aside (b ∷ z) letter i e l h a t p d =
    let there = i.counted in
    let line = i.line in
    let column = i.column in
    let deep = i.depth in
    let on = past_start s.at b (b == 10) refl in
    record {
      same = rw (t, a)
          (sym (fronts out (letter_of s b (is_aside s b before next) next ∷ []) (letters_from zero next (is_aside s b before next) z))
          ∙ (ap (with_letters out) (sym (one s next before b z (sym e) h)) ∙ i.same));
      counted = rw (p, on) (omega (arith, there));
      line = rw (p, on) (past_line s.at b (b == 10) refl line);
      column = rw (p, on) (past_column s.at b (b == 10) refl column);
      depth = rw (p, on) (omega (arith, deep, d));
    }

-- the loop goes on over a continuation
pub joined_on : (file : List ℕ) (out more : List Letter) (s next : Scanner) (aside : Bool) (rest : List ℕ) (n : ℕ) →
    AreLetters file out s aside rest → n ≡ continuation rest → (n ≡ 0 → ⊥) → n ≤ length rest → join s n ≡ Ok next →
    more ≡ out ++ map other (take n rest) → next.at ≡ past_continuation s.at n → next.depth ≡ s.depth →
    AreLetters file more next aside (drop n rest)
joined_on file out more s next aside rest n i e m l h t p d =
    let some : 0 < n = omega (arith, m) in
    let there = i.counted in
    let line = i.line in
    let deep = i.depth in
    let left = length-drop n rest in
    record {
      same = rw t (sym (fronts out (map other (take n rest)) (letters_from zero next aside (drop n rest)))
          ∙ (ap (with_letters out) (sym (over rest n s next aside some l e h)) ∙ i.same));
      counted = rw (p, left) (omega (arith, there, l));
      line = rw p (omega (arith, line, some));
      column = rw p (omega (arith, some));
      depth = rw (p, d) (omega (arith, deep));
    }

-- ---- letters are the file's bytes

abbrev bytes : List Letter → List ℕ
bytes ls = map (λ letter. letter.byte) ls

abbrev or_none : Result (List Letter) Fault → List Letter
or_none (Ok ls) = ls
or_none (Err f) = []

abbrev is_ok : Result (List Letter) Fault → Bool
is_ok (Ok ls) = true
is_ok (Err f) = false

abbrev or_nothing : Result (List Letter) Flaw → List Letter
or_nothing (Ok ls) = ls
or_nothing (Err f) = []

abbrev is_fine : Result (List Letter) Flaw → Bool
is_fine (Ok ls) = true
is_fine (Err f) = false

abbrev okay : List Letter → Result (List Letter) Fault
okay ls = Ok ls

front_kept : (l : Letter) (b : ℕ) (z : List ℕ) (found : List Letter) → l.byte ≡ b → (r : Result (List Letter) Fault) →
    ((more : List Letter) → r ≡ Ok more → bytes more ≡ z) → with_letters (l ∷ []) r ≡ Ok found → bytes found ≡ b ∷ z
front_kept l b z found e (Ok more) ih w =
    let same : l ∷ more ≡ found = ap or_none w in
    let first : bytes (l ∷ more) ≡ b ∷ z = rw (e, ih more refl) refl in
    subst (λ ls. bytes ls ≡ b ∷ z) same first
front_kept l b z found e (Err f) ih w = elim (differ (ap is_ok w)) [ ]

end_kept : (s : Scanner) (unclosed : Option FaultKind) (found : List Letter) → letters_end s unclosed ≡ Ok found → bytes found ≡ []
end_kept s None found e =
    let same : [] ≡ found = ap or_none e in
    subst (λ ls. bytes ls ≡ []) same refl
end_kept s (Some kind) found e = elim (differ (ap is_ok e)) [ ]

-- letters that are read on are the bytes that are left
abbrev KeptFrom : List ℕ → Type 0
KeptFrom z = (left : ℕ) (s : Scanner) (aside : Bool) (found : List Letter) → letters_from left s aside z ≡ Ok found → bytes found ≡ z

step_kept : (s : Scanner) (aside : Bool) (b : ℕ) (z : List ℕ) (found : List Letter) → KeptFrom z → (r : Result Scanner Fault) →
    (r >>= (λ next. with_letters (letter_of s b (is_aside s b aside next) next ∷ [])
    (letters_from zero next (is_aside s b aside next) z))) ≡ Ok found →
    bytes found ≡ b ∷ z
step_kept s aside b z found ih (Ok next) e =
    let on = is_aside s b aside next in
    front_kept (letter_of s b on next) b z found refl (letters_from zero next on z) (λ more h. ih zero next on more h) e
step_kept s aside b z found ih (Err f) e = elim (differ (ap is_ok e)) [ ]

join_kept : (n : ℕ) (aside : Bool) (b : ℕ) (z : List ℕ) (found : List Letter) → KeptFrom z → (r : Result Scanner Fault) →
    (r >>= (λ next. with_letters (other b ∷ []) (letters_from (n - 1) next aside z))) ≡ Ok found → bytes found ≡ b ∷ z
join_kept n aside b z found ih (Ok next) e =
    front_kept (other b) b z found refl (letters_from (n - 1) next aside z) (λ more h. ih (n - 1) next aside more h) e
join_kept n aside b z found ih (Err f) e = elim (differ (ap is_ok e)) [ ]

choose : (x : Bool) (one two : Result (List Letter) Fault) (found : List Letter) (z : List ℕ) → (one ≡ Ok found → bytes found ≡ z) →
    (two ≡ Ok found → bytes found ≡ z) → (if x then one else two) ≡ Ok found → bytes found ≡ z
choose true one two found z f g e = f e
choose false one two found z f g e = g e

kept : (z : List ℕ) → KeptFrom z
kept [] zero s aside found e = end_kept s (open_at_end s) found e
kept [] (suc left) s aside found e = end_kept s (open_at_end s) found e
kept (b ∷ z) (suc left) s aside found e =
    front_kept (other b) b z found refl (letters_from left s aside z) (λ more h. kept z left s aside more h) e
kept (b ∷ z) zero s aside found e =
    let n = continuation (b ∷ z) in
    choose (n == 0)
    (step s b >>= (λ next. with_letters (letter_of s b (is_aside s b aside next) next ∷ [])
    (letters_from zero next (is_aside s b aside next) z)))
    (join s n >>= (λ next. with_letters (other b ∷ []) (letters_from (n - 1) next aside z))) found (b ∷ z)
    (step_kept s aside b z found (kept z) (step s b)) (join_kept n aside b z found (kept z) (join s n)) e

flaw_kept : (file : List ℕ) (found : List Letter) (r : Result (List Letter) Fault) →
    letters_of file ≡ r → flawed r ≡ Ok found → bytes found ≡ file
flaw_kept file found (Ok ls) a e =
    let same : ls ≡ found = ap or_nothing e in
    kept file zero start false found (a ∙ ap okay same)
flaw_kept file found (Err f) a e = elim (differ (ap is_fine e)) [ ]

size_kept : (file : List ℕ) (found : List Letter) (x : Bool) →
    (if x then Err Large else flawed (letters_of file)) ≡ Ok found → bytes found ≡ file
size_kept file found true e = elim (differ (ap is_fine e)) [ ]
size_kept file found false e = flaw_kept file found (letters_of file) refl e

-- the letters of a file are its bytes, one after the other
pub letters_are_the_file : LettersAreTheFile
letters_are_the_file file found e = size_kept file found (nat_lt 16777216 (length file)) e
