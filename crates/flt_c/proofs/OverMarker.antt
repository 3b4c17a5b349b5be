-- What is read over the marker of an annotation is what is read byte by byte.
use Rattle.std.proofs.Common.{◌≡◌, ℕ, zero, ◌≤◌, Bool, true, false, List, [], ◌∷◌, ◌++◌, length}
use Rattle.std.proofs.Common.{drop, take, map, refl, sym, ap, ◌∙◌, arith, length-drop}
use Rattle.std.proofs.lemmas.Bool.{eqb-true}
use Rattle.std.specs.Prelude.{◌==◌, ◌&&◌, not, Option, Some, Result, Ok}
use Rattle.flt_c.proofs.Follow.{differ}
use Rattle.flt_c.proofs.Lettering.{AreLetters, fronts, one as letter_one}
use Rattle.flt_c.proofs.OverRuns.{no_join, none_begins, not_true, place_is}
use Rattle.flt_c.proofs.Reading.{IsRead, after_front, read_on}
use Rattle.flt_c.specs.declared.fault.Fault.{Fault}
use Rattle.flt_c.specs.declared.front.Front.{Front}
use Rattle.flt_c.specs.declared.front.Front.TheVariants as f
use Rattle.flt_c.specs.declared.letter.Letter.{Letter}
use Rattle.flt_c.specs.declared.mode.Mode.{Mode}
use Rattle.flt_c.specs.declared.mode.Mode.TheVariants as m
use Rattle.flt_c.specs.declared.place.Place.{Place}
use Rattle.flt_c.specs.declared.scan.Scanner.{Scanner}
use Rattle.flt_c.specs.Fronts.{begins_directive, depth_after, front_after, front_after_space}
use Rattle.flt_c.specs.Laws.{beside}
use Rattle.flt_c.specs.Letters.{is_aside, letter_of, letters_from, other, with_letters}
use Rattle.flt_c.specs.Runs.{begins_marker, further, is_ordinary_code, marked, may_take_marker, takes_marker}
use Rattle.flt_c.specs.Scan.{added, read, step}
use Rattle.flt_c.specs.Texts.{Text, after, put_all}

-- ---- where a marker is read

-- code that a compiler reads, in a line that goes on from no other
abbrev there : Scanner → Mode → Front → Place → Place → Place → Option Place → Scanner
there s mode front at last opened noted = record {
  mode = mode;
  front = front;
  depth = 0;
  at = at;
  last = last;
  opened = opened;
  group = s.group;
  joined = false;
  noted = noted;
}

zero_stays : (front : Front) → depth_after 0 front 47 ≡ 0
zero_stays f.LetterI = refl
zero_stays f.LetterE = refl
zero_stays f.Zero = refl
zero_stays _ = refl

no_directive : (front : Front) → begins_directive front (front_after_space front) ≡ false
no_directive f.Nothing = refl
no_directive _ = refl

module _ (s : Scanner) (front : Front) (at last opened : Place) (noted : Option Place) where
  first_slash : step (there s m.Code front at last opened noted) 47 ≡ Ok (there s m.Slash front (beside at) at opened noted)
  first_slash = rw (none_begins front, zero_stays front) refl

  second_slash : step (there s m.Slash front at last opened noted) 47
      ≡ Ok (there s (m.LineMark 64) (front_after_space front) (beside at) at last noted)
  second_slash = rw (no_directive front, zero_stays (front_after front 47)) refl

  at_sign : step (there s (m.LineMark 64) front at last opened noted) 64
      ≡ Ok (there s (m.LineMark 102) front (beside at) at opened noted)
  at_sign = rw (none_begins front) refl

  letter_f : step (there s (m.LineMark 102) front at last opened noted) 102
      ≡ Ok (there s (m.LineMark 108) front (beside at) at opened noted)
  letter_f = rw (none_begins front) refl

  letter_l : step (there s (m.LineMark 108) front at last opened noted) 108
      ≡ Ok (there s (m.LineMark 116) front (beside at) at opened noted)
  letter_l = rw (none_begins front) refl

  letter_t : step (there s (m.LineMark 116) front at last opened noted) 116
      ≡ Ok (there s m.LineMarked front (beside at) at opened (Some opened))
  letter_t = rw (none_begins front) refl

both : (x y : Bool) → (x && y) ≡ true → (x ≡ true) × (y ≡ true)
both true true e = (refl, refl)
both true false e = elim (differ e) [ ]
both false y e = elim (differ e) [ ]

marker_is : (z : List ℕ) → begins_marker z ≡ true → z ≡ 47 ∷ 47 ∷ 64 ∷ 102 ∷ 108 ∷ 116 ∷ drop 6 z
marker_is (a ∷ b ∷ c ∷ d ∷ e ∷ g ∷ z) h =
    let first = both (a == 47) (b == 47 && (c == 64 && (d == 102 && (e == 108 && g == 116)))) h in
    let second = both (b == 47) (c == 64 && (d == 102 && (e == 108 && g == 116))) first.1 in
    let third = both (c == 64) (d == 102 && (e == 108 && g == 116)) second.1 in
    let fourth = both (d == 102) (e == 108 && g == 116) third.1 in
    let last = both (e == 108) (g == 116) fourth.1 in
    rw (
      eqb-true a 47 first.0,
      eqb-true b 47 second.0,
      eqb-true c 64 third.0,
      eqb-true d 102 fourth.0,
      eqb-true e 108 last.0,
      eqb-true g 116 last.1,
    ) refl
marker_is _ h = elim (differ h) [ ]

ordinary : (mode : Mode) → is_ordinary_code mode ≡ true → mode ≡ m.Code
ordinary m.Code h = refl
ordinary _ h = elim (differ h) [ ]

-- where a marker is taken
record Takes (s : Scanner) (z : List ℕ) : Type 0 where
  mode : s.mode ≡ m.Code
  depth : s.depth ≡ 0
  joined : s.joined ≡ false
  next : z ≡ 47 ∷ 47 ∷ 64 ∷ 102 ∷ 108 ∷ 116 ∷ drop 6 z

takes : (s : Scanner) (z : List ℕ) → takes_marker s z ≡ true → Takes s z
takes s z h =
    let all = both (may_take_marker s) (begins_marker z) h in
    let first = both (is_ordinary_code s.mode) (s.depth == 0 && not s.joined) all.0 in
    let later = both (s.depth == 0) (not s.joined) first.1 in
    record {
      mode = ordinary s.mode first.0;
      depth = eqb-true s.depth 0 later.0;
      joined = not_true s.joined later.1;
      next = marker_is z all.1;
    }

-- at its first byte
abbrev zeroth : Scanner → Scanner
zeroth s = there s m.Code s.front s.at s.last s.opened s.noted

is_there : (s : Scanner) (z : List ℕ) → Takes s z → s ≡ zeroth s
is_there s z i =
    let all : record {
      mode = s.mode;
      front = s.front;
      depth = s.depth;
      at = s.at;
      last = s.last;
      opened = s.opened;
      group = s.group;
      joined = s.joined;
      noted = s.noted;
    } ≡ zeroth s = rw (i.mode, i.depth, i.joined) refl in
    all

abbrev five : Place → Place
five at = beside (beside (beside (beside (beside at))))

five_further : (at : Place) → five at ≡ further at 5
five_further at = place_is (five at) (further at 5) refl (omega arith) (omega arith)

six_further : (at : Place) → beside (five at) ≡ further at 6
six_further at = place_is (beside (five at)) (further at 6) refl (omega arith) (omega arith)

-- byte by byte
abbrev first : Scanner → Scanner
first s = there s m.Slash s.front (beside s.at) s.at s.opened s.noted

abbrev second : Scanner → Scanner
second s = there s (m.LineMark 64) (front_after_space s.front) (beside (beside s.at)) (beside s.at) s.at s.noted

abbrev third : Scanner → Scanner
third s = there s (m.LineMark 102) (front_after_space s.front) (beside (beside (beside s.at))) (beside (beside s.at)) s.at s.noted

abbrev fourth : Scanner → Scanner
fourth s =
    there s (m.LineMark 108) (front_after_space s.front) (beside (beside (beside (beside s.at))))
    (beside (beside (beside s.at))) s.at s.noted

abbrev fifth : Scanner → Scanner
fifth s = there s (m.LineMark 116) (front_after_space s.front) (five s.at) (beside (beside (beside (beside s.at)))) s.at s.noted

abbrev end_of : Scanner → Scanner
end_of s = there s m.LineMarked (front_after_space s.front) (beside (five s.at)) (five s.at) s.at (Some s.at)

is_marked : (s : Scanner) (z : List ℕ) → Takes s z → end_of s ≡ marked s
is_marked s z i = rw (five_further s.at, six_further s.at, i.depth, i.joined) refl

-- ---- the text

module _ (number : ℕ) (text : Text) where
  byte_on : (t u : Scanner) (b : ℕ) (z : List ℕ) → (b == 92) ≡ false → step t b ≡ Ok u → added t b ≡ [] →
      after number text (read zero t (b ∷ z)) ≡ after number text (read zero u z)
  byte_on t u b z e h a =
      ap (after number text) (read_on t u b z (no_join b z e) h)
      ∙ (after_front number text (added t b) (read zero u z)
      ∙ ap (λ x. after number (put_all number text x) (read zero u z)) a)

  over : (s : Scanner) (z : List ℕ) →
      after number text (read zero (zeroth s) (47 ∷ 47 ∷ 64 ∷ 102 ∷ 108 ∷ 116 ∷ z)) ≡ after number text (read zero (end_of s) z)
  over s z =
      let at = s.at in
      let two = beside (beside at) in
      let front = front_after_space s.front in
      byte_on (zeroth s) (first s) 47 (47 ∷ 64 ∷ 102 ∷ 108 ∷ 116 ∷ z) refl (first_slash s s.front at s.last s.opened s.noted) refl
      ∙ (byte_on (first s) (second s) 47 (64 ∷ 102 ∷ 108 ∷ 116 ∷ z) refl (second_slash s s.front (beside at) at s.opened s.noted) refl
      ∙ (byte_on (second s) (third s) 64 (102 ∷ 108 ∷ 116 ∷ z) refl (at_sign s front two (beside at) at s.noted) refl
      ∙ (byte_on (third s) (fourth s) 102 (108 ∷ 116 ∷ z) refl (letter_f s front (beside two) two at s.noted) refl
      ∙ (byte_on (fourth s) (fifth s) 108 (116 ∷ z) refl (letter_l s front (beside (beside two)) (beside two) at s.noted) refl
      ∙ byte_on (fifth s) (end_of s) 116 z refl (letter_t s front (five at) (beside (beside two)) at s.noted) refl))))

  -- the loop goes on over a marker
  pub marker_on : (before : Text) (file : List ℕ) (s next : Scanner) (rest : List ℕ) → IsRead number before file text s rest →
      takes_marker s rest ≡ true → 6 ≤ length rest → next ≡ marked s → IsRead number before file text next (drop 6 rest)
  marker_on before file s next rest i h l p =
      let t = takes s rest h in
      let there = i.counted in
      let line = i.line in
      let column = i.column in
      let deep = i.depth in
      let left = length-drop 6 rest in
      let same : after number text (read zero s rest) ≡ after number text (read zero next (drop 6 rest)) =
      ap (λ u. after number text (read zero u rest)) (is_there s rest t)
      ∙ (ap (λ z. after number text (read zero (zeroth s) z)) t.next
      ∙ (over s (drop 6 rest)
      ∙ ap (λ u. after number text (read zero u (drop 6 rest))) (is_marked s rest t ∙ sym p))) in
      record {
        same = sym same ∙ i.same;
        counted = rw (p, left) (omega (arith, there, l));
        line = rw p (omega (arith, line));
        column = rw p (omega (arith, column));
        depth = rw p (omega (arith, deep));
      }

-- ---- the letters

letter_on : (t u : Scanner) (aside : Bool) (b : ℕ) (z : List ℕ) → (b == 92) ≡ false → step t b ≡ Ok u → is_aside t b aside u ≡ false →
    letter_of t b false u ≡ other b →
    letters_from zero t aside (b ∷ z) ≡ with_letters (other b ∷ []) (letters_from zero u false z)
letter_on t u aside b z e h a l =
    letter_one t u aside b z (no_join b z e) h
    ∙ (ap (λ x. with_letters (letter_of t b x u ∷ []) (letters_from zero u x z)) a
    ∙ ap (λ x. with_letters (x ∷ []) (letters_from zero u false z)) l)

-- a letter before others
before_all : (b : ℕ) (ls : List Letter) (r all : Result (List Letter) Fault) → all ≡ with_letters ls r →
    with_letters (other b ∷ []) all ≡ with_letters (other b ∷ ls) r
before_all b ls r all e = ap (with_letters (other b ∷ [])) e ∙ fronts (other b ∷ []) ls r

and_false : (x : Bool) → (x && false) ≡ false
and_false true = refl
and_false false = refl

letters_over : (s : Scanner) (aside : Bool) (z : List ℕ) →
    letters_from zero (zeroth s) aside (47 ∷ 47 ∷ 64 ∷ 102 ∷ 108 ∷ 116 ∷ z) ≡
    with_letters (map other (47 ∷ 47 ∷ 64 ∷ 102 ∷ 108 ∷ 116 ∷ [])) (letters_from zero (end_of s) false z)
letters_over s aside z =
    let at = s.at in
    let two = beside (beside at) in
    let front = front_after_space s.front in
    let r = letters_from zero (end_of s) false z in
    let by_t = letter_on (fifth s) (end_of s) false 116 z refl (letter_t s front (five at) (beside (beside two)) at s.noted) refl refl in
    let by_l = letter_on (fourth s) (fifth s) false 108 (116 ∷ z) refl
    (letter_l s front (beside (beside two)) (beside two) at s.noted) refl refl
    ∙ before_all 108 (map other (116 ∷ [])) r (letters_from zero (fifth s) false (116 ∷ z)) by_t in
    let by_f = letter_on (third s) (fourth s) false 102 (108 ∷ 116 ∷ z) refl (letter_f s front (beside two) two at s.noted) refl refl
    ∙ before_all 102 (map other (108 ∷ 116 ∷ [])) r (letters_from zero (fourth s) false (108 ∷ 116 ∷ z)) by_l in
    let by_sign = letter_on (second s) (third s) false 64 (102 ∷ 108 ∷ 116 ∷ z) refl (at_sign s front two (beside at) at s.noted) refl refl
    ∙ before_all 64 (map other (102 ∷ 108 ∷ 116 ∷ [])) r (letters_from zero (third s) false (102 ∷ 108 ∷ 116 ∷ z)) by_f in
    let by_second = letter_on (first s) (second s) false 47 (64 ∷ 102 ∷ 108 ∷ 116 ∷ z) refl
    (second_slash s s.front (beside at) at s.opened s.noted) refl refl
    ∙ before_all 47 (map other (64 ∷ 102 ∷ 108 ∷ 116 ∷ [])) r (letters_from zero (second s) false (64 ∷ 102 ∷ 108 ∷ 116 ∷ z)) by_sign in
    letter_on (zeroth s) (first s) aside 47 (47 ∷ 64 ∷ 102 ∷ 108 ∷ 116 ∷ z) refl
    (first_slash s s.front at s.last s.opened s.noted) (and_false aside) refl
    ∙ before_all 47 (map other (47 ∷ 64 ∷ 102 ∷ 108 ∷ 116 ∷ [])) r
    (letters_from zero (first s) false (47 ∷ 64 ∷ 102 ∷ 108 ∷ 116 ∷ z)) by_second

-- the first bytes of a marker
marker_first : (z : List ℕ) → z ≡ 47 ∷ 47 ∷ 64 ∷ 102 ∷ 108 ∷ 116 ∷ drop 6 z → take 6 z ≡ 47 ∷ 47 ∷ 64 ∷ 102 ∷ 108 ∷ 116 ∷ []
marker_first z e = ap (take 6) e

-- the loop over letters goes on over a marker
pub letters_marker_on : (file : List ℕ) (out more : List Letter) (s next : Scanner) (before aside : Bool) (rest : List ℕ) →
    AreLetters file out s before rest → takes_marker s rest ≡ true → 6 ≤ length rest → aside ≡ false →
    more ≡ out ++ map other (take 6 rest) → next ≡ marked s → AreLetters file more next aside (drop 6 rest)
letters_marker_on file out more s next before aside rest i h l a w p =
    let t = takes s rest h in
    let there_is = i.counted in
    let line = i.line in
    let column = i.column in
    let deep = i.depth in
    let left = length-drop 6 rest in
    let marker = map other (47 ∷ 47 ∷ 64 ∷ 102 ∷ 108 ∷ 116 ∷ []) in
    let same : with_letters out (letters_from zero s before rest) ≡
    with_letters (out ++ marker) (letters_from zero next false (drop 6 rest)) =
    ap (λ u. with_letters out (letters_from zero u before rest)) (is_there s rest t)
    ∙ (ap (λ z. with_letters out (letters_from zero (zeroth s) before z)) t.next
    ∙ (ap (with_letters out) (letters_over s before (drop 6 rest))
    ∙ (fronts out marker (letters_from zero (end_of s) false (drop 6 rest))
    ∙ ap (λ u. with_letters (out ++ marker) (letters_from zero u false (drop 6 rest))) (is_marked s rest t ∙ sym p)))) in
    let put : more ≡ out ++ marker = w ∙ ap (λ z. out ++ map other z) (marker_first rest t.next) in
    record {
      same = rw (put, a) (sym same ∙ i.same);
      counted = rw (p, left) (omega (arith, there_is, l));
      line = rw p (omega (arith, line));
      column = rw p (omega (arith, column));
      depth = rw p (omega (arith, deep));
    }
