-- What is read over a run of plain bytes is what is read byte by byte.
use Rattle.std.proofs.Common.{◌≡◌, ℕ, zero, suc, ◌+◌, ◌-◌, ◌≤◌, ◌<◌, Bool, true, false, List, [], ◌∷◌, ◌++◌, length}
use Rattle.std.proofs.Common.{drop, take, map, refl, sym, ap, subst, ◌∙◌, arith, append_assoc, length-drop}
use Rattle.std.proofs.lemmas.Bool.{eqb-true}
use Rattle.std.specs.Prelude.{◌==◌, ◌&&◌, ◌||◌, not, nat_lt, if◌then◌else◌, Ok}
use Rattle.flt_c.proofs.Follow.{differ}
use Rattle.flt_c.proofs.Lettering.{AreLetters, fronts, one}
use Rattle.flt_c.proofs.Reading.{IsRead, after_front, read_on}
use Rattle.flt_c.specs.declared.front.Front.{Front}
use Rattle.flt_c.specs.declared.front.Front.TheVariants as f
use Rattle.flt_c.specs.declared.letter.Letter.{Letter}
use Rattle.flt_c.specs.declared.mode.Mode.{Mode}
use Rattle.flt_c.specs.declared.mode.Mode.TheVariants as m
use Rattle.flt_c.specs.declared.place.Place.{Place}
use Rattle.flt_c.specs.declared.run.Plain.{Plain}
use Rattle.flt_c.specs.declared.run.Plain.TheVariants as p
use Rattle.flt_c.specs.declared.scan.Scanner.{Scanner}
use Rattle.flt_c.specs.declared.text.Line.{Line}
use Rattle.flt_c.specs.Fronts.{begins_directive, front_after, is_lenient, is_space}
use Rattle.flt_c.specs.InPlace.{laid}
use Rattle.flt_c.specs.Laws.{beside}
use Rattle.flt_c.specs.Letters.{is_aside, is_plain_comment, letter_of, letters_from, with_letters}
use Rattle.flt_c.specs.Modes.{is_note, turn}
use Rattle.flt_c.specs.Runs.{add_run, further, is_end, is_plain, is_run_aside, is_special, lettered}
use Rattle.flt_c.specs.Runs.{passed, plain_count, plain_in, plain_in_code, run_in, run_part}
use Rattle.flt_c.specs.Scan.{added, continuation, read, step, with_front}
use Rattle.flt_c.specs.Texts.{Text, after, put_all}

-- ---- one plain byte

-- what is read after one
abbrev pub next_on : Scanner → Scanner
next_on s = record {
  mode = s.mode;
  front = s.front;
  depth = s.depth;
  at = beside s.at;
  last = s.at;
  opened = s.opened;
  group = s.group;
  joined = s.joined;
  noted = s.noted;
}

pub not_true : (x : Bool) → not x ≡ true → x ≡ false
not_true true e = elim (differ e) [ ]
not_true false e = refl

neither : (x y : Bool) → (x || y) ≡ false → (x ≡ false) × (y ≡ false)
neither false false e = (refl, refl)
neither false true e = elim (differ (sym e)) [ ]
neither true y e = elim (differ (sym e)) [ ]

-- a byte of a comment, or between quotes, that ends nothing
record IsInside (last b : ℕ) : Type 0 where
  end : (b == last) ≡ false
  feed : (b == 10) ≡ false
  escape : (b == 92) ≡ false

inside : (last b : ℕ) → is_plain (p.Until last) b ≡ true → IsInside last b
inside last b e =
    let both = neither (b == last || b == 10) (b == 92) (not_true (is_end last b) e) in
    let first = neither (b == last) (b == 10) both.0 in
    record { end = first.0; feed = first.1; escape = both.1 }

-- a byte of code after which code is read
record IsOrdinary (b : ℕ) : Type 0 where
  feed : (b == 10) ≡ false
  quote : (b == 34) ≡ false
  apostrophe : (b == 39) ≡ false
  slash : (b == 47) ≡ false
  raw : (b == 82) ≡ false
  escape : (b == 92) ≡ false

ordinary : (b : ℕ) → is_plain p.Code b ≡ true → IsOrdinary b
ordinary b e =
    let last = neither (b == 10 || b == 34 || b == 39 || b == 47 || b == 82) (b == 92) (not_true (is_special b) e) in
    let raw = neither (b == 10 || b == 34 || b == 39 || b == 47) (b == 82) last.0 in
    let slash = neither (b == 10 || b == 34 || b == 39) (b == 47) raw.0 in
    let apostrophe = neither (b == 10 || b == 34) (b == 39) slash.0 in
    let quote = neither (b == 10) (b == 34) apostrophe.0 in
    record { feed = quote.0; quote = quote.1; apostrophe = apostrophe.1; slash = slash.1; raw = raw.1; escape = last.1 }

-- a blank is no other byte
no_other : (b k : ℕ) → is_space b ≡ true → is_space k ≡ false → (x : Bool) → (b == k) ≡ x → x ≡ false
no_other b k h other true e = let is : b ≡ k = eqb-true b k e in elim (differ (sym other ∙ subst (λ c. is_space c ≡ true) is h)) [ ]
no_other b k h other false e = refl

blank : (b : ℕ) → is_plain p.Blank b ≡ true → IsOrdinary b
blank b h = record {
  feed = no_other b 10 h refl (b == 10) refl;
  quote = no_other b 34 h refl (b == 34) refl;
  apostrophe = no_other b 39 h refl (b == 39) refl;
  slash = no_other b 47 h refl (b == 47) refl;
  raw = no_other b 82 h refl (b == 82) refl;
  escape = no_other b 92 h refl (b == 92) refl;
}

and_true : (x : Bool) → (x && true) ≡ x
and_true true = refl
and_true false = refl

pub none_begins : (front : Front) → begins_directive front front ≡ false
none_begins f.Nothing = refl
none_begins _ = refl

code_stays : (b : ℕ) → front_after f.Code b ≡ f.Code
code_stays b = by (is_space b)
  where
    by : (x : Bool) → (if x then f.Code else f.Code) ≡ f.Code
    by true = refl
    by false = refl

directive_stays : (b : ℕ) → front_after f.Directive b ≡ f.Directive
directive_stays b = by (is_space b)
  where
    by : (x : Bool) → (if x then f.Directive else f.Directive) ≡ f.Directive
    by true = refl
    by false = refl

stays_in_code : (s : Scanner) (b : ℕ) (front : Front) → s.mode ≡ m.Code → s.front ≡ front → is_plain (plain_in_code front) b ≡ true →
    step s b ≡ Ok (next_on s)
stays_in_code s b f.Code e g h =
    let i = ordinary b h in
    rw (e, g, i.feed, i.quote, i.apostrophe, i.slash, i.raw, code_stays b, and_true s.joined) refl
stays_in_code s b f.Directive e g h =
    let i = ordinary b h in
    rw (e, g, i.feed, i.quote, i.apostrophe, i.slash, i.raw, directive_stays b, and_true s.joined) refl
stays_in_code s b f.Nothing e g h =
    let i = blank b h in
    rw (e, g, i.feed, i.quote, i.apostrophe, i.slash, i.raw, h, and_true s.joined) refl
stays_in_code s b _ e g h = elim (differ h) [ ]

-- a plain byte changes nothing but the places
stays : (s : Scanner) (b : ℕ) (mode : Mode) → s.mode ≡ mode → is_plain (plain_in mode s.front) b ≡ true → step s b ≡ Ok (next_on s)
stays s b m.Code e h = stays_in_code s b s.front e refl h
stays s b m.Line e h =
    let i = inside 10 b h in rw (e, i.feed, none_begins s.front, and_true s.joined) refl
stays s b m.LineText e h =
    let i = inside 10 b h in rw (e, i.feed, none_begins s.front, and_true s.joined) refl
stays s b m.Block e h =
    let i = inside 42 b h in rw (e, i.feed, i.end, none_begins s.front, and_true s.joined) refl
stays s b m.BlockText e h =
    let i = inside 42 b h in rw (e, i.feed, i.end, none_begins s.front, and_true s.joined) refl
stays s b m.String e h =
    let i = inside 34 b h in
    let on : turn (is_lenient s.front s.depth) (nat_lt 0 s.depth) m.String b ≡ Ok m.String = rw (i.feed, i.end, i.escape) refl in
    rw (e, on, i.feed, none_begins s.front, and_true s.joined) refl
stays s b m.Character e h =
    let i = inside 39 b h in
    let on : turn (is_lenient s.front s.depth) (nat_lt 0 s.depth) m.Character b ≡ Ok m.Character = rw (i.feed, i.end, i.escape) refl in
    rw (e, on, i.feed, none_begins s.front, and_true s.joined) refl
stays s b _ e h = elim (differ h) [ ]

-- no backslash begins no continuation
pub no_join : (b : ℕ) (z : List ℕ) → (b == 92) ≡ false → continuation (b ∷ z) ≡ 0
no_join b [] e = refl
no_join b (c ∷ []) e = rw e refl
no_join b (c ∷ d ∷ z) e = rw e refl

no_escape : (plain : Plain) (b : ℕ) → is_plain plain b ≡ true → (b == 92) ≡ false
no_escape p.No b h = elim (differ h) [ ]
no_escape p.Code b h = (ordinary b h).escape
no_escape p.Blank b h = (blank b h).escape
no_escape (p.Until last) b h = (inside last b h).escape

-- no bytes are plain
pub none_plain : (z : List ℕ) → 0 ≡ plain_count p.No z
none_plain [] = refl
none_plain (b ∷ z) = refl

-- ---- some plain bytes

-- what is read after so many
abbrev pub skips : ℕ → Scanner → Scanner
skips zero s = s
skips (suc n) s = skips n (next_on s)

pub place_is : (at to : Place) → at.line ≡ to.line → at.column ≡ to.column → at.start ≡ to.start → at ≡ to
place_is at to l c s = let e : record { line = at.line; column = at.column; start = at.start } ≡ to = rw (l, c, s) refl in e

no_further : (at : Place) → at ≡ further at 0
no_further at = place_is at (further at 0) refl (omega arith) (omega arith)

one_further : (at : Place) → beside at ≡ further at 1
one_further at = refl

more_further : (at : Place) (n : ℕ) → further (beside at) n ≡ further at (suc n)
more_further at n = place_is (further (beside at) n) (further at (suc n)) refl (omega arith) (omega arith)

passed_on : (n : ℕ) (s : Scanner) → passed (next_on s) (suc n) ≡ passed s (suc (suc n))
passed_on n s =
    let less : suc n - 1 ≡ n = omega arith in
    let on : suc (suc n) - 1 ≡ suc n = omega arith in
    rw (less, on, more_further s.at n, more_further s.at (suc n)) refl

-- so they are read
pub skips_is : (n : ℕ) (s : Scanner) → skips (suc n) s ≡ passed s (suc n)
skips_is zero s = rw (← no_further s.at) refl
skips_is (suc n) s = skips_is n (next_on s) ∙ passed_on n s

-- of a text that begins with more than `n` plain bytes, the first is one, and `n` follow
counted : (plain : Plain) (b : ℕ) (z : List ℕ) (n : ℕ) → suc n ≤ plain_count plain (b ∷ z) → (x : Bool) → is_plain plain b ≡ x →
    (is_plain plain b ≡ true) × (n ≤ plain_count plain z)
counted plain b z n h true e =
    let k : plain_count plain (b ∷ z) ≡ plain_count plain z + 1 = rw e refl in (e, omega (arith, h, k))
counted plain b z n h false e = let k : plain_count plain (b ∷ z) ≡ 0 = rw e refl in absurd (omega (arith, h, k))

-- ---- the text

module _ (number : ℕ) where
  -- the text after so many plain bytes
  abbrev texts : ℕ → Text → Scanner → List ℕ → Text
  texts zero text s z = text
  texts (suc n) text s [] = text
  texts (suc n) text s (b ∷ z) = texts n (put_all number text (added s b)) (next_on s) z

  over : (z : List ℕ) (n : ℕ) (text : Text) (s : Scanner) → n ≤ plain_count (plain_in s.mode s.front) z →
      after number text (read zero s z) ≡ after number (texts n text s z) (read zero (skips n s) (drop n z))
  over z zero text s h = refl
  over [] (suc n) text s h = absurd (omega (arith, h))
  over (b ∷ z) (suc n) text s h =
      let plain = plain_in s.mode s.front in
      let first = counted plain b z n h (is_plain plain b) refl in
      let one : read zero s (b ∷ z) ≡ with_front (added s b) (read zero (next_on s) z) =
      read_on s (next_on s) b z (no_join b z (no_escape plain b first.0)) (stays s b s.mode refl first.0) in
      ap (after number text) one
      ∙ (after_front number text (added s b) (read zero (next_on s) z)
      ∙ over z n (put_all number text (added s b)) (next_on s) first.1)

  -- a plain byte is of the text, if an annotation is being read
  adds : (text : Text) (s : Scanner) (b : ℕ) (mode : Mode) → s.mode ≡ mode → is_plain (plain_in mode s.front) b ≡ true →
      put_all number text (added s b) ≡ add_run number text s (b ∷ [])
  adds text s b m.Code e h = rw e refl
  adds text s b m.Line e h = rw e refl
  adds text s b m.LineText e h = let i = inside 10 b h in rw (e, i.feed) refl
  adds text s b m.Block e h = rw e refl
  adds text s b m.BlockText e h = let i = inside 42 b h in rw (e, i.end, i.feed) refl
  adds text s b m.String e h = rw e refl
  adds text s b m.Character e h = rw e refl
  adds text s b _ e h = elim (differ h) [ ]

  -- and more of them
  adds_more : (text : Text) (s : Scanner) (b : ℕ) (z : List ℕ) (x : Bool) → is_note s.mode ≡ x →
      add_run number (add_run number text s (b ∷ [])) (next_on s) z ≡ add_run number text s (b ∷ z)
  adds_more text s b z false e = rw e refl
  adds_more text s b z true e = rw (e, append_assoc text.bytes (b ∷ []) z) refl

  adds_all : (z : List ℕ) (n : ℕ) (text : Text) (s : Scanner) → suc n ≤ plain_count (plain_in s.mode s.front) z →
      texts (suc n) text s z ≡ add_run number text s (take (suc n) z)
  adds_all [] n text s h = absurd (omega (arith, h))
  adds_all (b ∷ z) zero text s h =
      let first = counted (plain_in s.mode s.front) b z zero h (is_plain (plain_in s.mode s.front) b) refl in
      adds text s b s.mode refl first.0
  adds_all (b ∷ z) (suc n) text s h =
      let first = counted (plain_in s.mode s.front) b z (suc n) h (is_plain (plain_in s.mode s.front) b) refl in
      adds_all z n (put_all number text (added s b)) (next_on s) first.1
      ∙ (ap (λ t. add_run number t (next_on s) (take (suc n) z)) (adds text s b s.mode refl first.0)
      ∙ adds_more text s b (take (suc n) z) (is_note s.mode) refl)

  -- the loop goes on over a run
  pub run_on : (before : Text) (file : List ℕ) (text more : Text) (s next : Scanner) (rest : List ℕ) (n : ℕ) →
      IsRead number before file text s rest → 0 < n → n ≡ plain_count (plain_in s.mode s.front) rest → n ≤ length rest →
      more ≡ add_run number text s (take n rest) → next ≡ passed s n → IsRead number before file more next (drop n rest)
  run_on before file text more s next rest zero i some e l t p = absurd (omega arith)
  run_on before file text more s next rest (suc n) i some e l t p =
      let there = i.counted in
      let line = i.line in
      let column = i.column in
      let deep = i.depth in
      let left = length-drop (suc n) rest in
      let fits : suc n ≤ plain_count (plain_in s.mode s.front) rest = omega (arith, e) in
      let same : after number text (read zero s rest) ≡ after number more (read zero next (drop (suc n) rest)) =
      over rest (suc n) text s fits
      ∙ (ap (λ u. after number u (read zero (skips (suc n) s) (drop (suc n) rest))) (adds_all rest n text s fits ∙ sym t)
      ∙ ap (λ u. after number more (read zero u (drop (suc n) rest))) (skips_is n s ∙ sym p)) in
      record {
        same = sym same ∙ i.same;
        counted = rw (p, left) (omega (arith, there, l));
        line = rw p (omega (arith, line));
        column = rw p (omega (arith, column));
        depth = rw p (omega (arith, deep));
      }

-- ---- the letters

aside_twice : (x y : Bool) → ((x && y) && y) ≡ (x && y)
aside_twice false y = refl
aside_twice true false = refl
aside_twice true true = refl

-- a comment `@flt-` is being read after a plain byte as after a run
aside_on : (s : Scanner) (b : ℕ) (aside : Bool) (mode : Mode) → s.mode ≡ mode → is_plain (plain_in mode s.front) b ≡ true →
    is_aside s b aside (next_on s) ≡ is_run_aside s.mode aside
aside_on s b aside m.Code e h = rw e refl
aside_on s b aside m.Line e h = rw e refl
aside_on s b aside m.LineText e h = rw e refl
aside_on s b aside m.Block e h = rw e refl
aside_on s b aside m.BlockText e h = rw e refl
aside_on s b aside m.String e h = rw e refl
aside_on s b aside m.Character e h = rw e refl
aside_on s b aside _ e h = elim (differ h) [ ]

no_slash : (front : Front) (b : ℕ) → is_plain (plain_in_code front) b ≡ true → (b == 47) ≡ false
no_slash f.Code b h = (ordinary b h).slash
no_slash f.Directive b h = (ordinary b h).slash
no_slash f.Nothing b h = (blank b h).slash
no_slash _ b h = elim (differ h) [ ]

-- a plain byte belongs to what its run does
part_on : (s : Scanner) (b : ℕ) (aside : Bool) (mode : Mode) → s.mode ≡ mode → is_plain (plain_in mode s.front) b ≡ true →
    letter_of s b aside (next_on s) ≡ lettered (run_part s aside) b
part_on s b aside m.Code e h = let slash = no_slash s.front b h in rw (e, slash) refl
part_on s b aside m.Line e h = rw e refl
part_on s b aside m.LineText e h = rw e refl
part_on s b aside m.Block e h = rw e refl
part_on s b aside m.BlockText e h = rw e refl
part_on s b aside m.String e h = rw e refl
part_on s b aside m.Character e h = rw e refl
part_on s b aside _ e h = elim (differ h) [ ]

letter_over : (s : Scanner) (aside : Bool) (b : ℕ) (z : List ℕ) → is_plain (plain_in s.mode s.front) b ≡ true →
    letters_from zero s aside (b ∷ z) ≡
    with_letters (lettered (run_part s (is_run_aside s.mode aside)) b ∷ []) (letters_from zero (next_on s) (is_run_aside s.mode aside) z)
letter_over s aside b z h =
    let on = is_run_aside s.mode aside in
    one s (next_on s) aside b z (no_join b z (no_escape (plain_in s.mode s.front) b h)) (stays s b s.mode refl h)
    ∙ (ap (λ x. with_letters (letter_of s b x (next_on s) ∷ []) (letters_from zero (next_on s) x z)) (aside_on s b aside s.mode refl h)
    ∙ ap (λ l. with_letters (l ∷ []) (letters_from zero (next_on s) on z)) (part_on s b on s.mode refl h))

letters_over : (z : List ℕ) (n : ℕ) (s : Scanner) (aside : Bool) → suc n ≤ plain_count (plain_in s.mode s.front) z →
    letters_from zero s aside z ≡
    with_letters (map (lettered (run_part s (is_run_aside s.mode aside))) (take (suc n) z))
    (letters_from zero (skips (suc n) s) (is_run_aside s.mode aside) (drop (suc n) z))
letters_over [] n s aside h = absurd (omega (arith, h))
letters_over (b ∷ z) zero s aside h =
    let first = counted (plain_in s.mode s.front) b z zero h (is_plain (plain_in s.mode s.front) b) refl in
    letter_over s aside b z first.0
letters_over (b ∷ z) (suc n) s aside h =
    let first = counted (plain_in s.mode s.front) b z (suc n) h (is_plain (plain_in s.mode s.front) b) refl in
    let on = is_run_aside s.mode aside in
    let l = lettered (run_part s on) in
    let later : letters_from zero (next_on s) on z ≡
    with_letters (map l (take (suc n) z)) (letters_from zero (skips (suc n) (next_on s)) on (drop (suc n) z)) =
    letters_over z n (next_on s) on first.1
    ∙ ap (λ x. with_letters (map (lettered (run_part s x)) (take (suc n) z))
    (letters_from zero (skips (suc n) (next_on s)) x (drop (suc n) z))) (aside_twice aside (is_plain_comment s.mode)) in
    letter_over s aside b z first.0
    ∙ (ap (with_letters (l b ∷ [])) later
    ∙ fronts (l b ∷ []) (map l (take (suc n) z)) (letters_from zero (skips (suc n) (next_on s)) on (drop (suc n) z)))

-- the loop over letters goes on over a run
pub letters_run_on : (file : List ℕ) (out more : List Letter) (s next : Scanner) (before aside : Bool) (rest : List ℕ) (n : ℕ) →
    AreLetters file out s before rest → 0 < n → n ≡ plain_count (plain_in s.mode s.front) rest → n ≤ length rest →
    aside ≡ is_run_aside s.mode before → more ≡ out ++ map (lettered (run_part s aside)) (take n rest) → next ≡ passed s n →
    AreLetters file more next aside (drop n rest)
letters_run_on file out more s next before aside rest zero i some e l a t p = absurd (omega arith)
letters_run_on file out more s next before aside rest (suc n) i some e l a t p =
    let there = i.counted in
    let line = i.line in
    let column = i.column in
    let deep = i.depth in
    let left = length-drop (suc n) rest in
    let fits : suc n ≤ plain_count (plain_in s.mode s.front) rest = omega (arith, e) in
    let on = is_run_aside s.mode before in
    let run = map (lettered (run_part s on)) (take (suc n) rest) in
    let same : with_letters out (letters_from zero s before rest) ≡
    with_letters (out ++ run) (letters_from zero (skips (suc n) s) on (drop (suc n) rest)) =
    ap (with_letters out) (letters_over rest n s before fits)
    ∙ fronts out run (letters_from zero (skips (suc n) s) on (drop (suc n) rest)) in
    record {
      same = rw (t, a, p, ← skips_is n s) (sym same ∙ i.same);
      counted = rw (p, left) (omega (arith, there, l));
      line = rw p (omega (arith, line));
      column = rw p (omega (arith, column));
      depth = rw p (omega (arith, deep));
    }

-- ---- lines that are laid in their places

lay_over : (z : List ℕ) (n last : ℕ) (lines : List Line) → n ≤ plain_count (p.Until 10) z →
    laid last false z lines ≡ take n z ++ laid last false (drop n z) lines
lay_over z zero last lines h = refl
lay_over [] (suc n) last lines h = absurd (omega (arith, h))
lay_over (b ∷ z) (suc n) last lines h =
    let first = counted (p.Until 10) b z n h (is_plain (p.Until 10) b) refl in
    let i = inside 10 b first.0 in
    let one : laid last false (b ∷ z) lines ≡ b ∷ laid last false z lines = rw i.feed refl in
    one ∙ ap (λ l. b ∷ l) (lay_over z n last lines first.1)

-- the loop over bytes goes on over a run
pub lay_on : (out all z : List ℕ) (fresh : Bool) (n last : ℕ) (lines : List Line) → out ++ laid last fresh z lines ≡ all → 0 < n →
    n ≡ run_in fresh z → (out ++ take n z) ++ laid last fresh (drop n z) lines ≡ all
lay_on out all z true n last lines i some e = absurd (omega (arith, some, e))
lay_on out all z false n last lines i some e =
    let fits : n ≤ plain_count (p.Until 10) z = omega (arith, e) in
    append_assoc out (take n z) (laid last false (drop n z) lines) ∙ (ap (λ l. out ++ l) (sym (lay_over z n last lines fits)) ∙ i)
