-- What is read over a run of letters is what is read letter by letter.
use Rattle.std.proofs.Common.{◌≡◌, ℕ, zero, suc, ◌+◌, ◌≤◌, ◌<◌, Bool, true, false, List, [], ◌∷◌, ◌++◌}
use Rattle.std.proofs.Common.{length, drop, take, map, refl, sym, ap, subst, ◌∙◌, arith, append_assoc}
use Rattle.std.proofs.lemmas.Bool.{eqb-true}
use Rattle.std.proofs.lemmas.List.{drop-drop}
use Rattle.std.specs.Prelude.{◌==◌, ◌&&◌, ◌||◌, not, if◌then◌else◌}
use Rattle.flt_c.specs.declared.letter.Letter.{Letter}
use Rattle.flt_c.specs.declared.letter.Part.{Part}
use Rattle.flt_c.specs.declared.letter.Part.TheVariants as part
use Rattle.flt_c_drift.proofs.GoingOn.{both, differ, not_true, or_false, taken_first, turn_stays, word_stays}
use Rattle.flt_c_drift.specs.Locks.{is_no_argument, is_nothing, is_other, is_still}
use Rattle.flt_c_drift.specs.Parts.{is_blank, is_note, is_of_word, is_word_byte, same_part}
use Rattle.flt_c_drift.specs.Reading.{State, coded, ended, goes_on, grown, is_empty, is_under_way, keeps_line, keeps_stage, keeps_word}
use Rattle.flt_c_drift.specs.Reading.{line_on, lined, marks_from, marks_of, passed, seen, spoken_with, taken, taken_as, turned}
use Rattle.flt_c_drift.specs.Runs.{is_calm, is_code_word, is_idle_in, is_in, is_note_word}
use Rattle.flt_c_drift.specs.Runs.{run_count, run_in, run_taken, with_word, word_run}
use Rattle.flt_c_drift.specs.declared.reader.Code.{Code}
use Rattle.flt_c_drift.specs.declared.reader.Line.{Line}
use Rattle.flt_c_drift.specs.declared.reader.WordState.{WordState}
use Rattle.flt_c_drift.specs.declared.run.Run.{Run}
use Rattle.flt_c_drift.specs.declared.run.Run.TheVariants as r

-- ---- tests

and_false : (x : Bool) → (x && false) ≡ false
and_false true = refl
and_false false = refl

all_of : (t l k : Bool) → t ≡ true → l ≡ true → k ≡ true → (t && l && k) ≡ true
all_of t l k a b c = rw (a, b, c) refl

-- a byte of a word is no other one
no_other : (b k : ℕ) → is_word_byte b ≡ true → is_word_byte k ≡ false → (x : Bool) → (b == k) ≡ x → x ≡ false
no_other b k h other true e = let is : b ≡ k = eqb-true b k e in elim (differ (sym other ∙ subst (λ c. is_word_byte c ≡ true) is h)) [ ]
no_other b k h other false e = refl

-- and no blank
no_blank : (b : ℕ) → is_word_byte b ≡ true → is_blank b ≡ false
no_blank b h =
    let space = no_other b 32 h refl (b == 32) refl in
    let tab = no_other b 9 h refl (b == 9) refl in
    let feed = no_other b 10 h refl (b == 10) refl in
    let back = no_other b 13 h refl (b == 13) refl in
    rw (space, tab, feed, back) refl

no_word : (b : ℕ) → is_blank b ≡ true → (x : Bool) → is_word_byte b ≡ x → x ≡ false
no_word b h true e = elim (differ (sym (no_blank b e) ∙ h)) [ ]
no_word b h false e = refl

-- ---- the line and the code

line_stays : (p : Part) (b : ℕ) (line : Line) → line.fresh ≡ false → (b == 10) ≡ false →
    (line.remark || is_note p && b == 35) ≡ line.remark →
    lined p b line ≡ line
line_stays p b line f n m =
    let on : lined p b line ≡ line_on p b line = rw n refl in
    let e : line_on p b line ≡ record {
      remark = line.remark;
      alone = line.alone;
      noted = line.noted;
      here = line.here;
      fresh = line.fresh;
      closing = line.closing;
    } = rw (m, f, or_false line.closing) refl in
    on ∙ e

code_stays : (b : ℕ) (code : Code) → is_word_byte b ≡ true → code.brace ≡ false → coded part.Code b code ≡ code
code_stays b code h e =
    let blank = no_blank b h in
    let brace = no_other b 123 h refl (b == 123) refl in
    let comma = no_other b 44 h refl (b == 44) refl in
    let end = no_other b 125 h refl (b == 125) refl in
    let all : coded part.Code b code ≡ record { brace = code.brace; entry = code.entry } = rw (blank, brace, comma, end, e) refl in
    all

blank_stays : (b : ℕ) (code : Code) → is_blank b ≡ true → coded part.Code b code ≡ code
blank_stays b code h = rw h refl

abbrev with_line : Line → Code → State → State
with_line line code s = record {
  word = s.word;
  spoken = s.spoken;
  line = line;
  code = code;
  stage = s.stage;
  opened = s.opened;
  function = s.function;
  wrappings = s.wrappings;
  locks = s.locks;
  marks = s.marks;
}

passed_same : (p : Part) (b : ℕ) (s : State) → lined p b s.line ≡ s.line → coded p b s.code ≡ s.code → passed p b s ≡ s
passed_same p b s l c = ap (λ line. with_line line (coded p b s.code) s) l ∙ ap (λ code. with_line s.line code s) c

-- a letter with which all goes on
taken_by : (at : ℕ) (p : Part) (b : ℕ) (s : State) → keeps_word p b s ≡ true → goes_on p b s ≡ true →
    taken_as at p b s ≡ passed p b (grown at p b s)
unfolding taken_as turned
taken_by at p b s w h =
    ap (λ u. passed p b (grown at p b (turned at p b u))) (word_stays p b s w)
    ∙ ap (λ u. passed p b (grown at p b u)) (turn_stays at p b s h)

-- a letter that is taken in some steps
pub letter_taken : (at : ℕ) (p : Part) (b : ℕ) (s u v w : State) (line : Line) (code : Code) →
    u ≡ ended p b s → v ≡ turned at p b u → w ≡ grown at p b v → line ≡ lined p b w.line → code ≡ coded p b w.code →
    with_line line code w ≡ taken_as at p b s
unfolding taken_as turned
letter_taken at p b s u v w line code e f g l c =
    (ap (λ x. with_line x code w) l ∙ ap (λ x. with_line (lined p b w.line) x w) c)
    ∙ ap (passed p b) (g ∙ ap (grown at p b) (f ∙ ap (turned at p b) e))

-- ---- where runs are read

record Calm (s : State) : Type 0 where
  line : s.line.fresh ≡ false
  stage : not (is_under_way s.stage) ≡ true
  argument : is_no_argument s.locks.argument ≡ true

calm : (s : State) → is_calm s ≡ true → Calm s
calm s h =
    let first = both (not s.line.fresh) (not (is_under_way s.stage) && is_no_argument s.locks.argument) h in
    let later = both (not (is_under_way s.stage)) (is_no_argument s.locks.argument) first.1 in
    record { line = not_true s.line.fresh first.0; stage = later.0; argument = later.1 }

-- ---- letters of no word

record IsIdle (s : State) : Type 0 where
  calm : Calm s
  word : is_empty s.word ≡ true
  line : is_nothing s.locks.line ≡ true

quiet_line : (blank noted here : Bool) → (blank || not (noted && false || not here && false)) ≡ true
quiet_line true noted here = refl
quiet_line false true true = refl
quiet_line false true false = refl
quiet_line false false true = refl
quiet_line false false false = refl

idle_as : (at : ℕ) (p : Part) (b : ℕ) (s : State) → IsIdle s → is_idle_in p b ≡ true → taken_as at p b s ≡ s
idle_as at part.Other b s i h =
    let feed = not_true (b == 10) h in
    let on : goes_on part.Other b s ≡ true =
    all_of (keeps_stage part.Other s) (keeps_line part.Other b s.line) (is_still part.Other b s.locks)
    i.calm.stage (quiet_line (is_blank b) s.line.noted s.line.here) (rw (i.calm.argument, i.line) refl) in
    taken_by at part.Other b s (rw i.word refl) on
    ∙ passed_same part.Other b s (line_stays part.Other b s.line i.calm.line feed (or_false s.line.remark)) refl
idle_as at part.Code b s i h =
    let parts = both (is_blank b) (not (b == 10)) h in
    let feed = not_true (b == 10) parts.1 in
    let blank = parts.0 in
    let on : goes_on part.Code b s ≡ true =
    all_of (keeps_stage part.Code s) (keeps_line part.Code b s.line) (is_still part.Code b s.locks)
    i.calm.stage (rw blank refl) (rw (i.calm.argument, i.line) refl) in
    let none : grown at part.Code b s ≡ s = rw (no_word b blank (is_word_byte b) refl) refl in
    taken_by at part.Code b s (rw i.word refl) on
    ∙ (ap (passed part.Code b) none
    ∙ passed_same part.Code b s (line_stays part.Code b s.line i.calm.line feed (or_false s.line.remark)) (blank_stays b s.code blank))
idle_as at _ b s i h = elim (differ h) [ ]

seen_as : (line : Line) (letter : Letter) (p : Part) → letter.part ≡ p → (line.remark && is_note p) ≡ false → seen line letter ≡ p
seen_as line letter p e n = rw (e, n) refl

idle_by : (at : ℕ) (letter : Letter) (s : State) (p : Part) → IsIdle s → letter.part ≡ p → is_idle_in p letter.byte ≡ true →
    taken at letter s ≡ s
idle_by at letter s part.Other i e h =
    ap (λ q. taken_as at q letter.byte s) (seen_as s.line letter part.Other e (and_false s.line.remark))
    ∙ idle_as at part.Other letter.byte s i h
idle_by at letter s part.Code i e h =
    ap (λ q. taken_as at q letter.byte s) (seen_as s.line letter part.Code e (and_false s.line.remark))
    ∙ idle_as at part.Code letter.byte s i h
idle_by at letter s _ i e h = elim (differ h) [ ]

-- ---- letters of a word

-- where a word of a part is being read
abbrev is_word_of : Part → State → Bool
is_word_of part.Code s = is_code_word s
is_word_of part.Note s = is_note_word s
is_word_of _ s = false

record IsWord (p : Part) (s : State) : Type 0 where
  calm : Calm s
  part : s.spoken.part ≡ p
  word : is_empty s.word ≡ false
  kind : is_word_of p s ≡ true

spoken_same : (at : ℕ) (p : Part) (brace : Bool) (spoken : WordState) → spoken.part ≡ p → spoken_with at p false brace spoken ≡ spoken
spoken_same at p brace spoken e =
    let all : spoken_with at p false brace spoken ≡ record {
      part = spoken.part;
      begin = spoken.begin;
      opens = spoken.opens;
      before = spoken.before;
      before_part = spoken.before_part;
    } = rw e refl in
    all

abbrev with_spoken : List ℕ → WordState → State → State
with_spoken word spoken s = record {
  word = word;
  spoken = spoken;
  line = s.line;
  code = s.code;
  stage = s.stage;
  opened = s.opened;
  function = s.function;
  wrappings = s.wrappings;
  locks = s.locks;
  marks = s.marks;
}

grown_word : (at : ℕ) (p : Part) (b : ℕ) (s : State) → s.spoken.part ≡ p → is_empty s.word ≡ false → is_of_word p b ≡ true →
    grown at p b s ≡ with_word (s.word ++ b ∷ []) s
grown_word at p b s e w h =
    taken_first (is_of_word p b) (with_spoken (s.word ++ b ∷ []) (spoken_with at p (is_empty s.word) s.code.brace s.spoken) s) s h
    ∙ (ap (λ x. with_spoken (s.word ++ b ∷ []) (spoken_with at p x s.code.brace s.spoken) s) w
    ∙ ap (λ spoken. with_spoken (s.word ++ b ∷ []) spoken s) (spoken_same at p s.code.brace s.spoken e))

code_line : (here : Bool) → (false || not (false && true || not here && false)) ≡ true
code_line true = refl
code_line false = refl

note_line : (noted : Bool) → (false || not (noted && false || not true && true)) ≡ true
note_line true = refl
note_line false = refl

word_as : (at : ℕ) (p : Part) (b : ℕ) (s : State) → IsWord p s → is_word_byte b ≡ true → taken_as at p b s ≡ with_word (s.word ++ b ∷ []) s
word_as at part.Code b s i h =
    let first = both (not s.code.brace) (not s.line.noted && is_nothing s.locks.line) i.kind in
    let later = both (not s.line.noted) (is_nothing s.locks.line) first.1 in
    let brace = not_true s.code.brace first.0 in
    let noted = not_true s.line.noted later.0 in
    let feed = no_other b 10 h refl (b == 10) refl in
    let on : goes_on part.Code b s ≡ true =
    all_of (keeps_stage part.Code s) (keeps_line part.Code b s.line) (is_still part.Code b s.locks)
    i.calm.stage (rw (no_blank b h, noted) (code_line s.line.here)) (rw (i.calm.argument, later.1) refl) in
    let word = s.word ++ b ∷ [] in
    taken_by at part.Code b s (rw (i.word, i.part, h) refl) on
    ∙ (ap (passed part.Code b) (grown_word at part.Code b s i.part i.word h)
    ∙ passed_same part.Code b (with_word word s) (line_stays part.Code b s.line i.calm.line feed (or_false s.line.remark))
    (code_stays b s.code h brace))
word_as at part.Note b s i h =
    let first = both s.line.here (not s.line.remark && is_other s.locks.line) i.kind in
    let later = both (not s.line.remark) (is_other s.locks.line) first.1 in
    let feed = no_other b 10 h refl (b == 10) refl in
    let hash = no_other b 35 h refl (b == 35) refl in
    let on : goes_on part.Note b s ≡ true =
    all_of (keeps_stage part.Note s) (keeps_line part.Note b s.line) (is_still part.Note b s.locks)
    i.calm.stage (rw (no_blank b h, first.0) (note_line s.line.noted))
    (rw (i.calm.argument, later.1, feed) refl) in
    let word = s.word ++ b ∷ [] in
    taken_by at part.Note b s (rw (i.word, i.part, h) refl) on
    ∙ (ap (passed part.Note b) (grown_word at part.Note b s i.part i.word h)
    ∙ passed_same part.Note b (with_word word s) (line_stays part.Note b s.line i.calm.line feed (rw hash (or_false s.line.remark))) refl)
word_as at _ b s i h = elim (differ i.kind) [ ]

is_part : (p q : Part) (s : State) → is_word_of p s ≡ true → same_part p q ≡ true → q ≡ p
is_part part.Code part.Code s k e = refl
is_part part.Note part.Note s k e = refl
is_part part.Code _ s k e = elim (differ e) [ ]
is_part part.Note _ s k e = elim (differ e) [ ]
is_part _ q s k e = elim (differ k) [ ]

-- no annotation is read as a remark
no_remark : (p : Part) (s : State) → is_word_of p s ≡ true → (s.line.remark && is_note p) ≡ false
no_remark part.Code s k = and_false s.line.remark
no_remark part.Note s k =
    let first = both s.line.here (not s.line.remark && is_other s.locks.line) k in
    let later = both (not s.line.remark) (is_other s.locks.line) first.1 in
    rw (not_true s.line.remark later.0) refl
no_remark _ s k = elim (differ k) [ ]

word_by : (at : ℕ) (letter : Letter) (s : State) (p : Part) → IsWord p s → is_in (r.Word p) letter ≡ true →
    taken at letter s ≡ with_word (s.word ++ letter.byte ∷ []) s
word_by at letter s p i h =
    let parts = both (same_part p letter.part) (is_word_byte letter.byte) h in
    ap (λ q. taken_as at q letter.byte s) (seen_as s.line letter p (is_part p letter.part s i.kind parts.0) (no_remark p s i.kind))
    ∙ word_as at p letter.byte s i parts.1

some_more : (word : List ℕ) (b : ℕ) → is_empty (word ++ b ∷ []) ≡ false
some_more [] b = refl
some_more (c ∷ word) b = refl

kind_kept : (p : Part) (word : List ℕ) (s : State) → is_word_of p s ≡ true → is_word_of p (with_word word s) ≡ true
kind_kept part.Code word s k = k
kind_kept part.Note word s k = k
kind_kept _ word s k = elim (differ k) [ ]

word_kept : (p : Part) (b : ℕ) (s : State) → IsWord p s → IsWord p (with_word (s.word ++ b ∷ []) s)
word_kept p b s i = record {
  calm = record { line = i.calm.line; stage = i.calm.stage; argument = i.calm.argument };
  part = i.part;
  word = some_more s.word b;
  kind = kind_kept p (s.word ++ b ∷ []) s i.kind;
}

-- ---- runs

-- of letters that begin with more than `n` of a run, the first is one, and `n` follow
counted : (run : Run) (letter : Letter) (z : List Letter) (n : ℕ) → suc n ≤ run_count run (letter ∷ z) → (x : Bool) → is_in run letter ≡ x →
    (is_in run letter ≡ true) × (n ≤ run_count run z)
counted run letter z n h true e =
    let k : run_count run (letter ∷ z) ≡ run_count run z + 1 = rw e refl in (e, omega (arith, h, k))
counted run letter z n h false e = let k : run_count run (letter ∷ z) ≡ 0 = rw e refl in absurd (omega (arith, h, k))

-- no letters are of no run
pub none_counted : (z : List Letter) → 0 ≡ run_count r.No z
none_counted [] = refl
none_counted (letter ∷ z) = refl

marks_idle : (z : List Letter) (n at : ℕ) (s : State) → IsIdle s → n ≤ run_count r.Idle z →
    marks_from at s z ≡ marks_from (at + n) s (drop n z)
marks_idle z zero at s i h = let e : at ≡ at + 0 = omega arith in ap (λ k. marks_from k s z) e
marks_idle [] (suc n) at s i h = absurd (omega (arith, h))
marks_idle (letter ∷ z) (suc n) at s i h =
    let first = counted r.Idle letter z n h (is_in r.Idle letter) refl in
    let e : (at + 1) + n ≡ at + suc n = omega arith in
    ap (λ u. marks_from (at + 1) u z) (idle_by at letter s letter.part i refl first.0)
    ∙ (marks_idle z n (at + 1) s i first.1
    ∙ ap (λ k. marks_from k s (drop n z)) e)

abbrev bytes : List Letter → List ℕ
bytes letters = map (λ letter. letter.byte) letters

none_more : (word : List ℕ) → word ++ [] ≡ word
none_more [] = refl
none_more (b ∷ word) = ap (λ z. b ∷ z) (none_more word)

marks_word : (p : Part) (z : List Letter) (n at : ℕ) (s : State) → IsWord p s → n ≤ run_count (r.Word p) z →
    marks_from at s z ≡ marks_from (at + n) (with_word (s.word ++ bytes (take n z)) s) (drop n z)
marks_word p z zero at s i h =
    let e : at ≡ at + 0 = omega arith in
    ap (λ k. marks_from k s z) e ∙ ap (λ w. marks_from (at + 0) (with_word w s) z) (sym (none_more s.word))
marks_word p [] (suc n) at s i h = absurd (omega (arith, h))
marks_word p (letter ∷ z) (suc n) at s i h =
    let first = counted (r.Word p) letter z n h (is_in (r.Word p) letter) refl in
    let e : (at + 1) + n ≡ at + suc n = omega arith in
    let next = with_word (s.word ++ letter.byte ∷ []) s in
    ap (λ u. marks_from (at + 1) u z) (word_by at letter s p i first.0)
    ∙ (marks_word p z n (at + 1) next (word_kept p letter.byte s i) first.1
    ∙ (ap (λ k. marks_from k (with_word ((s.word ++ letter.byte ∷ []) ++ bytes (take n z)) s) (drop n z)) e
    ∙ ap (λ w. marks_from (at + suc n) (with_word w s) (drop n z)) (append_assoc s.word (letter.byte ∷ []) (bytes (take n z)))))

-- ---- where a reader is, by the run that goes on

abbrev is_idle_run : Run → Bool
is_idle_run r.Idle = true
is_idle_run _ = false

abbrev is_word_run : Run → Bool
is_word_run (r.Word p) = true
is_word_run _ = false

abbrev part_of : Run → Part
part_of (r.Word p) = p
part_of _ = part.Other

abbrev run_by : Bool → Bool → Bool → Run → Run
run_by calm none nothing word = if not calm then r.No else (if not none then word else (if nothing then r.Idle else r.No))

idle_tests : (calm none nothing : Bool) (word : Run) → is_idle_run word ≡ false → run_by calm none nothing word ≡ r.Idle →
    (calm ≡ true) × ((none ≡ true) × (nothing ≡ true))
idle_tests true true true word x e = (refl, (refl, refl))
idle_tests true true false word x e = elim (differ (ap is_idle_run e)) [ ]
idle_tests true false nothing word x e = elim (differ (sym x ∙ ap is_idle_run e)) [ ]
idle_tests false none nothing word x e = elim (differ (ap is_idle_run e)) [ ]

word_tests : (calm none nothing : Bool) (word : Run) (p : Part) → run_by calm none nothing word ≡ r.Word p →
    (calm ≡ true) × ((none ≡ false) × (word ≡ r.Word p))
word_tests true false nothing word p e = (refl, (refl, e))
word_tests true true true word p e = elim (differ (ap is_word_run e)) [ ]
word_tests true true false word p e = elim (differ (ap is_word_run e)) [ ]
word_tests false none nothing word p e = elim (differ (ap is_word_run e)) [ ]

never_idle : (p : Part) (s : State) → is_idle_run (word_run p s) ≡ false
never_idle part.Code s = by (is_code_word s)
  where
    by : (x : Bool) → is_idle_run (if x then r.Word part.Code else r.No) ≡ false
    by true = refl
    by false = refl
never_idle part.Note s = by (is_note_word s)
  where
    by : (x : Bool) → is_idle_run (if x then r.Word part.Note else r.No) ≡ false
    by true = refl
    by false = refl
never_idle _ s = refl

chosen_word : (x : Bool) (q p : Part) → (if x then r.Word q else r.No) ≡ r.Word p → (q ≡ p) × (x ≡ true)
chosen_word true q p e = (ap part_of e, refl)
chosen_word false q p e = elim (differ (ap is_word_run e)) [ ]

word_of : (q p : Part) (s : State) → word_run q s ≡ r.Word p → (q ≡ p) × (is_word_of q s ≡ true)
word_of part.Code p s e = chosen_word (is_code_word s) part.Code p e
word_of part.Note p s e = chosen_word (is_note_word s) part.Note p e
word_of _ p s e = elim (differ (ap is_word_run e)) [ ]

idle_of : (s : State) → run_in s ≡ r.Idle → IsIdle s
idle_of s e =
    let tests = idle_tests (is_calm s) (is_empty s.word) (is_nothing s.locks.line) (word_run s.spoken.part s)
    (never_idle s.spoken.part s) e in
    record { calm = calm s tests.0; word = tests.1.0; line = tests.1.1 }

in_word : (p : Part) (s : State) → run_in s ≡ r.Word p → IsWord p s
in_word p s e =
    let tests = word_tests (is_calm s) (is_empty s.word) (is_nothing s.locks.line) (word_run s.spoken.part s) p e in
    let word = word_of s.spoken.part p s tests.1.1 in
    record {
      calm = calm s tests.0;
      part = word.0;
      word = tests.1.0;
      kind = subst (λ q. is_word_of q s ≡ true) word.0 word.1;
    }

-- some letters of the run that goes on are read as one
marks_run : (run : Run) (z : List Letter) (n at : ℕ) (s : State) → run_in s ≡ run → n ≤ run_count run z → 0 < n →
    marks_from at s z ≡ marks_from (at + n) (run_taken run (take n z) s) (drop n z)
marks_run r.No z n at s e h some = let none = none_counted z in absurd (omega (arith, h, some, none))
marks_run r.Idle z n at s e h some = marks_idle z n at s (idle_of s e) h
marks_run (r.Word p) z n at s e h some = marks_word p z n at s (in_word p s e) h

-- and so the loop over letters goes on
pub run_on : (letters : List Letter) (at n : ℕ) (s next : State) → at ≤ length letters →
    marks_from at s (drop at letters) ≡ marks_of letters → (n ≡ 0 → ⊥) → n ≡ run_count (run_in s) (drop at letters) →
    next ≡ run_taken (run_in s) (take n (drop at letters)) s →
    marks_from (at + n) next (drop (at + n) letters) ≡ marks_of letters
run_on letters at n s next within same other e t =
    let some : 0 < n = omega (arith, other) in
    let fits : n ≤ run_count (run_in s) (drop at letters) = omega (arith, e) in
    let all = marks_run (run_in s) (drop at letters) n at s refl fits some in
    ap (λ z. marks_from (at + n) next z) (sym (drop-drop n at letters))
    ∙ (ap (λ u. marks_from (at + n) u (drop n (drop at letters))) t ∙ (sym all ∙ same))
