-- Where nothing but a word ends or begins with a letter, nothing else changes.
use Rattle.std.proofs.Common.{◌≡◌, ℕ, Bool, true, false, length, refl, sym, ap, ◌∙◌}
use Rattle.std.specs.Prelude.{◌&&◌, ◌||◌, not, ◌==◌, if◌then◌else◌, None}
use Rattle.flt_c.specs.declared.letter.Part.{Part}
use Rattle.flt_c.specs.declared.letter.Part.TheVariants as part
use Rattle.flt_c.specs.declared.lock.LockLine.{LockLine}
use Rattle.flt_c.specs.declared.lock.LockLine.TheVariants as l
use Rattle.flt_c_drift.specs.Locks.{LockState, argument_with, coded, is_no_argument, is_same_line}
use Rattle.flt_c_drift.specs.Locks.{is_still, lined, noted as line_noted, read, taken_by}
use Rattle.flt_c_drift.specs.Parts.{is_aside, is_blank, is_code, is_note}
use Rattle.flt_c_drift.specs.Reading.{State, annotated, begun, cut, end_word, ended, goes_on, is_under_way, keeps_line, keeps_stage}
use Rattle.flt_c_drift.specs.Reading.{keeps_word, left, locked, marked, noted, refused, turned, with_locks, with_option}
use Rattle.flt_c_drift.specs.declared.mark.MarkKind.TheVariants as k
use Rattle.flt_c_drift.specs.declared.lock.Argument.{Argument}
use Rattle.flt_c_drift.specs.declared.lock.Argument.TheVariants as argument

pub differ : false ≡ true → ⊥
differ e = cc

pub both : (x y : Bool) → (x && y) ≡ true → (x ≡ true) × (y ≡ true)
both true true e = (refl, refl)
both true false e = elim (differ e) [ ]
both false y e = elim (differ e) [ ]

pub not_true : (x : Bool) → not x ≡ true → x ≡ false
not_true true e = elim (differ e) [ ]
not_true false e = refl

pub or_false : (x : Bool) → (x || false) ≡ x
or_false true = refl
or_false false = refl

-- ---- locks

abbrev with_argument : Argument → LockState → LockState
with_argument arg s = record {
  declared = s.declared;
  line = s.line;
  name = s.name;
  expression = s.expression;
  argument = arg;
  tokens = s.tokens;
  before = s.before;
}

none_goes_on : (p : Part) (b : ℕ) → argument_with p b argument.Nothing ≡ argument.Nothing
none_goes_on p b = by (is_code p && not (is_blank b))
  where
    by : (x : Bool) → (if x then argument.Nothing else argument.Nothing) ≡ argument.Nothing
    by true = refl
    by false = refl

-- where no argument is being read, none is after a letter
code_stays : (at : ℕ) (p : Part) (b marks : ℕ) (s : LockState) (arg : Argument) → is_no_argument arg ≡ true →
    coded at p b marks (with_argument arg s) ≡ with_argument arg s
unfolding coded
code_stays at p b marks s argument.Nothing h = rw (none_goes_on p b) refl
code_stays at p b marks s _ h = elim (differ h) [ ]

-- and none ends
none_ends : (at : ℕ) (p : Part) (b marks : ℕ) (s : LockState) (arg : Argument) → is_no_argument arg ≡ true →
    taken_by at p b marks s arg ≡ None
none_ends at p b marks s argument.Nothing h = refl
none_ends at p b marks s _ h = elim (differ h) [ ]

-- a line that is the same after a letter declares nothing
line_stays : (at : ℕ) (p : Part) (b : ℕ) (s : LockState) (line : LockLine) → is_same_line p b line ≡ true →
    line_noted at p b (lined line s) ≡ lined line s
unfolding line_noted
line_stays at part.Note b s l.Other h = let on = not_true (b == 10) h in rw on refl
line_stays at part.Note b s _ h = elim (differ h) [ ]
line_stays at part.Code b s l.Nothing h = refl
line_stays at part.Code b s _ h = elim (differ h) [ ]
line_stays at part.Aside b s l.Nothing h = refl
line_stays at part.Aside b s _ h = elim (differ h) [ ]
line_stays at part.Other b s l.Nothing h = refl
line_stays at part.Other b s _ h = elim (differ h) [ ]

locks_stay : (at : ℕ) (p : Part) (b marks : ℕ) (s : LockState) → is_still p b s ≡ true → read at p b marks s ≡ s
locks_stay at p b marks s h =
    let parts = both (is_no_argument s.argument) (is_same_line p b s.line) h in
    ap (coded at p b marks) (line_stays at p b s s.line parts.1) ∙ code_stays at p b marks s s.argument parts.0

-- ---- all of it

pub taken_first : (x : Bool) (t u : State) → x ≡ true → (if x then t else u) ≡ t
taken_first true t u e = refl
taken_first false t u e = elim (differ e) [ ]

pub taken_second : (x : Bool) (t u : State) → x ≡ false → (if x then t else u) ≡ u
taken_second true t u e = elim (differ (sym e)) [ ]
taken_second false t u e = refl

no_leave : (aside begun : Bool) → (aside || not begun) ≡ true → (not aside && begun) ≡ false
no_leave true _ e = refl
no_leave false false e = refl
no_leave false true e = elim (differ e) [ ]

no_cut : (blank marked code other : Bool) → (blank || not (marked && code || other)) ≡ true → (marked && (code && not blank)) ≡ false
no_cut blank false code other e = refl
no_cut blank true false other e = refl
no_cut true true true other e = refl
no_cut false true true other e = elim (differ e) [ ]

no_note : (blank other here note : Bool) → (blank || not (other || not here && note)) ≡ true → (not here && (note && not blank)) ≡ false
no_note blank other true note e = refl
no_note blank other false false e = refl
no_note true other false true e = refl
no_note false true false true e = elim (differ e) [ ]
no_note false false false true e = elim (differ e) [ ]

pub word_stays : (p : Part) (b : ℕ) (s : State) → keeps_word p b s ≡ true → ended p b s ≡ s
word_stays p b s h = taken_first (keeps_word p b s) s (end_word s) h

stage_stays : (p : Part) (s : State) → keeps_stage p s ≡ true → left p s ≡ s
stage_stays p s h = taken_second _ (refused s.opened 5 s) s (no_leave (is_aside p) (is_under_way s.stage) h)

cut_stays : (at : ℕ) (p : Part) (b : ℕ) (s : State) → keeps_line p b s.line ≡ true → cut at p b s ≡ s
cut_stays at p b s h =
    taken_second _ (marked (begun s.line) k.Cut at s) s
    (no_cut (is_blank b) s.line.noted (is_code p) (not s.line.here && is_note p) h)

note_stays : (at : ℕ) (p : Part) (b : ℕ) (s : State) → keeps_line p b s.line ≡ true → noted at p b s ≡ s
note_stays at p b s h =
    taken_second _ (marked (annotated s.line) k.Noted at s) s
    (no_note (is_blank b) (s.line.noted && is_code p) s.line.here (is_note p) h)

lock_stays : (at : ℕ) (p : Part) (b : ℕ) (s : State) → is_still p b s.locks ≡ true → locked at p b s ≡ s
lock_stays at p b s h =
    let parts = both (is_no_argument s.locks.argument) (is_same_line p b s.locks.line) h in
    ap (λ o. with_locks (read at p b (length s.marks) s.locks) (with_option o s))
    (none_ends at p b (length s.marks) s.locks s.locks.argument parts.0)
    ∙ ap (λ r. with_locks r s) (locks_stay at p b (length s.marks) s.locks h)

-- nothing is left to do
pub turn_stays : (at : ℕ) (p : Part) (b : ℕ) (s : State) → goes_on p b s ≡ true → turned at p b s ≡ s
unfolding turned
turn_stays at p b s h =
    let locks = both (keeps_stage p s && keeps_line p b s.line) (is_still p b s.locks) h in
    let lines = both (keeps_stage p s) (keeps_line p b s.line) locks.0 in
    ap (λ u. locked at p b (noted at p b (cut at p b u))) (stage_stays p s lines.0)
    ∙ (ap (λ u. locked at p b (noted at p b u)) (cut_stays at p b s lines.1)
    ∙ (ap (λ u. locked at p b u) (note_stays at p b s lines.1)
    ∙ lock_stays at p b s locks.1))
