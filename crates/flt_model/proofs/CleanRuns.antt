-- The verdict about a journal, and the run that its transitions are.
use Rattle.std.proofs.Common.{◌≡◌, ℕ, zero, suc, ◌+◌, Bool, true, false, List, [], ◌∷◌, ◌++◌, Option}
use Rattle.std.proofs.Common.{Some, None, ap, arith, sym, subst, refl, ◌∙◌, append_assoc, append-nil}
use Rattle.std.proofs.lemmas.Bool.{and_parts}
use Rattle.std.specs.List.{list_all}
use Rattle.std.specs.Prelude.{not, cond, replicate, take, drop, find, option_map, option_and_then, ◌↔◌}
use Rattle.flt_tree.specs.declared.filter.Filter.{Filter}
use Rattle.flt_model.proofs.LocalLaws.{local_clean}
use Rattle.flt_model.proofs.LockLaws.{opening_excludes}
use Rattle.flt_model.specs.declared.moves.JournalEntry.{JournalEntry}
use Rattle.flt_model.specs.declared.moves.JournalEntry.TheVariants.{Move, Go}
use Rattle.flt_model.specs.declared.verdict.Verdict.{Verdict}
use Rattle.flt_model.specs.declared.verdict.Verdict.TheVariants.{Legal, NotARun, Breaks}
use Rattle.flt_model.specs.declared.verdict.Violation.{Violation}
use Rattle.flt_model.specs.declared.verdict.Violation.TheVariants.{V1, V2, V3, V4, V5, V6, V7, V8}
use Rattle.flt_model.specs.Effects.{Step}
use Rattle.flt_model.specs.Expansion.{expansion, expand, IsCleanRun, IsStoppedAt, IsBrokenAt, Course, Reaches, Stops, Fails}
use Rattle.flt_model.specs.Expansion.{unless_broken, course_by, course, entry_course, judged, verdict_from, verdict}
use Rattle.flt_model.specs.Locks.{locks_exclude}
use Rattle.flt_model.specs.Program.{by_altitude}
use Rattle.flt_model.specs.Runs.{Moment, start, after, next, run_from, keeps, broken, Break, on_step, first_or, breaks_from}
use Rattle.flt_model.specs.Steps.{Transition, Make, Local, Board}
use Rattle.flt_model.specs.Violations.{one_owner, is_disciplined}

-- ---- a course that reaches a moment is a run that breaks nothing

-- the transitions are a run from one moment to another that breaks nothing
record Clean (p : List Filter) (m : Moment) (xs : List Transition) (last : Moment) : Type 0 where
  runs : run_from p m xs ≡ Some last
  clean : (k : ℕ) → breaks_from p m k xs ≡ None

module _ (p : List Filter) (m last : Moment) (xs : List Transition) where
  broken_step : (s : Step) (b : Option Violation) → (course p (after m s) xs ≡ Reaches last → Clean p (after m s) xs last) →
      unless_broken b (course p (after m s) xs) ≡ Reaches last →
      (run_from p (after m s) xs ≡ Some last) × ((k : ℕ) → first_or b k (breaks_from p (after m s) k xs) ≡ None)
  broken_step s None ih e = ((ih e).runs, (ih e).clean)
  broken_step s (Some v) ih e = absurd (cc)

  clean_step : (o : Option Step) → ((s : Step) → course p (after m s) xs ≡ Reaches last → Clean p (after m s) xs last) →
      course_by o (λ s. unless_broken (broken p m s) (course p (after m s) xs)) ≡ Reaches last →
      (option_and_then (λ s. run_from p (after m s) xs) o ≡ Some last)
      × ((k : ℕ) → on_step o (λ s. first_or (broken p m s) (k + 1) (breaks_from p (after m s) (k + 1) xs)) ≡ None)
  clean_step None ih e = absurd (cc)
  clean_step (Some s) ih e = let r = broken_step s (broken p m s) (ih s) e in (r.0, λ k. r.1 (k + 1))

course_clean : (p : List Filter) (m last : Moment) (xs : List Transition) → course p m xs ≡ Reaches last → Clean p m xs last
course_clean p m last [] e = record { runs = cc; clean = λ k. refl }
course_clean p m last (x ∷ xs) e =
    let r = clean_step p m last xs (next p m x) (λ s. course_clean p (after m s) last xs) e in record { runs = r.0; clean = r.1 }

-- ---- and the other way round

module _ (p : List Filter) (m last : Moment) (xs : List Transition) (k : ℕ) where
  broken_back : (s : Step) (b : Option Violation) →
      (breaks_from p (after m s) k xs ≡ None → course p (after m s) xs ≡ Reaches last) →
      first_or b k (breaks_from p (after m s) k xs) ≡ None → unless_broken b (course p (after m s) xs) ≡ Reaches last
  broken_back s None ih c = ih c
  broken_back s (Some v) ih c = absurd (cc)

  course_back : (o : Option Step) →
      ((s : Step) → run_from p (after m s) xs ≡ Some last → breaks_from p (after m s) k xs ≡ None →
      course p (after m s) xs ≡ Reaches last) →
      option_and_then (λ s. run_from p (after m s) xs) o ≡ Some last →
      on_step o (λ s. first_or (broken p m s) k (breaks_from p (after m s) k xs)) ≡ None →
      course_by o (λ s. unless_broken (broken p m s) (course p (after m s) xs)) ≡ Reaches last
  course_back None ih e c = absurd (cc)
  course_back (Some s) ih e c = broken_back s (broken p m s) (ih s e) c

clean_course : (p : List Filter) (m last : Moment) (xs : List Transition) (k : ℕ) →
    run_from p m xs ≡ Some last → breaks_from p m k xs ≡ None → course p m xs ≡ Reaches last
clean_course p m last [] k e c = cc
clean_course p m last (x ∷ xs) k e c =
    course_back p m last xs (k + 1) (next p m x) (λ s. clean_course p (after m s) last xs (k + 1)) e c

-- ---- the course of one list after another

abbrev then_course : Course → (Moment → Course) → Course
then_course (Reaches m) f = f m
then_course Stops f = Stops
then_course (Fails v) f = Fails v

module _ (p : List Filter) (m : Moment) (xs ys : List Transition) where
  append_broken : (s : Step) (b : Option Violation) →
      course p (after m s) (xs ++ ys) ≡ then_course (course p (after m s) xs) (λ r. course p r ys) →
      unless_broken b (course p (after m s) (xs ++ ys)) ≡ then_course (unless_broken b (course p (after m s) xs)) (λ r. course p r ys)
  append_broken s None e = e
  append_broken s (Some v) e = refl

  append_step : (o : Option Step) →
      ((s : Step) → course p (after m s) (xs ++ ys) ≡ then_course (course p (after m s) xs) (λ r. course p r ys)) →
      course_by o (λ s. unless_broken (broken p m s) (course p (after m s) (xs ++ ys)))
      ≡ then_course (course_by o (λ s. unless_broken (broken p m s) (course p (after m s) xs))) (λ r. course p r ys)
  append_step None ih = refl
  append_step (Some s) ih = append_broken s (broken p m s) (ih s)

course_append : (p : List Filter) (m : Moment) (xs ys : List Transition) →
    course p m (xs ++ ys) ≡ then_course (course p m xs) (λ r. course p r ys)
course_append p m [] ys = refl
course_append p m (x ∷ xs) ys = append_step p m xs ys (next p m x) (λ s. course_append p (after m s) xs ys)

-- ---- a legal journal reaches a moment

record Arrives (p : List Filter) (m : Moment) (es : List JournalEntry) : Type 0 where
  transitions : List Transition
  last : Moment
  expanded : expand es ≡ Some transitions
  reaches : course p m transitions ≡ Reaches last

module _ (p : List Filter) (m : Moment) (n : ℕ) (es : List JournalEntry) where
  arrives_after : (xs : List Transition) (mid : Moment) → course p m xs ≡ Reaches mid → Arrives p mid es →
      (ys : List Transition) × ((last : Moment) × ((option_map (λ zs. xs ++ zs) (expand es) ≡ Some ys) × (course p m ys ≡ Reaches last)))
  arrives_after xs mid h r = (
    xs ++ r.transitions,
    (
      r.last,
      (
        ap (λ o. option_map (λ zs. xs ++ zs) o) r.expanded,
        course_append p m xs r.transitions ∙ (ap (λ c. then_course c (λ q. course p q r.transitions)) h ∙ r.reaches),
      ),
    ),
  )

  arrives_by : (xs : List Transition) (c : Course) → course p m xs ≡ c →
      ((mid : Moment) → verdict_from p mid (n + 1) es ≡ Legal → Arrives p mid es) →
      judged c n (λ r. verdict_from p r (n + 1) es) ≡ Legal →
      (ys : List Transition) × ((last : Moment) × ((option_map (λ zs. xs ++ zs) (expand es) ≡ Some ys) × (course p m ys ≡ Reaches last)))
  arrives_by xs (Reaches mid) h ih e = arrives_after xs mid h (ih mid e)
  arrives_by xs Stops h ih e = absurd (cc)
  arrives_by xs (Fails v) h ih e = absurd (cc)

  arrives_entry : (o : Option (List Transition)) →
      ((mid : Moment) → verdict_from p mid (n + 1) es ≡ Legal → Arrives p mid es) →
      judged (entry_course p m o) n (λ r. verdict_from p r (n + 1) es) ≡ Legal →
      (ys : List Transition) × ((last : Moment)
      × ((option_and_then (λ xs. option_map (λ zs. xs ++ zs) (expand es)) o ≡ Some ys) × (course p m ys ≡ Reaches last)))
  arrives_entry None ih e = absurd (cc)
  arrives_entry (Some xs) ih e = arrives_by xs (course p m xs) refl ih e

legal_arrives : (p : List Filter) (m : Moment) (n : ℕ) (es : List JournalEntry) → verdict_from p m n es ≡ Legal → Arrives p m es
legal_arrives p m n [] e = record { transitions = []; last = m; expanded = refl; reaches = refl }
legal_arrives p m n (x ∷ es) e =
    let r = arrives_entry p m n es (expansion x) (λ mid. legal_arrives p mid (n + 1) es) e in
    record { transitions = r.0; last = r.1.0; expanded = r.1.1.0; reaches = r.1.1.1 }

-- ---- and the other way round

module _ (p : List Filter) (m last : Moment) (n : ℕ) (es : List JournalEntry) where
  legal_by : (ys : List Transition) (c : Course) →
      ((mid : Moment) → course p mid ys ≡ Reaches last → verdict_from p mid (n + 1) es ≡ Legal) →
      then_course c (λ q. course p q ys) ≡ Reaches last → judged c n (λ r. verdict_from p r (n + 1) es) ≡ Legal
  legal_by ys (Reaches mid) ih e = ih mid e
  legal_by ys Stops ih e = absurd (cc)
  legal_by ys (Fails v) ih e = absurd (cc)

  legal_rest : (xs zs : List Transition) (o : Option (List Transition)) →
      ((ys : List Transition) (mid : Moment) → o ≡ Some ys → course p mid ys ≡ Reaches last → verdict_from p mid (n + 1) es ≡ Legal) →
      option_map (λ ys. xs ++ ys) o ≡ Some zs → course p m zs ≡ Reaches last →
      judged (course p m xs) n (λ r. verdict_from p r (n + 1) es) ≡ Legal
  legal_rest xs zs None ih e h = absurd (cc)
  legal_rest xs zs (Some ys) ih e h =
      let same : xs ++ ys ≡ zs = cc in
      legal_by ys (course p m xs) (λ mid. ih ys mid refl)
      (sym (course_append p m xs ys) ∙ (ap (λ q. course p m q) same ∙ h))

  legal_entry : (zs : List Transition) (o : Option (List Transition)) →
      ((ys : List Transition) (mid : Moment) → expand es ≡ Some ys → course p mid ys ≡ Reaches last →
      verdict_from p mid (n + 1) es ≡ Legal) →
      option_and_then (λ xs. option_map (λ ys. xs ++ ys) (expand es)) o ≡ Some zs → course p m zs ≡ Reaches last →
      judged (entry_course p m o) n (λ r. verdict_from p r (n + 1) es) ≡ Legal
  legal_entry zs None ih e h = absurd (cc)
  legal_entry zs (Some xs) ih e h = legal_rest xs zs (expand es) ih e h

arrives_legal : (p : List Filter) (m last : Moment) (n : ℕ) (es : List JournalEntry) (zs : List Transition) →
    expand es ≡ Some zs → course p m zs ≡ Reaches last → verdict_from p m n es ≡ Legal
arrives_legal p m last n [] zs e h = refl
arrives_legal p m last n (x ∷ es) zs e h =
    legal_entry p m last n es zs (expansion x) (λ ys mid. arrives_legal p mid last (n + 1) es ys) e h

-- ---- the law

legal_clean : (filters : List Filter) (entries : List JournalEntry) → verdict filters entries ≡ Legal → IsCleanRun filters entries
legal_clean filters entries e =
    let p = by_altitude filters in
    let r = legal_arrives p (start p) 0 entries e in
    let c = course_clean p (start p) r.last r.transitions r.reaches in
    record { transitions = r.transitions; last = r.last; expanded = r.expanded; runs = c.runs; clean = c.clean 0 }

clean_legal : (filters : List Filter) (entries : List JournalEntry) → IsCleanRun filters entries → verdict filters entries ≡ Legal
clean_legal filters entries r =
    let p = by_altitude filters in
    arrives_legal p (start p) r.last 0 entries r.transitions r.expanded
    (clean_course p (start p) r.last r.transitions 0 r.runs r.clean)

-- a journal is legal just where it is a run that breaks nothing
pub legal_is_clean : (filters : List Filter) (entries : List JournalEntry) → (verdict filters entries ≡ Legal) ↔ IsCleanRun filters entries
legal_is_clean filters entries = (legal_clean filters entries, clean_legal filters entries)

-- ---- a course that stops isn't a run; one that fails breaks what it names

module _ (p : List Filter) (m : Moment) (xs : List Transition) where
  stops_step : (o : Option Step) → ((s : Step) → course p (after m s) xs ≡ Stops → run_from p (after m s) xs ≡ None) →
      course_by o (λ s. unless_broken (broken p m s) (course p (after m s) xs)) ≡ Stops →
      option_and_then (λ s. run_from p (after m s) xs) o ≡ None
  stops_step None ih e = refl
  stops_step (Some s) ih e = unbroken (broken p m s) e
    where
      unbroken : (b : Option Violation) → unless_broken b (course p (after m s) xs) ≡ Stops → run_from p (after m s) xs ≡ None
      unbroken None h = ih s h
      unbroken (Some v) h = absurd (cc)

course_stops : (p : List Filter) (m : Moment) (xs : List Transition) → course p m xs ≡ Stops → run_from p m xs ≡ None
course_stops p m [] e = absurd (cc)
course_stops p m (x ∷ xs) e = stops_step p m xs (next p m x) (λ s. course_stops p (after m s) xs) e

-- the violation of a break, if there is one
abbrev violation_of : Option Break → Option Violation
violation_of o = option_map (λ b. b.violation) o

module _ (p : List Filter) (m : Moment) (xs : List Transition) (v : Violation) (k : ℕ) where
  fails_broken : (s : Step) (b : Option Violation) →
      (course p (after m s) xs ≡ Fails v → violation_of (breaks_from p (after m s) k xs) ≡ Some v) →
      unless_broken b (course p (after m s) xs) ≡ Fails v → violation_of (first_or b k (breaks_from p (after m s) k xs)) ≡ Some v
  fails_broken s None ih e = ih e
  fails_broken s (Some w) ih e = cc

  fails_step : (o : Option Step) → ((s : Step) → course p (after m s) xs ≡ Fails v →
      violation_of (breaks_from p (after m s) k xs) ≡ Some v) →
      course_by o (λ s. unless_broken (broken p m s) (course p (after m s) xs)) ≡ Fails v →
      violation_of (on_step o (λ s. first_or (broken p m s) k (breaks_from p (after m s) k xs))) ≡ Some v
  fails_step None ih e = absurd (cc)
  fails_step (Some s) ih e = fails_broken s (broken p m s) (ih s) e

  broken_fails : (s : Step) (b : Option Violation) →
      (violation_of (breaks_from p (after m s) k xs) ≡ Some v → course p (after m s) xs ≡ Fails v) →
      violation_of (first_or b k (breaks_from p (after m s) k xs)) ≡ Some v → unless_broken b (course p (after m s) xs) ≡ Fails v
  broken_fails s None ih e = ih e
  broken_fails s (Some w) ih e = cc

  step_fails : (last : Moment) (o : Option Step) →
      ((s : Step) → run_from p (after m s) xs ≡ Some last → violation_of (breaks_from p (after m s) k xs) ≡ Some v →
      course p (after m s) xs ≡ Fails v) →
      option_and_then (λ s. run_from p (after m s) xs) o ≡ Some last →
      violation_of (on_step o (λ s. first_or (broken p m s) k (breaks_from p (after m s) k xs))) ≡ Some v →
      course_by o (λ s. unless_broken (broken p m s) (course p (after m s) xs)) ≡ Fails v
  step_fails last None ih r e = absurd (cc)
  step_fails last (Some s) ih r e = broken_fails s (broken p m s) (ih s r) e

course_fails : (p : List Filter) (m : Moment) (xs : List Transition) (v : Violation) (k : ℕ) → course p m xs ≡ Fails v →
    violation_of (breaks_from p m k xs) ≡ Some v
course_fails p m [] v k e = absurd (cc)
course_fails p m (x ∷ xs) v k e = fails_step p m xs v (k + 1) (next p m x) (λ s. course_fails p (after m s) xs v (k + 1)) e

run_fails : (p : List Filter) (m last : Moment) (xs : List Transition) (v : Violation) (k : ℕ) → run_from p m xs ≡ Some last →
    violation_of (breaks_from p m k xs) ≡ Some v → course p m xs ≡ Fails v
run_fails p m last [] v k r e = absurd (cc)
run_fails p m last (x ∷ xs) v k r e =
    step_fails p m xs v (k + 1) last (next p m x) (λ s. run_fails p (after m s) last xs v (k + 1)) r e

module _ (p : List Filter) (m : Moment) (xs ys : List Transition) where
  append_run : (o : Option Step) →
      ((s : Step) → run_from p (after m s) (xs ++ ys) ≡ option_and_then (λ r. run_from p r ys) (run_from p (after m s) xs)) →
      option_and_then (λ s. run_from p (after m s) (xs ++ ys)) o
      ≡ option_and_then (λ r. run_from p r ys) (option_and_then (λ s. run_from p (after m s) xs) o)
  append_run None ih = refl
  append_run (Some s) ih = ih s

run_append : (p : List Filter) (m : Moment) (xs ys : List Transition) →
    run_from p m (xs ++ ys) ≡ option_and_then (λ r. run_from p r ys) (run_from p m xs)
run_append p m [] ys = refl
run_append p m (x ∷ xs) ys = append_run p m xs ys (next p m x) (λ s. run_append p (after m s) xs ys)

-- ---- along a run that breaks nothing each visit has its owner, and no lock is held exclusively beside another

record Orderly (m : Moment) : Type 0 where
  owned : one_owner m.world m.trace ≡ true
  exclusive : locks_exclude m.world ≡ true

orderly_start : (p : List Filter) → Orderly (start p)
orderly_start p = record { owned = refl; exclusive = opening_excludes p }

-- the fourth and the seventh of what is kept, where all is
record Both (d g : Bool) : Type 0 where
  fourth : d ≡ true
  seventh : g ≡ true

all_kept : (a b c d e f g : Bool) (rest : Option Violation) →
    cond (not a) (Some V1) (cond (not b) (Some V2) (cond (not c) (Some V3) (cond (not d) (Some V4)
    (cond (not e) (Some V5) (cond (not f) (Some V6) (cond (not g) (Some V7) rest)))))) ≡ None → Both d g
all_kept false b c d e f g rest h = absurd (cc)
all_kept true false c d e f g rest h = absurd (cc)
all_kept true true false d e f g rest h = absurd (cc)
all_kept true true true false e f g rest h = absurd (cc)
all_kept true true true true false f g rest h = absurd (cc)
all_kept true true true true true false g rest h = absurd (cc)
all_kept true true true true true true false rest h = absurd (cc)
all_kept true true true true true true true rest h = record { fourth = refl; seventh = refl }

orderly_after : (p : List Filter) (m : Moment) (s : Step) → broken p m s ≡ None → Orderly (after m s)
orderly_after p m s e =
    let kept =
    all_kept (keeps p m s V1) (keeps p m s V2) (keeps p m s V3) (keeps p m s V4) (keeps p m s V5) (keeps p m s V6) (keeps p m s V7)
    (find (λ v. not (keeps p m s v)) (V8 ∷ [])) e in
    let disciplined = list_all (is_disciplined p m.world m.trace) s.events in
    record { owned = kept.fourth; exclusive = (and_parts disciplined (locks_exclude s.world) kept.seventh).1 }

module _ (p : List Filter) (m last : Moment) (xs : List Transition) where
  orderly_broken : (s : Step) (b : Option Violation) → broken p m s ≡ b →
      (Orderly (after m s) → course p (after m s) xs ≡ Reaches last → Orderly last) →
      unless_broken b (course p (after m s) xs) ≡ Reaches last → Orderly last
  orderly_broken s None h ih e = ih (orderly_after p m s h) e
  orderly_broken s (Some v) h ih e = absurd (cc)

  orderly_step : (o : Option Step) → ((s : Step) → Orderly (after m s) → course p (after m s) xs ≡ Reaches last → Orderly last) →
      course_by o (λ s. unless_broken (broken p m s) (course p (after m s) xs)) ≡ Reaches last → Orderly last
  orderly_step None ih e = absurd (cc)
  orderly_step (Some s) ih e = orderly_broken s (broken p m s) refl (ih s) e

course_orderly : (p : List Filter) (m last : Moment) (xs : List Transition) → Orderly m → course p m xs ≡ Reaches last → Orderly last
course_orderly p m last [] h e = let same : m ≡ last = cc in subst Orderly same h
course_orderly p m last (x ∷ xs) h e = orderly_step p m last xs (next p m x) (λ s. course_orderly p (after m s) last xs) e

-- ---- an entry breaks nothing but by its last transition, so one that breaks something is a run

-- the transitions are a run
abbrev IsRun : List Filter → Moment → List Transition → Type 0
IsRun p m xs = (last : Moment) × (run_from p m xs ≡ Some last)

module _ (p : List Filter) (m : Moment) (v : Violation) where
  last_runs : (o : Option Step) → course_by o (λ s. unless_broken (broken p m s) (Reaches (after m s))) ≡ Fails v →
      (last : Moment) × (option_and_then (λ s. Some (after m s)) o ≡ Some last)
  last_runs None e = absurd (cc)
  last_runs (Some s) e = (after m s, refl)

  local_runs : (xs : List Transition) (o : Option Step) → ((s : Step) → o ≡ Some s → broken p m s ≡ None) →
      ((s : Step) → Orderly (after m s) → course p (after m s) xs ≡ Fails v → IsRun p (after m s) xs) →
      course_by o (λ s. unless_broken (broken p m s) (course p (after m s) xs)) ≡ Fails v →
      (last : Moment) × (option_and_then (λ s. run_from p (after m s) xs) o ≡ Some last)
  local_runs xs None quiet ih e = absurd (cc)
  local_runs xs (Some s) quiet ih e =
      let h = quiet s refl in
      ih s (orderly_after p m s h) (sym (ap (λ b. unless_broken b (course p (after m s) xs)) h) ∙ e)

go_runs : (p : List Filter) (m : Moment) (v : Violation) (a n : ℕ) (grant : Bool) → Orderly m →
    course p m (replicate n (Local a) ++ Board a grant ∷ []) ≡ Fails v → IsRun p m (replicate n (Local a) ++ Board a grant ∷ [])
go_runs p m v a zero grant at e = last_runs p m v (next p m (Board a grant)) e
go_runs p m v a (suc n) grant at e =
    local_runs p m v (replicate n (Local a) ++ Board a grant ∷ []) (next p m (Local a)) (λ s h. local_clean p m a s at.owned at.exclusive h)
    (λ s h. go_runs p (after m s) v a n grant h) e

entry_runs : (p : List Filter) (m : Moment) (v : Violation) (x : JournalEntry) (xs : List Transition) → expansion x ≡ Some xs → Orderly m →
    course p m xs ≡ Fails v → IsRun p m xs
entry_runs p m v (Move x) xs h at e =
    let same : Make x ∷ [] ≡ xs = cc in
    subst (λ z. course p m z ≡ Fails v → IsRun p m z) same (last_runs p m v (next p m (Make x))) e
entry_runs p m v (Go a zero grant) xs h at e = absurd (cc)
entry_runs p m v (Go a (suc n) grant) xs h at e =
    let same : replicate n (Local a) ++ Board a grant ∷ [] ≡ xs = cc in
    subst (λ z. course p m z ≡ Fails v → IsRun p m z) same (go_runs p m v a n grant at) e

-- ---- behind entries that break nothing

-- the first i entries lead to a moment, and the verdict goes on from there
record Parted (p : List Filter) (m last : Moment) (n i : ℕ) (es : List JournalEntry) (front : List Transition) : Type 0 where
  told : verdict_from p m n es ≡ verdict_from p last (n + i) (drop i es)
  more : expand (take (suc i) es) ≡ option_map (λ ys. front ++ ys) (expand (take 1 (drop i es)))

map_front : (xs ys : List Transition) (o : Option (List Transition)) →
    option_map (λ zs. xs ++ zs) (option_map (λ zs. ys ++ zs) o) ≡ option_map (λ zs. (xs ++ ys) ++ zs) o
map_front xs ys None = refl
map_front xs ys (Some zs) = ap (λ l. Some l) (sym (append_assoc xs ys zs))

map_nothing : (o : Option (List Transition)) → o ≡ option_map (λ ys. [] ++ ys) o
map_nothing None = refl
map_nothing (Some xs) = refl

module _ (p : List Filter) (m last : Moment) (n i : ℕ) (es : List JournalEntry) where
  parted_by : (xs ys : List Transition) (c : Course) →
      ((mid : Moment) → course p mid ys ≡ Reaches last → Parted p mid last (n + 1) i es ys) →
      then_course c (λ q. course p q ys) ≡ Reaches last →
      (judged c n (λ r. verdict_from p r (n + 1) es) ≡ verdict_from p last (n + suc i) (drop i es))
      × (option_map (λ zs. xs ++ zs) (expand (take (suc i) es)) ≡ option_map (λ zs. (xs ++ ys) ++ zs) (expand (take 1 (drop i es))))
  parted_by xs ys (Reaches mid) ih e =
      let r = ih mid e in
      let count : n + 1 + i ≡ n + suc i = omega arith in (
        r.told ∙ ap (λ k. verdict_from p last k (drop i es)) count,
        ap (λ o. option_map (λ zs. xs ++ zs) o) r.more ∙ map_front xs ys (expand (take 1 (drop i es))),
      )
  parted_by xs ys Stops ih e = absurd (cc)
  parted_by xs ys (Fails v) ih e = absurd (cc)

  parted_rest : (xs front : List Transition) (o : Option (List Transition)) →
      ((ys : List Transition) (mid : Moment) → o ≡ Some ys → course p mid ys ≡ Reaches last → Parted p mid last (n + 1) i es ys) →
      option_map (λ ys. xs ++ ys) o ≡ Some front → course p m front ≡ Reaches last →
      (judged (course p m xs) n (λ r. verdict_from p r (n + 1) es) ≡ verdict_from p last (n + suc i) (drop i es))
      × (option_map (λ zs. xs ++ zs) (expand (take (suc i) es)) ≡ option_map (λ zs. front ++ zs) (expand (take 1 (drop i es))))
  parted_rest xs front None ih e h = absurd (cc)
  parted_rest xs front (Some ys) ih e h =
      let same : xs ++ ys ≡ front = cc in
      let r = parted_by xs ys (course p m xs) (λ mid. ih ys mid refl) (sym (course_append p m xs ys) ∙ (ap (λ q. course p m q) same ∙ h)) in
      (r.0, r.1 ∙ ap (λ l. option_map (λ zs. l ++ zs) (expand (take 1 (drop i es)))) same)

  parted_entry : (front : List Transition) (o : Option (List Transition)) →
      ((ys : List Transition) (mid : Moment) → expand (take i es) ≡ Some ys → course p mid ys ≡ Reaches last →
      Parted p mid last (n + 1) i es ys) →
      option_and_then (λ xs. option_map (λ ys. xs ++ ys) (expand (take i es))) o ≡ Some front → course p m front ≡ Reaches last →
      (judged (entry_course p m o) n (λ r. verdict_from p r (n + 1) es) ≡ verdict_from p last (n + suc i) (drop i es))
      × (option_and_then (λ xs. option_map (λ zs. xs ++ zs) (expand (take (suc i) es))) o ≡ option_map (λ zs. front ++ zs)
      (expand (take 1 (drop i es))))
  parted_entry front None ih e h = absurd (cc)
  parted_entry front (Some xs) ih e h = parted_rest xs front (expand (take i es)) ih e h

parted : (p : List Filter) (m last : Moment) (n i : ℕ) (es : List JournalEntry) (front : List Transition) →
    expand (take i es) ≡ Some front → course p m front ≡ Reaches last → Parted p m last n i es front
parted p m last n zero es front e h =
    let none : [] ≡ front = cc in
    let here : m ≡ last = (let reached : course p m [] ≡ Reaches last = ap (λ l. course p m l) none ∙ h in cc) in
    let count : n ≡ n + 0 = omega arith in
    record {
      told = ap (λ q. verdict_from p q n es) here ∙ ap (λ k. verdict_from p last k es) count;
      more = map_nothing (expand (take 1 es)) ∙ ap (λ l. option_map (λ ys. l ++ ys) (expand (take 1 es))) none;
    }
parted p m last n (suc i) [] front e h =
    let none : [] ≡ front = cc in record { told = refl; more = ap (λ l. option_map (λ ys. l ++ ys) (Some [])) none }
parted p m last n (suc i) (x ∷ es) front e h =
    let r = parted_entry p m last n i es front (expansion x) (λ ys mid. parted p mid last (n + 1) i es ys) e h in
    record { told = r.0; more = r.1 }

-- ---- where the fault is that a verdict names

record Located (p : List Filter) (m : Moment) (n : ℕ) (es : List JournalEntry) (w : Verdict) : Type 0 where
  i : ℕ
  front : List Transition
  last : Moment
  entry : JournalEntry
  rest : List JournalEntry
  expanded : expand (take i es) ≡ Some front
  reaches : course p m front ≡ Reaches last
  there : drop i es ≡ entry ∷ rest
  told : judged (entry_course p last (expansion entry)) (n + i) (λ r. Legal) ≡ w

module _ (p : List Filter) (m : Moment) (n : ℕ) (x : JournalEntry) (es : List JournalEntry) (w : Verdict) where
  located_here : judged (entry_course p m (expansion x)) n (λ r. Legal) ≡ w → Located p m n (x ∷ es) w
  located_here e =
      let count : n + 0 ≡ n = omega arith in
      record {
        i = 0;
        front = [];
        last = m;
        entry = x;
        rest = es;
        expanded = refl;
        reaches = refl;
        there = refl;
        told = ap (λ k. judged (entry_course p m (expansion x)) k (λ r. Legal)) count ∙ e;
      }

  located_later : (mid : Moment) (o : Option (List Transition)) → expansion x ≡ o → entry_course p m o ≡ Reaches mid →
      Located p mid (n + 1) es w → Located p m n (x ∷ es) w
  located_later mid None h e r = absurd (cc)
  located_later mid (Some xs) h e r =
      let count : n + suc r.i ≡ n + 1 + r.i = omega arith in
      record {
        i = suc r.i;
        front = xs ++ r.front;
        last = r.last;
        entry = r.entry;
        rest = r.rest;
        expanded =
            ap (λ o. option_and_then (λ xs. option_map (λ ys. xs ++ ys) (expand (take r.i es))) o) h
            ∙ ap (λ o. option_map (λ ys. xs ++ ys) o) r.expanded;
        reaches = course_append p m xs r.front ∙ (ap (λ c. then_course c (λ q. course p q r.front)) e ∙ r.reaches);
        there = r.there;
        told = ap (λ k. judged (entry_course p r.last (expansion r.entry)) k (λ r. Legal)) count ∙ r.told;
      }

  located_by : (c : Course) → entry_course p m (expansion x) ≡ c →
      ((mid : Moment) → verdict_from p mid (n + 1) es ≡ w → Located p mid (n + 1) es w) →
      judged c n (λ r. verdict_from p r (n + 1) es) ≡ w → Located p m n (x ∷ es) w
  located_by (Reaches mid) h ih e = located_later mid (expansion x) refl h (ih mid e)
  located_by Stops h ih e = located_here (ap (λ c. judged c n (λ r. Legal)) h ∙ e)
  located_by (Fails v) h ih e = located_here (ap (λ c. judged c n (λ r. Legal)) h ∙ e)

located : (p : List Filter) (m : Moment) (n : ℕ) (es : List JournalEntry) (w : Verdict) → (Legal ≡ w → ⊥) → verdict_from p m n es ≡ w →
    Located p m n es w
located p m n [] w bad e = absurd (bad e)
located p m n (x ∷ es) w bad e =
    located_by p m n x es w (entry_course p m (expansion x)) refl (λ mid. located p mid (n + 1) es w bad) e

told_stops : (c : Course) (k n : ℕ) → judged c k (λ r. Legal) ≡ NotARun n → (c ≡ Stops) × (k ≡ n)
told_stops (Reaches m) k n e = absurd (cc)
told_stops Stops k n e = (refl, cc)
told_stops (Fails v) k n e = absurd (cc)

told_fails : (c : Course) (v : Violation) (k n : ℕ) → judged c k (λ r. Legal) ≡ Breaks v n → (c ≡ Fails v) × (k ≡ n)
told_fails (Reaches m) v k n e = absurd (cc)
told_fails Stops v k n e = absurd (cc)
told_fails (Fails w) v k n e = (cc, cc)

single : (o : Option (List Transition)) → option_and_then (λ xs. option_map (λ ys. xs ++ ys) (Some [])) o ≡ o
single None = refl
single (Some xs) = ap (λ l. Some l) (append-nil xs)

-- the transitions of the first entries with those of the next one
with_next : (front : List Transition) (x : JournalEntry) (es rest : List JournalEntry) → es ≡ x ∷ rest →
    option_map (λ ys. front ++ ys) (expand (take 1 es)) ≡ option_map (λ ys. front ++ ys) (expansion x)
with_next front x es rest e =
    ap (λ l. option_map (λ ys. front ++ ys) (expand (take 1 l))) e ∙ ap (λ o. option_map (λ ys. front ++ ys) o) (single (expansion x))

-- ---- the entry that follows entries that break nothing

not_both : (o : Option Moment) (r : Moment) → o ≡ Some r → o ≡ None → ⊥
not_both o r some none = cc

module _ (p : List Filter) (m last : Moment) (front : List Transition) (reaches : course p m front ≡ Reaches last) where
  run_behind : (xs : List Transition) → run_from p m (front ++ xs) ≡ run_from p last xs
  run_behind xs = run_append p m front xs ∙ ap (λ o. option_and_then (λ r. run_from p r xs) o) (course_clean p m last front reaches).runs

  course_behind : (xs : List Transition) → course p m (front ++ xs) ≡ course p last xs
  course_behind xs = course_append p m front xs ∙ ap (λ c. then_course c (λ q. course p q xs)) reaches

  stops_behind : (o : Option (List Transition)) → entry_course p last o ≡ Stops →
      option_and_then (λ xs. run_from p m xs) (option_map (λ ys. front ++ ys) o) ≡ None
  stops_behind None e = refl
  stops_behind (Some xs) e = run_behind xs ∙ course_stops p last xs e

  no_run_behind : (o : Option (List Transition)) →
      ((xs : List Transition) (v : Violation) → o ≡ Some xs → course p last xs ≡ Fails v → IsRun p last xs) →
      option_and_then (λ xs. run_from p m xs) (option_map (λ ys. front ++ ys) o) ≡ None → entry_course p last o ≡ Stops
  no_run_behind None fails e = refl
  no_run_behind (Some xs) fails e = by_course (course p last xs) refl
    where
      none : run_from p last xs ≡ None
      none = sym (run_behind xs) ∙ e

      by_course : (c : Course) → course p last xs ≡ c → c ≡ Stops
      by_course (Reaches r) h = absurd (not_both (run_from p last xs) r (course_clean p last r xs h).runs none)
      by_course Stops h = refl
      by_course (Fails v) h = let runs = fails xs v refl h in absurd (not_both (run_from p last xs) runs.0 runs.1 none)

  fails_behind : (v : Violation) (o : Option (List Transition)) →
      ((xs : List Transition) → o ≡ Some xs → course p last xs ≡ Fails v → IsRun p last xs) → entry_course p last o ≡ Fails v →
      (ys : List Transition) × ((end : Moment) × ((option_map (λ zs. front ++ zs) o ≡ Some ys)
      × ((run_from p m ys ≡ Some end) × (violation_of (breaks_from p m 0 ys) ≡ Some v))))
  fails_behind v None runs e = absurd (cc)
  fails_behind v (Some xs) runs e =
      let r = runs xs refl e in
      (front ++ xs, (r.0, (refl, (run_behind xs ∙ r.1, course_fails p m (front ++ xs) v 0 (course_behind xs ∙ e)))))

  broken_behind : (v : Violation) (ys : List Transition) (end : Moment) (o : Option (List Transition)) →
      option_map (λ zs. front ++ zs) o ≡ Some ys →
      run_from p m ys ≡ Some end → violation_of (breaks_from p m 0 ys) ≡ Some v → entry_course p last o ≡ Fails v
  broken_behind v ys end None e r b = absurd (cc)
  broken_behind v ys end (Some xs) e r b =
      let same : front ++ xs ≡ ys = cc in
      sym (course_behind xs) ∙ (ap (λ l. course p m l) same ∙ run_fails p m end ys v 0 r b)

  -- of the entries that follow, the first decides
  next_stops : (n : ℕ) (es : List JournalEntry) → Orderly last →
      option_and_then (λ xs. run_from p m xs) (option_map (λ ys. front ++ ys) (expand (take 1 es))) ≡ None →
      verdict_from p last n es ≡ NotARun n
  next_stops n [] at e = absurd (not_both (run_from p m (front ++ [])) last (run_behind []) e)
  next_stops n (x ∷ es) at e =
      let none = ap (λ o. option_and_then (λ xs. run_from p m xs) o) (sym (with_next front x (x ∷ es) es refl)) ∙ e in
      ap (λ c. judged c n (λ r. verdict_from p r (n + 1) es))
      (no_run_behind (expansion x) (λ xs v h. entry_runs p last v x xs h at) none)

  next_fails : (v : Violation) (n : ℕ) (es : List JournalEntry) (ys : List Transition) (end : Moment) →
      option_map (λ zs. front ++ zs) (expand (take 1 es)) ≡ Some ys → run_from p m ys ≡ Some end →
      violation_of (breaks_from p m 0 ys) ≡ Some v → verdict_from p last n es ≡ Breaks v n
  next_fails v n [] ys end e r b =
      let same : front ++ [] ≡ ys = cc in
      let reached = sym (ap (λ l. course p m l) same) ∙ course_behind [] in
      let failed = run_fails p m end ys v 0 r b in
      absurd (cc)
  next_fails v n (x ∷ es) ys end e r b =
      ap (λ c. judged c n (λ r. verdict_from p r (n + 1) es))
      (broken_behind v ys end (expansion x) (sym (with_next front x (x ∷ es) es refl) ∙ e) r b)

-- ---- the laws about the first fault

clean_front : (filters : List Filter) (es : List JournalEntry) (front : List Transition) (last : Moment) → expand es ≡ Some front →
    course (by_altitude filters) (start (by_altitude filters)) front ≡ Reaches last → IsCleanRun filters es
clean_front filters es front last e h =
    let p = by_altitude filters in
    let c = course_clean p (start p) last front h in
    record { transitions = front; last = last; expanded = e; runs = c.runs; clean = c.clean 0 }

one_more : (n : ℕ) (es : List JournalEntry) → expand (take (n + 1) es) ≡ expand (take (suc n) es)
one_more n es = let count : n + 1 ≡ suc n = omega arith in ap (λ k. expand (take k es)) count

none_before : (n : ℕ) → 0 + n ≡ n
none_before n = omega arith

-- the fault that a verdict names stands at its number
record Fault (filters : List Filter) (entries : List JournalEntry) (n : ℕ) (c : Course) : Type 0 where
  front : List Transition
  last : Moment
  entry : JournalEntry
  before : IsCleanRun filters (take n entries)
  reaches : course (by_altitude filters) (start (by_altitude filters)) front ≡ Reaches last
  orderly : Orderly last
  more : expand (take (n + 1) entries) ≡ option_map (λ ys. front ++ ys) (expansion entry)
  ends : entry_course (by_altitude filters) last (expansion entry) ≡ c

fault_at : (filters : List Filter) (entries : List JournalEntry) (n : ℕ) (c : Course) (w : Verdict) →
    (r : Located (by_altitude filters) (start (by_altitude filters)) 0 entries w) → r.i ≡ n →
    entry_course (by_altitude filters) r.last (expansion r.entry) ≡ c → Fault filters entries n c
fault_at filters entries n c w r count ends =
    let p = by_altitude filters in
    let expanded : expand (take n entries) ≡ Some r.front = ap (λ k. expand (take k entries)) (sym count) ∙ r.expanded in
    let there : drop n entries ≡ r.entry ∷ r.rest = ap (λ k. drop k entries) (sym count) ∙ r.there in
    let q = parted p (start p) r.last 0 n entries r.front expanded r.reaches in
    record {
      front = r.front;
      last = r.last;
      entry = r.entry;
      before = clean_front filters (take n entries) r.front r.last expanded r.reaches;
      reaches = r.reaches;
      orderly = course_orderly p (start p) r.last r.front (orderly_start p) r.reaches;
      more = one_more n entries ∙ q.more ∙ with_next r.front r.entry (drop n entries) r.rest there;
      ends = ends;
    }

stopped_by : (filters : List Filter) (entries : List JournalEntry) (n : ℕ) → Fault filters entries n Stops → IsStoppedAt filters entries n
stopped_by filters entries n f =
    let p = by_altitude filters in
    record {
      before = f.before;
      stopped = ap (λ o. option_and_then (λ xs. run_from p (start p) xs) o) f.more
          ∙ stops_behind p (start p) f.last f.front f.reaches (expansion f.entry) f.ends;
    }

broken_by : (filters : List Filter) (entries : List JournalEntry) (v : Violation) (n : ℕ) → Fault filters entries n (Fails v) →
    IsBrokenAt filters entries v n
broken_by filters entries v n f =
    let p = by_altitude filters in
    let b = fails_behind p (start p) f.last f.front f.reaches v (expansion f.entry)
    (λ xs h. entry_runs p f.last v f.entry xs h f.orderly) f.ends in
    record { before = f.before; transitions = b.0; last = b.1.0; expanded = f.more ∙ b.1.1.0; runs = b.1.1.1.0; broken = b.1.1.1.1 }

told_stopped : (filters : List Filter) (entries : List JournalEntry) (n : ℕ) → verdict filters entries ≡ NotARun n →
    IsStoppedAt filters entries n
told_stopped filters entries n e =
    let p = by_altitude filters in
    let r = located p (start p) 0 entries (NotARun n) (λ q. absurd (cc)) e in
    let c = told_stops (entry_course p r.last (expansion r.entry)) (0 + r.i) n r.told in
    stopped_by filters entries n (fault_at filters entries n Stops (NotARun n) r (sym (none_before r.i) ∙ c.1) c.0)

told_broken : (filters : List Filter) (entries : List JournalEntry) (v : Violation) (n : ℕ) → verdict filters entries ≡ Breaks v n →
    IsBrokenAt filters entries v n
told_broken filters entries v n e =
    let p = by_altitude filters in
    let r = located p (start p) 0 entries (Breaks v n) (λ q. absurd (cc)) e in
    let c = told_fails (entry_course p r.last (expansion r.entry)) v (0 + r.i) n r.told in
    broken_by filters entries v n (fault_at filters entries n (Fails v) (Breaks v n) r (sym (none_before r.i) ∙ c.1) c.0)

stopped_told : (filters : List Filter) (entries : List JournalEntry) (n : ℕ) → IsStoppedAt filters entries n →
    verdict filters entries ≡ NotARun n
stopped_told filters entries n r =
    let p = by_altitude filters in
    let b = r.before in
    let reaches = clean_course p (start p) b.last b.transitions 0 b.runs b.clean in
    let q = parted p (start p) b.last 0 n entries b.transitions b.expanded reaches in
    q.told
    ∙ ap (λ k. verdict_from p b.last k (drop n entries)) (none_before n)
    ∙ next_stops p (start p) b.last b.transitions reaches n (drop n entries)
    (course_orderly p (start p) b.last b.transitions (orderly_start p) reaches)
    (sym (ap (λ o. option_and_then (λ xs. run_from p (start p) xs) o) (one_more n entries ∙ q.more)) ∙ r.stopped)

broken_told : (filters : List Filter) (entries : List JournalEntry) (v : Violation) (n : ℕ) → IsBrokenAt filters entries v n →
    verdict filters entries ≡ Breaks v n
broken_told filters entries v n r =
    let p = by_altitude filters in
    let b = r.before in
    let reaches = clean_course p (start p) b.last b.transitions 0 b.runs b.clean in
    let q = parted p (start p) b.last 0 n entries b.transitions b.expanded reaches in
    q.told
    ∙ ap (λ k. verdict_from p b.last k (drop n entries)) (none_before n)
    ∙ next_fails p (start p) b.last b.transitions reaches v n (drop n entries) r.transitions r.last
    (sym (one_more n entries ∙ q.more) ∙ r.expanded) r.runs r.broken

-- a journal isn't a run at an entry just where its run stops there
pub stopped_is_told : (filters : List Filter) (entries : List JournalEntry) (n : ℕ) → (verdict filters entries ≡ NotARun n) ↔
    IsStoppedAt filters entries n
stopped_is_told filters entries n = (told_stopped filters entries n, stopped_told filters entries n)

-- a journal breaks a violation at an entry just where its run does
pub broken_is_told : (filters : List Filter) (entries : List JournalEntry) (v : Violation) (n : ℕ) →
    (verdict filters entries ≡ Breaks v n) ↔ IsBrokenAt filters entries v n
broken_is_told filters entries v n = (told_broken filters entries v n, broken_told filters entries v n)
