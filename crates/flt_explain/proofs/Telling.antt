-- What a look at a point adds to the findings: findings at that point alone.
use Rattle.std.proofs.Common.{◌≡◌, ◌≢◌, ℕ, zero, suc, ◌+◌, ◌<◌, Bool, true, false, cond, List, [], ◌∷◌, ◌++◌, Option}
use Rattle.std.proofs.Common.{Some, None, if◌then◌else◌, length, refl, sym, ap, subst, ◌∙◌, arith, append_assoc}
use Rattle.std.specs.Prelude.{◌==◌, ◌&&◌, ◌||◌}
use Rattle.std.specs.List.{All, filter, list_any}
use Rattle.std.proofs.lemmas.Bool.{eqb-true, eq-eqb, and_parts, and_from}
use Rattle.std.proofs.lemmas.List.{append-nil}
use Rattle.std.proofs.lemmas.List.Elements.{All-nil, All-cons, All-same, All-append, All-weaker, filter-append}
use Rattle.flt_rules.specs.Rule.{number}
use Rattle.flt_rules.specs.declared.call.LockNumber.{LockNumber}
use Rattle.flt_rules.specs.declared.rule.Rule.{Rule}
use Rattle.flt_rules.specs.declared.rule.Rule.TheVariants.{R12}
use Rattle.flt_graph.specs.declared.graph.Graph.{Graph}
use Rattle.flt_explain.specs.ByPoint.{AreBefore}
use Rattle.flt_explain.specs.Sight.{tells, past}
use Rattle.flt_explain.specs.Locks as locks
use Rattle.flt_explain.specs.Subjects.{place, is_same_finding}
use Rattle.flt_explain.specs.Told.{finding_at, is_told, told, is_at, at_point}
use Rattle.flt_explain.specs.Walk.{Progress, progress, faults_told, locks_told_of, locks_told, known, wrong, marked, met, opened}
use Rattle.flt_explain.specs.Walk.{reached, led, looked_at, looked, first_pending, spot, step_at, step, looks, steps, walked}
use Rattle.flt_explain.specs.declared.finding.Fault.{Fault}
use Rattle.flt_explain.specs.declared.finding.Finding.{Finding}
use Rattle.flt_explain.specs.declared.finding.Subject.{Subject}
use Rattle.flt_explain.specs.declared.finding.Subject.TheVariants as about
use Rattle.flt_explain.specs.declared.locks.Locks.{Locks}
use Rattle.flt_explain.specs.declared.sight.Sight.{Sight}
use Rattle.flt_explain.specs.declared.sight.Ways.{Ways}
use Rattle.flt_explain.specs.declared.tell.Spot.{Spot}

-- ---- a finding is looked for among those at its point

same_at : (a b c d : Bool) → (a && b) ≡ false → (a && (b && (c && d))) ≡ false
same_at true true c d e = absurd (cc)
same_at true false c d e = refl
same_at false b c d e = refl

-- the same finding is at the same point
elsewhere : (h f : Finding) → is_at f.callback f.point h ≡ false → is_same_finding h f ≡ false
elsewhere h f e =
    same_at (h.callback == f.callback) (h.point == f.point) (number h.rule == number f.rule) (place h.subject == place f.subject) e

kept_or_not : (b : Bool) (h f : Finding) (hs : List Finding) → is_at f.callback f.point h ≡ b →
    is_told (at_point f.callback f.point hs) f ≡ is_told hs f →
    is_told (cond b (h ∷ at_point f.callback f.point hs) (at_point f.callback f.point hs)) f ≡ is_told (h ∷ hs) f
kept_or_not true h f hs e i = ap (λ t. is_same_finding h f || t) i
kept_or_not false h f hs e i = i ∙ ap (λ t. t || is_told hs f) (sym (elsewhere h f e))

-- so it is told exactly if it is told among the findings at its point
pub told_at_point : (found : List Finding) (f : Finding) → is_told (at_point f.callback f.point found) f ≡ is_told found f
told_at_point [] f = refl
told_at_point (h ∷ hs) f = kept_or_not (is_at f.callback f.point h) h f hs refl (told_at_point hs f)

-- one more is one more among them
pub one_more : (found : List Finding) (f : Finding) →
    at_point f.callback f.point (found ++ f ∷ []) ≡ at_point f.callback f.point found ++ f ∷ []
one_more found f =
    let at : is_at f.callback f.point f ≡ true =
    and_from (f.callback == f.callback) (f.point == f.point) (eq-eqb f.callback f.callback refl) (eq-eqb f.point f.point refl) in
    filter-append (is_at f.callback f.point) found (f ∷ [])
    ∙ ap (λ t. at_point f.callback f.point found ++ cond t (f ∷ []) []) at

-- ---- what is added

-- the findings with some more, all of which are at a spot
pub record Adds (s : Spot) (old new : List Finding) : Type 0 where
  pub more : List Finding
  pub is : new ≡ old ++ more
  pub at : All (λ (h : Finding). is_at s.callback s.point h ≡ true) more

adds_none : (s : Spot) (old : List Finding) → Adds s old old
adds_none s old = record { more = []; is = sym (append-nil old); at = All-nil (λ (h : Finding). is_at s.callback s.point h ≡ true) }

adds_both : (s : Spot) (old next new : List Finding) → Adds s old next → Adds s next new → Adds s old new
adds_both s old next new a b = record {
  more = a.more ++ b.more;
  is = b.is ∙ ap (λ fs. fs ++ b.more) a.is ∙ append_assoc old a.more b.more;
  at = All-append (λ (h : Finding). is_at s.callback s.point h ≡ true) a.more b.more a.at b.at;
}

at_itself : (s : Spot) (r : Rule) (u : Subject) → is_at s.callback s.point (finding_at s r u) ≡ true
at_itself s r u = and_from (s.callback == s.callback) (s.point == s.point) (eq-eqb s.callback s.callback refl) (eq-eqb s.point s.point refl)

told_adds : (s : Spot) (r : Rule) (u : Subject) (found : List Finding) → Adds s found (told found (finding_at s r u))
told_adds s r u found = by (is_told found (finding_at s r u))
  where
    by : (b : Bool) → Adds s found (if b then found else found ++ finding_at s r u ∷ [])
    by true = adds_none s found
    by false = record {
      more = finding_at s r u ∷ [];
      is = refl;
      at = All-cons (λ (h : Finding). is_at s.callback s.point h ≡ true) (finding_at s r u) [] (at_itself s r u)
          (All-nil (λ (h : Finding). is_at s.callback s.point h ≡ true));
    }

told_if_adds : (b : Bool) (s : Spot) (r : Rule) (u : Subject) (found : List Finding) →
    Adds s found (if b then told found (finding_at s r u) else found)
told_if_adds true s r u found = told_adds s r u found
told_if_adds false s r u found = adds_none s found

faults_told_adds : (s : Spot) (a : Sight) (fs : List Fault) (found : List Finding) → Adds s found (faults_told s a fs found)
faults_told_adds s a [] found = adds_none s found
faults_told_adds s a (f ∷ fs) found =
    let next : List Finding = if tells a f.subject then told found (finding_at s f.rule f.subject) else found in
    adds_both s found next (faults_told s a fs next) (told_if_adds (tells a f.subject) s f.rule f.subject found)
    (faults_told_adds s a fs next)

locks_told_of_adds : (s : Spot) (differ : Locks) (ls : List LockNumber) (found : List Finding) →
    Adds s found (locks_told_of s differ ls found)
locks_told_of_adds s differ [] found = adds_none s found
locks_told_of_adds s differ (l ∷ ls) found =
    let next : List Finding = if locks.contains differ l then told found (finding_at s R12 (about.Lock l)) else found in
    adds_both s found next (locks_told_of s differ ls next) (told_if_adds (locks.contains differ l) s R12 (about.Lock l) found)
    (locks_told_of_adds s differ ls next)

locks_told_adds : (s : Spot) (differ : Locks) (found : List Finding) → Adds s found (locks_told s differ found)
unfolding locks_told
locks_told_adds s differ found = locks_told_of_adds s differ locks.all_locks found

led_adds : (s : Spot) (ways : Ways) (x : Progress) → Adds s x.found (led s ways x).found
unfolding led
led_adds s ways x =
    let first : List Finding = locks_told s (met x.walk ways.first) x.found in
    let second : Locks = met (reached x.walk ways.first) ways.second in
    adds_both s x.found first (locks_told s second first) (locks_told_adds s (met x.walk ways.first) x.found)
    (locks_told_adds s second first)

-- a look adds findings at its spot alone
pub looked_adds : (g : Graph) (s : Spot) (x : Progress) → Adds s x.found (looked g s x).found
unfolding looked
looked_adds g s x = by (known x.walk s.point)
  where
    by : (o : Option Sight) → Adds s x.found (looked_at g s o x).found
    by None = adds_none s x.found
    by (Some a) =
        let faults : List Fault = wrong g s a.state in
        let next : List Finding = faults_told s a faults x.found in
        adds_both s x.found next (led s (past g s.callback s.point faults a) (progress x.walk next)).found
        (faults_told_adds s a faults x.found)
        (led_adds s (past g s.callback s.point faults a) (progress x.walk next))

-- ---- findings of earlier callbacks

at_before : (s : Spot) (h : Finding) → is_at s.callback s.point h ≡ true → h.callback < s.callback + 1
at_before s h e =
    let same : h.callback ≡ s.callback = eqb-true h.callback s.callback ((and_parts (h.callback == s.callback) (h.point == s.point) e).0) in
    omega (arith, same)

look_before : (s : Spot) (old new : List Finding) → Adds s old new → AreBefore (s.callback + 1) old → AreBefore (s.callback + 1) new
look_before s old new a b = All-same (λ (h : Finding). h.callback < s.callback + 1) new (old ++ a.more) a.is
    (All-append (λ (h : Finding). h.callback < s.callback + 1) old a.more b
    (All-weaker (λ (h : Finding). is_at s.callback s.point h ≡ true)
    (λ (h : Finding). h.callback < s.callback + 1) (at_before s) a.more a.at))

step_before : (g : Graph) (callback : ℕ) (x : Progress) → AreBefore (callback + 1) x.found →
    AreBefore (callback + 1) (step g callback x).found
unfolding step
step_before g callback x b = by (first_pending x.walk)
  where
    by : (o : Option ℕ) → AreBefore (callback + 1) (step_at g callback x o).found
    by None = b
    by (Some point) =
        let s : Spot = spot g callback point in
        let taken : Progress = progress (marked x.walk point false) x.found in
        look_before s x.found (looked g s taken).found (looked_adds g s taken) b

steps_before : (g : Graph) (callback n : ℕ) (x : Progress) → AreBefore (callback + 1) x.found →
    AreBefore (callback + 1) (steps g callback n x).found
unfolding steps
steps_before g callback zero x b = b
steps_before g callback (suc n) x b = steps_before g callback n (step g callback x) (step_before g callback x b)

later : (callback : ℕ) (h : Finding) → h.callback < callback → h.callback < callback + 1
later callback h l = omega arith

-- the walk of a callback adds none of later ones
pub walked_before : (g : Graph) (callback : ℕ) (found : List Finding) → AreBefore callback found →
    AreBefore (callback + 1) (walked g callback found)
unfolding walked
walked_before g callback found b = steps_before g callback (looks g callback) (progress (opened g callback) found)
    (All-weaker (λ (h : Finding). h.callback < callback) (λ (h : Finding). h.callback < callback + 1) (later callback) found b)
