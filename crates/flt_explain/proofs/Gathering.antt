-- Findings by their points, before and after a look.
use Rattle.std.proofs.Common.{◌≡◌, ℕ, ◌+◌, ◌<◌, Bool, true, false, cond, List, [], ◌∷◌, ◌++◌, Option, Some}
use Rattle.std.proofs.Common.{None, length, get_or, set, replicate, refl, sym, ap, subst, ◌∙◌, arith, ⊎_elim}
use Rattle.std.specs.Prelude.{◌==◌}
use Rattle.std.specs.List.{All, filter}
use Rattle.std.proofs.lemmas.Bool.{eqb-true, and_parts, and_left, and_right, ne_eqb, cases_eq}
use Rattle.std.proofs.lemmas.List.{append-nil, length-set, length-replicate, get_or-set_same, get_or-set_other, get_or-replicate}
use Rattle.std.proofs.lemmas.List.Elements.{All-head, All-tail, filter-append}
use Rattle.flt_graph.specs.Graph.{points_at}
use Rattle.flt_graph.specs.declared.graph.Graph.{Graph}
use Rattle.flt_explain.specs.ByPoint.{AreBefore, AreByPoint}
use Rattle.flt_explain.specs.Told.{is_at, at_point}
use Rattle.flt_explain.specs.Sight.{past}
use Rattle.flt_explain.specs.Walk.{Progress, progress, blank, opened, known, wrong, faults_told, marked}
use Rattle.flt_explain.specs.Walk.{news, arrived_if, reached, led, looked_at, looked, spot}
use Rattle.flt_explain.specs.declared.finding.Fault.{Fault}
use Rattle.flt_explain.specs.declared.finding.Finding.{Finding}
use Rattle.flt_explain.specs.declared.sight.Sight.{Sight}
use Rattle.flt_explain.specs.declared.sight.Way.{Way}
use Rattle.flt_explain.specs.declared.sight.Ways.{Ways}
use Rattle.flt_explain.specs.declared.tell.Spot.{Spot}
use Rattle.flt_explain.specs.declared.walk.Walk.{Walk}
use Rattle.flt_explain.proofs.Telling.{Adds, looked_adds}

-- ---- none so far

-- findings of earlier callbacks are at no point of a callback
none_at : (callback point : ℕ) (found : List Finding) → AreBefore callback found → at_point callback point found ≡ []
none_at callback point [] b = refl
none_at callback point (h ∷ hs) b =
    let less : h.callback < callback = All-head (λ (h : Finding). h.callback < callback) h hs b in
    let other : (h.callback == callback) ≡ false = ne_eqb h.callback callback (λ e. absurd (omega (arith, e, less))) in
    ap (λ t. cond t (h ∷ at_point callback point hs) (at_point callback point hs))
    (and_left (h.callback == callback) (h.point == point) other)
    ∙ none_at callback point hs (All-tail (λ (h : Finding). h.callback < callback) h hs b)

-- so at the start of a callback's walk no point has any
pub none_by_point : (callback n : ℕ) (lists : List (List Finding)) (found : List Finding) →
    lists ≡ replicate n [] → AreBefore callback found →
    AreByPoint callback lists found
none_by_point callback n lists found e b = subst (λ ls. AreByPoint callback ls found) (sym e) (record {
  each = λ point within.
      let none : List Finding = [] in
      get_or-replicate n point none none (omega (arith, length-replicate n none, within)) ∙ sym (none_at callback point found b);
})

-- ---- after a look

-- findings at a spot aren't at other points
away : (s : Spot) (point : ℕ) (more : List Finding) → (point ≡ s.point → ⊥) →
    All (λ (h : Finding). is_at s.callback s.point h ≡ true) more →
    at_point s.callback point more ≡ []
away s point [] n a = refl
away s point (h ∷ hs) n a =
    let at : is_at s.callback s.point h ≡ true = All-head (λ (h : Finding). is_at s.callback s.point h ≡ true) h hs a in
    let same : h.point ≡ s.point = eqb-true h.point s.point ((and_parts (h.callback == s.callback) (h.point == s.point) at).1) in
    let other : (h.point == point) ≡ false = ne_eqb h.point point (λ e. n (sym e ∙ same)) in
    ap (λ t. cond t (h ∷ at_point s.callback point hs) (at_point s.callback point hs))
    (and_right (h.callback == s.callback) (h.point == point) other)
    ∙ away s point hs n (All-tail (λ (h : Finding). is_at s.callback s.point h ≡ true) h hs a)

-- so a look leaves those at other points as they were
untouched : (s : Spot) (point : ℕ) (old new : List Finding) → (point ≡ s.point → ⊥) → Adds s old new →
    at_point s.callback point new ≡ at_point s.callback point old
untouched s point old new n a =
    ap (at_point s.callback point) a.is ∙ filter-append (is_at s.callback point) old a.more
    ∙ ap (λ hs. at_point s.callback point old ++ hs) (away s point a.more n a.at) ∙ append-nil (at_point s.callback point old)

-- and with those at its spot replaced, all are by their points
replaced : (g : Graph) (s : Spot) (w v : Walk) (found all : List Finding) (lists : List (List Finding)) (here : List Finding) →
    progress v all ≡ looked g s (progress w found) → AreByPoint s.callback lists found → here ≡ at_point s.callback s.point all →
    AreByPoint s.callback (set lists s.point here) all
replaced g s w v found all lists here e a h = record { each = by }
  where
    adds : Adds s found all
    adds = subst (λ x. Adds s found x.found) (sym e) (looked_adds g s (progress w found))

    by : (point : ℕ) → point < length (set lists s.point here) → get_or (set lists s.point here) point [] ≡ at_point s.callback point all
    by point within =
        let inside : point < length lists = omega (arith, length-set lists s.point here, within) in
        ⊎_elim
        (λ (same : point ≡ s.point).
        ap (λ p. get_or (set lists s.point here) p []) same
        ∙ get_or-set_same lists s.point here [] (omega (arith, same, inside)) ∙ h
        ∙ ap (λ p. at_point s.callback p all) (sym same))
        (λ (other : point ≡ s.point → ⊥).
        get_or-set_other lists s.point point here [] other ∙ a.each point inside ∙ sym (untouched s point found all other adds))
        (cases_eq point s.point)

pub look_by_point : (g : Graph) (callback point : ℕ) (s : Spot) (w v : Walk) (found all : List Finding)
    (lists new : List (List Finding)) (here : List Finding) →
    s ≡ spot g callback point → progress v all ≡ looked g s (progress w found) → AreByPoint callback lists found →
    here ≡ at_point s.callback s.point all → new ≡ set lists point here → AreByPoint callback new all
look_by_point g callback point s w v found all lists new here is e a h n =
    subst (λ ls. AreByPoint callback ls all) (sym n)
    (replaced g (spot g callback point) w v found all lists here (e ∙ ap (λ (t : Spot). looked g t (progress w found)) is) a
    (h ∙ ap (λ (t : Spot). at_point t.callback t.point all) is))

-- ---- how many points there are

arrived_wide : (w : Walk) (point : ℕ) (o : Option Sight) → length (arrived_if w point o).pending ≡ length w.pending
arrived_wide w point None = refl
arrived_wide w point (Some a) = length-set w.pending point true

reached_wide : (w : Walk) (way : Option Way) → length (reached w way).pending ≡ length w.pending
unfolding reached
reached_wide w None = refl
reached_wide w (Some y) = arrived_wide w y.point (news (known w y.point) y.sight)

led_wide : (s : Spot) (ways : Ways) (x : Progress) → length (led s ways x).walk.pending ≡ length x.walk.pending
unfolding led
led_wide s ways x = reached_wide (reached x.walk ways.first) ways.second ∙ reached_wide x.walk ways.first

-- a look leaves as many points as there were
looked_wide : (g : Graph) (s : Spot) (x : Progress) → length (looked g s x).walk.pending ≡ length x.walk.pending
unfolding looked
looked_wide g s x = by (known x.walk s.point)
  where
    by : (o : Option Sight) → length (looked_at g s o x).walk.pending ≡ length x.walk.pending
    by None = refl
    by (Some a) =
        let faults : List Fault = wrong g s a.state in
        led_wide s (past g s.callback s.point faults a) (progress x.walk (faults_told s a faults x.found))

-- so the points without one that is taken are as many after a look at it
pub look_wide : (g : Graph) (s : Spot) (point : ℕ) (w t v : Walk) (found all : List Finding)
    (lists new : List (List Finding)) (here : List Finding) →
    length lists ≡ length w.pending → t ≡ marked w point false →
    progress v all ≡ looked g s (progress t found) → new ≡ set lists point here →
    length new ≡ length v.pending
look_wide g s point w t v found all lists new here l m e n =
    ap length n ∙ length-set lists point here ∙ l
    ∙ sym (ap (λ (x : Progress). length x.walk.pending) e ∙ looked_wide g s (progress t found) ∙ ap (λ (x : Walk). length x.pending) m
    ∙ length-set w.pending point false)

-- and a walk begins with as many as its callback has
pub opened_wide : (g : Graph) (callback n : ℕ) (w : Walk) (lists : List (List Finding)) → w ≡ opened g callback → n ≡ points_at g callback →
    lists ≡ replicate n [] → length lists ≡ length w.pending
unfolding opened
opened_wide g callback n w lists o p e =
    let none : List Finding = [] in
    ap length e ∙ length-replicate n none ∙ p
    ∙ sym (ap (λ (v : Walk). length v.pending) o ∙ length-set (replicate (points_at g callback) false) 0 true
    ∙ length-replicate (points_at g callback) false)
