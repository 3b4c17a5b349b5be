-- Findings that are put together. This project's own definitions.
use Rattle.std.specs.Prelude.{◌≡◌, ℕ, ◌+◌, Bool, true, false, not, ◌==◌, ◌&&◌, IsTrue, List, [], ◌∷◌, Option, Some, filter, sum_by}
use Rattle.std.specs.List.{list_all}
use Rattle.flt_rules.specs.Rule.{number}
use Rattle.flt_abs.specs.Outcome.{agrees}
use Rattle.flt_explain.specs.Subjects.{place}
use Rattle.flt_explain_origins.specs.declared.answer.Step.{Step}
use Rattle.flt_explain_origins.specs.declared.grouping.Group.{Group}
use Rattle.flt_explain_origins.specs.declared.grouping.TracedFinding.{TracedFinding}
use Rattle.flt_explain_origins.specs.declared.origin.Cause.{Cause}
use Rattle.flt_explain_origins.specs.declared.origin.Cause.TheVariants as cause

-- whether two steps are of one statement that comes out alike
abbrev pub same_step : Step → Step → Bool
same_step a b = (a.point == b.point) && agrees a.granted b.granted

abbrev pub same_cause : Cause → Cause → Bool
same_cause cause.Entry cause.Entry = true
same_cause (cause.Made a) (cause.Made b) = same_step a b
same_cause _ _ = false

-- whether both are known, and one
abbrev pub share : Option Cause → Option Cause → Bool
share (Some a) (Some b) = same_cause a b
share _ _ = false

-- whether a finding is of one callback, rule, subject and origin with another
abbrev pub is_like : TracedFinding → TracedFinding → Bool
is_like a b =
    (a.finding.callback == b.finding.callback) && ((number a.finding.rule == number b.finding.rule)
    && ((place a.finding.subject == place b.finding.subject) && share a.cause b.cause))

abbrev pub is_unlike : TracedFinding → TracedFinding → Bool
is_unlike a b = not (is_like a b)

abbrev pub group : TracedFinding → List TracedFinding → Group
group x others = record { first = x; others = others }

-- the first finding with all that are like it; then the same with those that are left, as long as turns are left
abbrev pub groups_in : List TracedFinding → List TracedFinding → List Group
groups_in [] xs = []
groups_in (turn ∷ turns) [] = []
groups_in (turn ∷ turns) (x ∷ xs) = group x (filter (is_like x) xs) ∷ groups_in turns (filter (is_unlike x) xs)

abbrev pub groups_of : List TracedFinding → List Group
groups_of xs = groups_in xs xs

-- what the findings of a group weigh together
abbrev pub weight : (TracedFinding → ℕ) → Group → ℕ
weight weigh g = weigh g.first + sum_by weigh g.others

-- each finding stands in exactly one group: whatever the findings weigh, the groups weigh together as much
abbrev pub Part : Type 0
Part = (xs : List TracedFinding) (weigh : TracedFinding → ℕ) → sum_by (weight weigh) (groups_of xs) ≡ sum_by weigh xs

-- whether all of a group are like its first
abbrev pub is_alike : Group → Bool
is_alike g = list_all (is_like g.first) g.others

-- all of a group are of one callback, rule, subject and origin
abbrev pub Alike : Type 0
Alike = (xs : List TracedFinding) → IsTrue (list_all is_alike (groups_of xs))
