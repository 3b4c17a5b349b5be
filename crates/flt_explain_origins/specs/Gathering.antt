-- How findings are put together, one after the other. This project's own definitions.
use Rattle.std.specs.Prelude.{◌≡◌, ℕ, zero, suc, Bool, true, false, List, [], ◌∷◌, ◌++◌, Option, Some, None, option_map, if◌then◌else◌}
use Rattle.std.specs.HashMap as hash
use Rattle.flt_rules.specs.Rule.{number}
use Rattle.flt_explain.specs.Subjects.{place}
use Rattle.flt_explain_origins.specs.Grouping.{is_like, group}
use Rattle.flt_explain_origins.specs.contracts.grouping.CommonPartialEq.TheImpl as common_eq
use Rattle.flt_explain_origins.specs.declared.grouping.Common.{Common}
use Rattle.flt_explain_origins.specs.declared.grouping.GatheredGroups.{GatheredGroups}
use Rattle.flt_explain_origins.specs.declared.grouping.Group.{Group}
use Rattle.flt_explain_origins.specs.declared.grouping.TracedFinding.{TracedFinding}
use Rattle.flt_explain_origins.specs.declared.origin.Cause.{Cause}
use Rattle.flt_explain_origins.specs.declared.origin.Cause.TheVariants as cause

-- what a finding has in common with those that are like it, by what made it so
abbrev pub common_by : TracedFinding → Option Cause → Option Common
common_by t (Some cause.Entry) = Some (record {
  callback = t.finding.callback;
  rule = number t.finding.rule;
  subject = place t.finding.subject;
  point = None;
  granted = true;
})
common_by t (Some (cause.Made s)) = Some (record {
  callback = t.finding.callback;
  rule = number t.finding.rule;
  subject = place t.finding.subject;
  point = Some s.point;
  granted = s.granted;
})
common_by t None = None

abbrev pub common_of : TracedFinding → Option Common
common_of t = common_by t t.cause

-- whether findings have the same in common
abbrev pub same : Common → Common → Bool
same = (common_eq.ghosts).eq

abbrev pub is_of : Common → Option Common → Bool
is_of k None = false
is_of k (Some c) = same k c

-- the groups with one more finding: it joins the first one that it is like, or begins another one
abbrev pub added : TracedFinding → List Group → List Group
added x [] = group x [] ∷ []
added x (g ∷ gs) = if is_like g.first x then group g.first (g.others ++ x ∷ []) ∷ gs else g ∷ added x gs

-- the groups with one more finding in the one at a place
abbrev pub joined : List Group → ℕ → TracedFinding → List Group
joined [] i x = []
joined (g ∷ gs) zero x = group g.first (g.others ++ x ∷ []) ∷ gs
joined (g ∷ gs) (suc i) x = g ∷ joined gs i x

-- where the first group of findings stands that have this in common, from 0
abbrev pub place_in : Common → List Group → Option ℕ
place_in k [] = None
place_in k (g ∷ gs) = if is_of k (common_of g.first) then Some 0 else option_map suc (place_in k gs)

-- each place that is kept is that of the first such group
abbrev pub ArePlaced : GatheredGroups → Type 0
ArePlaced a = (k : Common) → hash.get same a.places k ≡ place_in k a.groups.items
