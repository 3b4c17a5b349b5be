-- Which findings of a text are reported by themselves. This project's own program.
use Rattle.std.specs.Prelude.{◌≡◌, ℕ, List, map, slice_get}
use Rattle.flt_explain.specs.declared.finding.Finding.{Finding}
use Rattle.flt_graph.specs.declared.graph.Graph.{Graph}
use Rattle.flt_explain_origins.specs.declared.grouping.Group.{Group}
use Rattle.flt_explain_ways.specs.Tracing.{AreTraces, is_behind}
use Rattle.flt_explain_ways.specs.declared.tracing.Traces.{Traces}
use Rattle.flt_explain_ways.specs.declared.reported.ReportedFinding.{ReportedFinding}

-- of a group its first is reported: its number, and whether each path to it that was found breaks another rule before
abbrev pub reported_of : Traces → Group → ReportedFinding
reported_of traces group =
    record { number = group.first.number; is_behind = is_behind (slice_get traces.shown group.first.number) }

-- what is reported of the findings of a text that has these points, where these are their traces: one of each group, in their order
pub record AreReportedBy (g : Graph) (found : List Finding) (traces : Traces) (all : List ReportedFinding) : Type 0 where
  pub traced : AreTraces g found traces
  pub each : all ≡ map (reported_of traces) traces.groups

-- the same, whatever else their traces show
pub record AreReported (g : Graph) (found : List Finding) (all : List ReportedFinding) : Type 0 where
  pub traces : Traces
  pub are : AreReportedBy g found traces all

-- the numbers of findings that are reported
abbrev pub numbers_of : List ReportedFinding → List ℕ
numbers_of all = map (λ (r : ReportedFinding). r.number) all
