-- Runs that break something because of findings. This project's own definitions.
use Rattle.std.specs.Prelude.{ℕ, List, [], ◌∷◌, ◌&&◌, ◌==◌, Bool, Option, Some, None, if◌then◌else◌, slice_get}
use Rattle.flt_explain_flows.specs.declared.flows.FlowActivation.{FlowActivation}
use Rattle.flt_explain_flows.specs.declared.finding_run.FindingRun.{FindingRun}

-- a run is that of the finding of this number in the text of that number
abbrev pub is_of : FindingRun → ℕ → ℕ → Bool
is_of r source finding = r.source == source && r.finding == finding

-- the run of a finding: the first that is its own
abbrev pub run_of : List FindingRun → ℕ → ℕ → Option FindingRun
run_of [] source finding = None
run_of (r ∷ rs) source finding = if is_of r source finding then Some r else run_of rs source finding

-- what has this number among others, if it is there
abbrev pub at : {A : Type 0} → List A → Option ℕ → Option A
at all None = None
at all (Some number) = slice_get all number

-- the number of the text of an activation among those that are reported
abbrev pub source_in : FindingRun → Option FlowActivation → Option ℕ
source_in r None = None
source_in r (Some a) = slice_get r.sources a.tree

-- the same by the activation's number, if it is there
abbrev pub source_of : FindingRun → Option ℕ → Option ℕ
source_of r activation = source_in r (at r.flow.activations activation)
