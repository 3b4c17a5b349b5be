use Rattle.std.proofs.Common.{take}
use Rattle.flt_commands_explain.specs.FindingRuns.{AreRunsOf}
use Rattle.flt_commands_explain.proofs.finding_runs.runs_of.Given as goal

abbrev pub invariant-loop-one : goal.invariant-loop-one
invariant-loop-one l = AreRunsOf l.parsed.trees.items l.parsed.files.items l.parsed.numbers (take l.one-index l.noted) l.runs.items
