use Rattle.std.proofs.Common.{take}
use Rattle.flt_commands_explain.specs.FindingRuns.{AreTrees}
use Rattle.flt_commands_explain.proofs.finding_runs.parsed_of.Given as goal

abbrev pub invariant-loop-number : goal.invariant-loop-number
invariant-loop-number l = AreTrees (take l.number l.sources) l.parsed.trees.items l.parsed.files.items l.parsed.numbers
