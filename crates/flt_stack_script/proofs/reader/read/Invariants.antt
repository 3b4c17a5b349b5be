use Rattle.std.proofs.Common.{length}
use Rattle.std.specs.Prelude.{option_map}
use Rattle.flt_model.specs.Program.{filters_of}
use Rattle.flt_stack_script.proofs.ScriptLaws.{Reached}
use Rattle.flt_stack_script.proofs.reader.read.Given as goal

abbrev pub invariant-loop-left : goal.invariant-loop-left
invariant-loop-left l = Reached (option_map (λ trees. filters_of trees.now) l.stack) l.text l.found l.left

abbrev pub decreases-loop-left : goal.decreases-loop-left
decreases-loop-left l = length l.left
