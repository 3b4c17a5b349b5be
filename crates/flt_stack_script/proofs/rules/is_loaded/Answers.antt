use Rattle.std.proofs.Common.{◌∙◌}
use Rattle.flt_stack_script.proofs.ScriptLaws.{loaded_of}
use Rattle.flt_stack_script.proofs.rules.is_loaded.Goals as goal

pub returns-in-Some : goal.returns-in-Some
returns-in-Some c = rw c.in-Some.is (c.has_altitude.ensures ∙ loaded_of c.in-Some.trees.now c.args.altitude)
