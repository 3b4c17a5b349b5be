-- How an activation goes on after a plan.
use Rattle.std.specs.Prelude.{◌<◌, Bool, true, false, length}
use Rattle.flt_graph.specs.declared.instruction.Instruction.{Instruction}
use Rattle.flt_graph.specs.declared.instruction.Instruction.TheVariants as instruction
use Rattle.flt_machine_frames.specs.declared.standing.Standing.{Standing}
use Rattle.flt_machine_calls.specs.declared.plans.Write.{Write}
use Rattle.flt_machine_calls.specs.declared.plans.Write.TheVariants as write

-- an instruction whose step others may see and after which the activation goes on
abbrev pub leads_on : Instruction → Bool
leads_on (instruction.Act action next) = true
leads_on (instruction.Call made granted refused) = true
leads_on (instruction.Test test granted refused) = true
leads_on _ = false

-- one lock more has its place
abbrev pub HasRoom : Standing → Write → Type 0
HasRoom s (write.Take l access) = length s.locks < 8
HasRoom s _ = Unit {0}
