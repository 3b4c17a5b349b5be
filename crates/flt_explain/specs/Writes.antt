-- Which variables an instruction gives a new status. This project's own definitions.
use Rattle.std.specs.Prelude.{Bool, true, false, ◌&&◌, ◌||◌, Option, Some}
use Rattle.flt_rules.specs.Table.{row}
use Rattle.flt_rules.specs.declared.columns.Change.{Change}
use Rattle.flt_rules.specs.declared.columns.Change.TheVariants as becomes
use Rattle.flt_rules.specs.declared.columns.Effects.{Effects}
use Rattle.flt_tree.specs.declared.filter.Action.{Action}
use Rattle.flt_tree.specs.declared.filter.Action.TheVariants as action
use Rattle.flt_tree.specs.declared.variable.OperationVariable.TheVariants.{Removed}
use Rattle.flt_graph.specs.Instruction.{roles}
use Rattle.flt_graph.specs.declared.instruction.Instruction.{Instruction}
use Rattle.flt_graph.specs.declared.instruction.Instruction.TheVariants as instruction
use Rattle.flt_graph.specs.declared.instruction.Invocation.{Invocation}
use Rattle.flt_explain.specs.About.{is_context, is_operation}
use Rattle.flt_explain.specs.declared.finding.Subject.{Subject}
use Rattle.flt_explain.specs.declared.finding.Subject.TheVariants as about

abbrev pub is_change : Change → Bool
is_change becomes.Stays = false
is_change _ = true

-- what becomes of a call's operands where it succeeds, or where it fails, if it can
abbrev pub effects : Invocation → Bool → Option Effects
effects c true = Some (row c.call).on_ok
effects c false = (row c.call).on_fail

-- whether these effects change a variable: a context as the one that is passed or as the one that is given
abbrev pub effects_write : Option Effects → Invocation → Subject → Bool
effects_write (Some e) c (about.Context v) =
    (is_change e.context && is_context c.context v) || (is_change e.output && is_context c.output v)
effects_write (Some e) c (about.Operation v) = is_change e.operation && is_operation c.operation v
effects_write _ c _ = false

abbrev pub action_writes : Action → Subject → Bool
action_writes (action.ClearContext c) (about.Context v) = is_context (Some c) v
action_writes (action.ClearOperation o) (about.Operation v) = is_operation (Some (Removed o)) v
action_writes _ _ = false

-- whether an instruction gives a variable a new status, where a call succeeds or where it fails
abbrev pub writes : Instruction → Bool → Subject → Bool
writes (instruction.Act a next) granted u = action_writes a u
writes (instruction.Call c yes' no') granted u = effects_write (effects (roles c) granted) (roles c) u
writes _ granted u = false
