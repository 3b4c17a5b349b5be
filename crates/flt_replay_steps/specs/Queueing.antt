-- What a step gives of a queue's front entry.
use Rattle.std.specs.Prelude.{ℕ, List, [], ◌∷◌, Option, Some, None}
use Rattle.flt_tree.specs.declared.filter.Statement.{Statement}
use Rattle.flt_tree.specs.declared.variable.ContextVariable.{ContextVariable}
use Rattle.flt_tree.specs.declared.variable.OperationVariable.TheVariants.{Removed}
use Rattle.flt_tree.specs.declared.variable.RemovedVariable.{RemovedVariable}
use Rattle.flt_model.specs.declared.event.Event.TheVariants as event
use Rattle.flt_model.specs.declared.event.Object.TheVariants.{Visit}
use Rattle.flt_model.specs.Effects.{Step, gains_context, onward, goes_on}
use Rattle.flt_model.specs.Variables.{with_context_in, with_operation_in}
use Rattle.flt_model.specs.declared.parts.Entry.{Entry}
use Rattle.flt_model.specs.World.{World}

-- the variables name the entry's visit and context, in a world where it is out of the queue; NULL where there is none
abbrev pub gives_entry : World → ℕ → RemovedVariable → ContextVariable → List Statement → Option Entry → Step
gives_entry w a o d rest None =
    goes_on w a (with_context_in (with_operation_in (onward w a rest) (Removed o) None) d None) w.store []
gives_entry w a o d rest (Some e) =
    goes_on w a (with_context_in (with_operation_in (onward w a rest) (Removed o) (Some e.visit)) d e.context) w.store
    (event.Gain a (Visit e.visit) ∷ gains_context a e.context)
