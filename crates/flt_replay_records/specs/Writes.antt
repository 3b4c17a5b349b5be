-- What a step writes to the variables and the locks of its activation.
use Rattle.std.specs.Prelude.{[], ◌∷◌, ◌++◌}
use Rattle.flt_rules.specs.Held.{without_last}
use Rattle.flt_tree.specs.declared.variable.OperationVariable.TheVariants.{Removed}
use Rattle.flt_model.specs.Variables.{with_number, with_context_in, with_operation_in, with_old}
use Rattle.flt_model.specs.World.{Activation}
use Rattle.flt_replay_records.specs.declared.activation.Write.{Write}
use Rattle.flt_replay_records.specs.declared.activation.Write.TheVariants.{Nothing, Number, Output, Entry, Lock, Unlock}

-- the activation after it
abbrev pub written : Write → Activation → Activation
written Nothing act = act
written (Number n value) act = with_number act n value
written (Output d x) act = with_old act d x
written (Entry o d v x) act = with_context_in (with_operation_in act (Removed o) v) d x
written (Lock h) act = record act { locks = act.locks ++ h ∷ [] }
written (Unlock l) act = record act { locks = without_last l act.locks }
