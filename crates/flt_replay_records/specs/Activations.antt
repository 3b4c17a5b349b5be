-- What is kept of an activation: all of one that goes on, and mostly few variables of one that ended.
use Rattle.std.specs.Prelude.{true, [], replicate}
use Rattle.flt_model.specs.World.{Activation}
use Rattle.flt_replay_records.specs.declared.activation.State.{State}
use Rattle.flt_replay_records.specs.declared.activation.State.TheVariants as state
use Rattle.flt_replay_records.specs.declared.kept.Few.{Few}
use Rattle.flt_replay_records.specs.Kept.{few_contexts, few_operations}

-- an activation that ended, where no variables but these are in use
abbrev pub ended_with : Few → Activation
ended_with few = record {
  rest = [];
  numbers = replicate 8 0;
  contexts = few_contexts few;
  operations = few_operations few;
  locks = [];
  ended = true;
}

abbrev pub activation_of : State → Activation
activation_of (state.Going going) = going.value
activation_of (state.Ended few) = ended_with few

-- there is memory for all
abbrev pub IsGoing : State → Type 0
IsGoing (state.Going going) = Unit {0}
IsGoing (state.Ended few) = ⊥
