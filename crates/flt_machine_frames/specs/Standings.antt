-- What is kept of an activation, in place of the statements that remain of it: a point, with the turns that are left. This project's
-- own representation of the machine's activations.
use Rattle.std.specs.Prelude.{◌≡◌, false, List, slice_get}
use Rattle.flt_tree.specs.declared.filter.Callback.{Callback}
use Rattle.flt_tree.specs.declared.filter.Statement.{Statement}
use Rattle.flt_graph.specs.Turns.{StandsWith}
use Rattle.flt_model.specs.Program.{body_of}
use Rattle.flt_model.specs.World.{Activation}
use Rattle.flt_machine_frames.specs.declared.standing.Standing.{Standing}

-- the activation that goes on with such variables and locks, where these statements remain
abbrev pub activation_with : Standing → List Statement → Activation
activation_with s rest = record {
  rest = rest;
  numbers = s.numbers;
  contexts = s.contexts;
  operations = s.operations;
  locks = s.locks;
  ended = false;
}

-- the standing with the variables of an activation
abbrev pub with_variables : Standing → Activation → Standing
with_variables s act = record s { numbers = act.numbers; contexts = act.contexts; operations = act.operations }

-- a standing in one of a filter's callbacks stands for an activation: the activation goes on, variables and locks are the same, and
-- what remains of it stands at the point, with the turns; a callback that isn't there has an empty body
pub record StandsFor (cs : List Callback) (s : Standing) (act : Activation) : Type 0 where
  pub same : act ≡ activation_with s act.rest
  pub stands : StandsWith (body_of (slice_get cs s.callback)) s.point s.turns act.rest

-- ---- parts of a standing

-- both are at one place: point, callback and turns are the same
pub record HaveSamePlace (s t : Standing) : Type 0 where
  pub callback : s.callback ≡ t.callback
  pub point : s.point ≡ t.point
  pub turns : s.turns ≡ t.turns

-- the variables of both are the same
pub record HaveSameVariables (s t : Standing) : Type 0 where
  pub numbers : s.numbers ≡ t.numbers
  pub contexts : s.contexts ≡ t.contexts
  pub operations : s.operations ≡ t.operations
