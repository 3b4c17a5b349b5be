-- What waits for a lock can't go on, and its world is reached by local steps. This project's own definitions.
use Rattle.std.specs.Prelude.{◌≡◌, ℕ, Bool, true, false, List, None, Some, All, map}
use Rattle.flt_model.specs.Runs.{Moment, next, run_from}
use Rattle.flt_model.specs.Steps.{Local, Board}
use Rattle.flt_model.specs.World.{World, activation_at}
use Rattle.flt_tree.specs.declared.filter.Filter.{Filter}
use Rattle.flt_explain_waits.specs.Waiting.{AreSettled, holds, waits_at}
use Rattle.flt_explain_waits.specs.declared.waits.BlockedActivation.{BlockedActivation}

-- the activation hasn't ended, no step of it is enabled, and the one that is named as the holder of its lock holds that
pub record IsStuck (p : List Filter) (m : Moment) (b : BlockedActivation) : Type 0 where
  pub runs : (activation_at m.world b.activation).ended ≡ false
  pub unseen : next p m (Local b.activation) ≡ None
  pub seen : (grant : Bool) → next p m (Board b.activation grant) ≡ None
  pub held : (h : ℕ) → b.holder ≡ Some h → holds m.world b.activation b.lock h ≡ true

-- whatever waits is stuck
abbrev pub WhatWaitsIsStuck : Type 0
WhatWaitsIsStuck = (p : List Filter) (m : Moment) (n : ℕ) → All (IsStuck p m) (waits_at m.world n)

-- where the first so many activations have made their local steps, these are a run without events
abbrev pub LocalStepsAreRuns : Type 0
LocalStepsAreRuns = (p : List Filter) (m : Moment) (n : ℕ) (u : World) → AreSettled m.world n u →
    (steps : List ℕ) × (run_from p m (map Local steps) ≡ Some (record { world = u; trace = m.trace }))
