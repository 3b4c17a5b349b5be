-- Steps of an activation that nobody else sees, one after another.
use Rattle.std.specs.Prelude.{ℕ, zero, suc, Bool, Option, Some, option_and_then}
use Rattle.flt_model.specs.LocalSteps.{local_step}
use Rattle.flt_model.specs.World.{Activation}

-- the activation after so many of them; none where one of them is seen
abbrev pub local_steps : Bool → ℕ → Activation → Option Activation
local_steps draining zero act = Some act
local_steps draining (suc n) act = option_and_then (local_steps draining n) (local_step draining act act.rest)
