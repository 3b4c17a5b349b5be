-- Where local steps lead.
use Rattle.std.specs.Prelude.{◌≡◌, ℕ, zero, suc, Bool, List, Option, Some, None, option_and_then}
use Rattle.flt_tree.specs.declared.filter.Callback.{Callback}
use Rattle.flt_tree.specs.declared.filter.Filter.{Filter}
use Rattle.flt_model.specs.LocalSteps.{local_step}
use Rattle.flt_model.specs.Program.{callbacks_at}
use Rattle.flt_model.specs.World.{Activation}
use Rattle.flt_machine_frames.specs.Standings.{StandsFor}
use Rattle.flt_machine_frames.specs.declared.frame.Advanced.{Advanced}

-- an activation after so many steps, if they all are local
abbrev pub locally : Bool → ℕ → Activation → Option Activation
locally draining zero act = Some act
locally draining (suc n) act = option_and_then (locally draining n) (local_step draining act act.rest)

-- so many local steps lead from an activation to another, whose next step others see
pub record Leads (draining : Bool) (steps : ℕ) (act last : Activation) : Type 0 where
  pub steps_are : locally draining steps act ≡ Some last
  pub seen : local_step draining last last.rest ≡ None

-- the steps of an advance lead from an activation to one that the later standing stands for
pub record IsFrom (cs : List Callback) (advanced : Advanced) (act : Activation) : Type 0 where
  pub last : Activation
  pub leads : Leads advanced.frame.draining advanced.steps act last
  pub after : StandsFor cs advanced.after last

-- an advance on a filter's callbacks: nothing is gained or lost, and whichever activation the frame stands for, the steps lead from it
-- to where the later standing stands
pub record IsAdvanceOn (cs : List Callback) (advanced : Advanced) : Type 0 where
  pub gained : advanced.after.gained ≡ advanced.frame.standing.gained
  pub lost : advanced.after.lost ≡ advanced.frame.standing.lost
  pub leads : (act : Activation) → StandsFor cs advanced.frame.standing act → IsFrom cs advanced act

-- an advance on these filters
abbrev pub IsAdvance : List Filter → Advanced → Type 0
IsAdvance p advanced = IsAdvanceOn (callbacks_at p advanced.frame.filter) advanced
