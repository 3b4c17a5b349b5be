-- Plans of effects: what comes after a call's own events.
use Rattle.std.specs.Prelude.{List}
use Rattle.flt_model.specs.declared.event.Event.{Event}
use Rattle.flt_model.specs.Effects.{Step}
use Rattle.flt_model.specs.World.{World, Store, Actor, Activation}
use Rattle.flt_tree.specs.declared.filter.Statement.{Statement}
use Rattle.flt_machine_calls.specs.Plans.{IsCaller, IsPlanned, world_of}
use Rattle.flt_machine_calls.specs.declared.caller.Caller.{Caller}
use Rattle.flt_machine_calls.specs.declared.plans.Plan.{Plan}

-- after these events a plan is a step, in each world with this store in which the activation is the caller
abbrev pub Follows : Store → Caller → List Event → Plan → (World → List Statement → List Statement → Step) → Type 0
Follows store c earlier plan step =
    (actors : List Actor) (activations : List Activation) (granted refused : List Statement) → IsCaller actors activations c →
    IsPlanned (world_of store actors activations) c.activation plan earlier granted refused
    (step (world_of store actors activations) granted refused)
