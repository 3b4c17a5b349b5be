-- Plans: what a step that others see comes to, found out by reading alone.
use Rattle.std.specs.Prelude.{◌≡◌, ℕ, ◌+◌, Bool, true, false, List, [], ◌∷◌, ◌++◌, Option, Some, None, set, get_or, if◌then◌else◌}
use Rattle.flt_rules.specs.Held.{held, holds_lock, without_last}
use Rattle.flt_rules.specs.declared.held.HeldLock.{HeldLock}
use Rattle.flt_tree.specs.declared.filter.Callback.{Callback}
use Rattle.flt_tree.specs.declared.filter.Filter.{Filter}
use Rattle.flt_tree.specs.declared.filter.FallibleCall.{FallibleCall}
use Rattle.flt_tree.specs.declared.filter.Routine.{Routine}
use Rattle.flt_tree.specs.declared.filter.Statement.{Statement, out-Statement}
use Rattle.flt_tree.specs.declared.filter.Statement.TheOpen.{Statement-F}
use Rattle.flt_tree.specs.declared.variable.OperationVariable.TheVariants.{Removed, Data}
use Rattle.flt_machine_frames.specs.Loading.{AreLoaded}
use Rattle.flt_machine_frames.specs.Standings.{activation_with, StandsFor}
use Rattle.flt_machine_frames.specs.declared.loaded.Loaded.{Loaded}
use Rattle.flt_machine_frames.specs.declared.standing.Standing.{Standing}
use Rattle.flt_graph.specs.Points.{remaining}
use Rattle.flt_graph.specs.Turns.{StandsWith}
use Rattle.flt_graph.specs.declared.instruction.Instruction.{Instruction}
use Rattle.flt_graph.specs.declared.instruction.Instruction.TheVariants as instruction
use Rattle.flt_model.specs.declared.event.Event.{Event}
use Rattle.flt_model.specs.declared.event.Object.TheVariants.{Visit}
use Rattle.flt_model.specs.Effects.{Step, onward}
use Rattle.flt_model.specs.Program.{body_at, callbacks_at}
use Rattle.flt_model.specs.Steps as steps
use Rattle.flt_model.specs.Steps.{leaves_choice, may_be_refused}
use Rattle.flt_model.specs.Trace.{gains, loses}
use Rattle.flt_model.specs.Variables.{operation_in, with_number, with_context_in, with_operation_in, with_old}
use Rattle.flt_model.specs.World.{World, Store, Actor, Activation, no_actor, nobody}
use Rattle.flt_machine_store.specs.Changes.{after_change}
pub use Rattle.flt_machine_store.specs.Stores.{world_of}
use Rattle.flt_machine_calls.specs.declared.caller.Caller.{Caller}
use Rattle.flt_machine_calls.specs.declared.plans.Plan.{Plan}
use Rattle.flt_machine_calls.specs.declared.plans.Write.{Write}
use Rattle.flt_machine_calls.specs.declared.plans.Write.TheVariants as write

-- ---- what a plan changes of its activation

-- the activation after a write
abbrev pub written : Write → Activation → Activation
written write.Nothing act = act
written (write.Number n value) act = with_number act n value
written (write.Output d x) act = with_old act d x
written (write.Removed o v d x) act = with_context_in (with_operation_in act (Removed o) v) d x
written (write.Take l access) act = record act { locks = act.locks ++ held l access ∷ [] }
written (write.GiveUp l) act = record act { locks = without_last l act.locks }
written write.End act = record act { rest = []; ended = true }

-- a write that ends the activation
abbrev pub is_end : Write → Bool
is_end write.End = true
is_end _ = false

-- a lock that is taken wasn't held
abbrev pub TakesNone : List HeldLock → Write → Type 0
TakesNone locks (write.Take l access) = holds_lock l locks ≡ false
TakesNone locks _ = Unit {0}

-- ---- worlds in which the activation makes the step

-- the activation of these lists is the caller: its filter, its place, its variables and its locks are the same, and it goes on
pub record IsCaller (actors : List Actor) (activations : List Activation) (c : Caller) : Type 0 where
  pub filter : (get_or actors c.activation no_actor).filter ≡ c.filter
  pub place : (get_or actors c.activation no_actor).place ≡ c.place
  pub act : get_or activations c.activation nobody ≡ activation_with c.standing (get_or activations c.activation nobody).rest

-- the visit that an activation was given
abbrev pub given_of : Standing → Option ℕ
given_of s = operation_in (activation_with s []) Data

-- the caller's counts are those of a trace: how often it gained and lost the visit that it was given
pub record IsCounted (t : List Event) (a : ℕ) (s : Standing) : Type 0 where
  pub gained : (v : ℕ) → given_of s ≡ Some v → s.gained ≡ gains t a (Visit v)
  pub lost : (v : ℕ) → given_of s ≡ Some v → s.lost ≡ loses t a (Visit v)

-- a plan is a step: its events, after earlier ones, are the step's, and its write and its change lead to the step's world. The
-- activation goes on by the first list or by the second
pub record IsPlanned (w : World) (a : ℕ) (plan : Plan) (earlier : List Event) (granted refused : List Statement)
    (step : Step) : Type 0 where
  pub events : plan.events ≡ earlier ++ step.events
  pub world : step.world ≡ record w {
    activations = set w.activations a (written plan.write (onward w a (if plan.granted then granted else refused)));
    store = after_change w.store plan.change;
  }

-- a plan of a caller is a step, in each world with this store in which the activation is the caller
abbrev pub Plans : Store → Caller → Plan → (World → List Statement → List Statement → Step) → Type 0
Plans store c plan step =
    (actors : List Actor) (activations : List Activation) (granted refused : List Statement) → IsCaller actors activations c →
    IsPlanned (world_of store actors activations) c.activation plan [] granted refused
    (step (world_of store actors activations) granted refused)

-- the same where the step is made by the filters and the trace too
abbrev pub PlansBy : Store → Caller → Plan → (List Event → World → List Statement → List Statement → Step) → Type 0
PlansBy store c plan step =
    (t : List Event) → IsCounted t c.activation c.standing → Plans store c plan (step t)

-- ---- where the activation is after the step

-- the list that remains by an outcome, or none
abbrev pub list_or_none : Option (List Statement) → List Statement
list_or_none None = []
list_or_none (Some list) = list

-- what remains where a call succeeds or a test holds, and otherwise
abbrev pub remaining_by : List Statement → Bool → List Statement
remaining_by list outcome = list_or_none (remaining list outcome)

-- a standing after a planned step that doesn't end the activation: what remains then stands in the same callback
pub record IsWritten (cs : List Callback) (s later : Standing) (plan : Plan) (rest : List Statement) : Type 0 where
  pub variables : activation_with later [] ≡ written plan.write (activation_with s [])
  pub callback : later.callback ≡ s.callback
  pub given : given_of later ≡ given_of s
  pub stands : StandsWith (body_at cs s.callback) later.point later.turns (remaining_by rest plan.granted)

-- its counts go on by the plan's events
pub record IsCountedOn (a : ℕ) (s later : Standing) (plan : Plan) : Type 0 where
  pub gained : (v : ℕ) → given_of s ≡ Some v → later.gained ≡ s.gained + gains plan.events a (Visit v)
  pub lost : (v : ℕ) → given_of s ≡ Some v → later.lost ≡ s.lost + loses plan.events a (Visit v)

-- ---- the choice

-- whether a statement is a call that the system may refuse
abbrev pub leaves_choice_by : Statement-F Statement → Bool
leaves_choice_by (Statement-F.If span asked granted refused) = leaves_choice asked
leaves_choice_by _ = false

-- whether a list begins with a call that the system may refuse
abbrev pub begins_with_choice : List Statement → Bool
begins_with_choice [] = false
begins_with_choice (s ∷ rest) = leaves_choice_by (out-Statement s)

-- the choice that is written: a step that leaves none is made with `yes`
abbrev pub choice_at : List Statement → Bool → Bool
choice_at rest grant = if begins_with_choice rest then grant else true

-- the same of a call that can fail
abbrev pub choice_of : FallibleCall Routine → Bool → Bool
choice_of c grant = if may_be_refused c then grant else true

-- ---- the end

-- whether an instruction ends its callback
abbrev pub is_ending : Instruction → Bool
is_ending (instruction.Return status) = true
is_ending instruction.End = true
is_ending _ = false

-- ---- the plan of a step

-- a plan is the next step of a caller, in each world with this store in which these filters run and the caller stands
abbrev pub PlansStep : Loaded → Store → Caller → Bool → Plan → Type 0
PlansStep l store c grant plan =
    (p : List Filter) (t : List Event) (actors : List Actor) (activations : List Activation) (choice : Bool) (step : Step) →
    AreLoaded p l → IsCaller actors activations c → IsCounted t c.activation c.standing →
    StandsFor (callbacks_at p c.filter) c.standing (get_or activations c.activation nobody) →
    choice ≡ choice_at (get_or activations c.activation nobody).rest grant →
    steps.board p t (world_of store actors activations) c.activation choice ≡ Some step →
    IsPlanned (world_of store actors activations) c.activation plan []
    (remaining_by (get_or activations c.activation nobody).rest true)
    (remaining_by (get_or activations c.activation nobody).rest false) step
