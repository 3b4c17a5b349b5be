-- What the calls of a board promise.
use Rattle.std.specs.Prelude.{◌≡◌, ◌≤◌, ◌⊎◌, ℕ, ◌+◌, Bool, true, false, not, List, [], ◌∷◌, ◌++◌, length, replicate, Option, Some, None}
use Rattle.flt_rules.specs.declared.call.Call.{Call}
use Rattle.flt_rules.specs.declared.call.Call.TheVariants as call
use Rattle.flt_rules.specs.declared.call.LockNumber.{LockNumber}
use Rattle.flt_rules.specs.declared.held.Access.{Access}
use Rattle.flt_rules.specs.declared.held.Access.TheVariants.{Exclusive, Shared}
use Rattle.flt_tree.specs.declared.filter.Callback.{Callback}
use Rattle.flt_tree.specs.declared.filter.Filter.{Filter}
use Rattle.flt_tree.specs.declared.filter.Statement.{Statement}
use Rattle.flt_machine_calls.specs.Plans.{choice_at, is_end, IsWritten, IsCountedOn}
use Rattle.flt_machine_calls.specs.declared.caller.Caller.{Caller}
use Rattle.flt_machine_calls.specs.declared.plans.Plan.{Plan}
use Rattle.flt_machine_frames.specs.Loading.{AreLoaded, instruction_in}
use Rattle.flt_machine_frames.specs.Leads.{IsAdvance}
use Rattle.flt_machine_frames.specs.declared.frame.Advanced.{Advanced}
use Rattle.flt_machine_frames.specs.declared.loaded.Loaded.{Loaded}
use Rattle.flt_machine_frames.specs.declared.standing.Standing.{Standing}
use Rattle.flt_model.specs.declared.event.Event.{Event}
use Rattle.flt_model.specs.declared.moves.JournalEntry.TheVariants.{Go}
use Rattle.flt_model.specs.declared.moves.Move.{Move}
use Rattle.flt_model.specs.declared.moves.Move.TheVariants.{Arrive}
use Rattle.flt_graph.specs.Instruction.{roles}
use Rattle.flt_graph.specs.declared.instruction.Instruction.{Instruction}
use Rattle.flt_graph.specs.declared.instruction.Instruction.TheVariants as instruction
use Rattle.flt_model.specs.Effects.{Step}
use Rattle.flt_model.specs.Locks.{holders_of, is_free_for}
use Rattle.flt_model.specs.Runs.{Moment, after, next, run_from}
use Rattle.flt_model.specs.Steps.{Transition, Make, Local, Board}
use Rattle.flt_model.specs.World.{Store, activation_at}
use Rattle.flt_machine.specs.Situations.{Situation, IsAt, Now, actor_of, standing_of}
use Rattle.flt_rules.specs.Limits.{max_cost, max_entries, max_operations}

-- transitions lead from where one board stands to where another stands, the last with these events
pub record Makes (p : List Filter) (later : Situation) (before : List Transition) (last : Transition) (events : List Event)
    (m : Moment) : Type 0 where
  pub middle : Moment
  pub step : Step
  pub reached : run_from p m before ≡ Some middle
  pub made : next p middle last ≡ Some step
  pub told : events ≡ step.events
  pub at : IsAt p later (after middle step)

-- ---- moves

-- a move isn't enabled
abbrev pub IsDisabled : Loaded → Situation → Move → Type 0
IsDisabled l b move = Now l b (λ p m. next p m (Make move) ≡ None)

-- an operation arrives
abbrev pub is_arrival : Move → Bool
is_arrival (Arrive kind mode file) = true
is_arrival _ = false

-- there are as many entries as may be, or as many operations where one more arrives
abbrev pub IsFullFor : Situation → Move → Type 0
IsFullFor b move = (length b.entries ≡ max_entries) ⊎ ((is_arrival move ≡ true) × (length b.store.arrivals ≡ max_operations))

-- ---- steps of activations

-- what is advanced was advanced on what is loaded, as by `advance`
pub record IsAdvanced (l : Loaded) (advanced : Advanced) : Type 0 where
  pub few : advanced.steps ≤ max_cost
  pub advance : (p : List Filter) → AreLoaded p l → IsAdvance p advanced

-- the activation is in the state that the frame was taken from
pub record IsFresh (b : Situation) (advanced : Advanced) : Type 0 where
  pub standing : standing_of b advanced.frame.activation ≡ Some advanced.frame.standing
  pub filter : (actor_of b advanced.frame.activation).filter ≡ advanced.frame.filter
  pub draining : (actor_of b advanced.frame.activation).draining ≡ advanced.frame.draining

-- the local steps of an advance
abbrev pub local_steps : Advanced → List Transition
local_steps advanced = replicate advanced.steps (Local advanced.frame.activation)

-- the step after them, by the choice that is written
abbrev pub step_at : Advanced → Bool → Moment → Transition
step_at advanced grant m =
    let a = advanced.frame.activation in Board a (choice_at (activation_at m.world a).rest grant)

-- the local steps lead to a moment at which that step isn't enabled
pub record IsRefusedAt (p : List Filter) (advanced : Advanced) (grant : Bool) (m : Moment) : Type 0 where
  pub middle : Moment
  pub reached : run_from p m (local_steps advanced) ≡ Some middle
  pub refused : next p middle (step_at advanced grant middle) ≡ None

-- the step isn't enabled: other activations hold the lock that it asks for in a way that refuses it
abbrev pub IsBlocked : Loaded → Situation → Advanced → Bool → Type 0
IsBlocked l b advanced grant = Now l b (λ p m. IsRefusedAt p advanced grant m)

-- a commit led a board to another, with these events and one entry more
pub record Commits (p : List Filter) (b later : Situation) (advanced : Advanced) (grant : Bool) (events : List Event)
    (m : Moment) : Type 0 where
  pub middle : Moment
  pub step : Step
  pub reached : run_from p m (local_steps advanced) ≡ Some middle
  pub made : next p middle (step_at advanced grant middle) ≡ Some step
  pub told : events ≡ step.events
  pub at : IsAt p later (after middle step)
  pub written : later.entries
      ≡ b.entries ++ Go advanced.frame.activation (advanced.steps + 1)
      (choice_at (activation_at middle.world advanced.frame.activation).rest grant) ∷ []

-- what is kept after a plan: nothing where it ends the activation, else a standing that is written so
abbrev pub IsLater : List Callback → ℕ → Standing → List Statement → Plan → Option Standing → Type 0
IsLater cs a s rest plan None = is_end plan.write ≡ true
IsLater cs a s rest plan (Some later) = (is_end plan.write ≡ false) × (IsWritten cs s later plan rest × IsCountedOn a s later plan)

-- ---- what a commit reads

-- the activation as it was advanced
abbrev pub caller_of : Situation → Advanced → Caller
caller_of b advanced = record {
  activation = advanced.frame.activation;
  filter = advanced.frame.filter;
  place = (actor_of b advanced.frame.activation).place;
  standing = advanced.after;
}

-- the instruction at which it stands
abbrev pub instruction_for : Loaded → Advanced → Instruction
instruction_for l advanced = instruction_in l advanced.frame.filter advanced.after.callback advanced.after.point

-- how a call asks for a lock, if it does
abbrev pub access_of : Call → Option Access
access_of (call.AcquireLock k) = Some Exclusive
access_of call.AcquirePushLockShared = Some Shared
access_of _ = None

-- whether the lock is asked for so, and others hold it in a way that refuses it
abbrev pub refuses : Store → Caller → Option LockNumber → Option Access → Bool
refuses s c (Some l) (Some access) = not (is_free_for c.activation access (holders_of s c.filter l))
refuses s c _ _ = false

-- the same of an instruction
abbrev pub is_refused_lock : Store → Caller → Instruction → Bool
is_refused_lock s c (instruction.Call made granted refused) = refuses s c (roles made).lock (access_of (roles made).call)
is_refused_lock s c _ = false

-- whether an instruction is a call that the system may refuse
abbrev pub leaves_choice_of : Call → Bool
leaves_choice_of call.AllocateContext = true
leaves_choice_of call.QueueDeferredIoWorkItem = true
leaves_choice_of call.QueueGenericWorkItem = true
leaves_choice_of _ = false

abbrev pub leaves_choice_at : Instruction → Bool
leaves_choice_at (instruction.Call made granted refused) = leaves_choice_of (roles made).call
leaves_choice_at _ = false
