-- What a worker does in one hold of the lock. This project's own rule.
use Rattle.std.specs.Prelude.{◌≡◌, ◌≢◌, ◌+◌, ℕ, Bool, true, false, List, [], Result, Err, Some, IfOk, OnErr, if◌then◌else◌}
use Rattle.std.specs.declared.sync.ledger.Share.{Share}
use Rattle.flt_machine_frames.specs.declared.frame.Advanced.{Advanced}
use Rattle.flt_machine_frames.specs.declared.loaded.Loaded.{Loaded}
use Rattle.flt_machine.specs.Calls.{Commits, IsBlocked, IsDisabled, IsFresh, instruction_for, leaves_choice_at}
use Rattle.flt_machine.specs.Situations.{Situation, Now}
use Rattle.flt_model.specs.declared.event.Event.{Event}
use Rattle.flt_model.specs.declared.moves.Move.TheVariants.{Cancel}
use Rattle.flt_model.specs.declared.subject.Subject.{Subject}
use Rattle.flt_stack_core.specs.Turns.{HasMade, counted, is_granted, named_by, named_by_step}
use Rattle.flt_stack_core.specs.declared.choices.Choices.{Choices}
use Rattle.flt_stack_core.specs.declared.turn_fault.TurnFault.{TurnFault}
use Rattle.flt_stack_core.specs.declared.turn_fault.TurnFault.TheVariants as fault

-- by how many entries the journal grows, where something is made
abbrev pub grows : Bool → ℕ
grows made = if made then 1 else 0

-- a worker's call with this answer, in which `made` counts the entries, counted them in its share of these, and a full journal in its share
-- of refusals for lack of room; where it was refused, it made none
pub record IsCounted {L M A : Type 0} (entries later : Share L) (fulls more : Share M) (made : A → ℕ) (answer : Result A TurnFault)
    : Type 0 where
  pub share : IfOk answer (λ a. later.amount ≡ entries.amount + made a)
  pub none : OnErr answer (later.amount ≡ entries.amount)
  pub parts : later.parts ≡ entries.parts
  pub full : answer ≡ Err fault.Full → more.amount ≡ fulls.amount + 1
  pub room : answer ≢ Err fault.Full → more.amount ≡ fulls.amount
  pub fulls_parts : more.parts ≡ fulls.parts

-- the step after an advance had its turn: whether it was made, whether the ticket stays, and what gets a ticket by it
pub data HasCommitted (l : Loaded) (b later : Situation) (c d : Choices) (advanced : Advanced) : Bool → Bool → List Subject → Type 0 where
  -- the activation isn't in the state that it was advanced from
  stale : (IsFresh b advanced → ⊥) → later ≡ b → d ≡ c → HasCommitted l b later c d advanced false false []
  -- others hold the lock that the step asks for
  waits : IsFresh b advanced → IsBlocked l b advanced (is_granted c) → later ≡ b → d ≡ c →
      HasCommitted l b later c d advanced false true []
  -- it has gone on
  went : ((events : List Event) × Now l b (λ p m. Commits p b later advanced (is_granted c) events m)) →
      d ≡ counted c (leaves_choice_at (instruction_for l advanced)) →
      HasCommitted l b later c d advanced true false (named_by_step l b later advanced.frame.activation)

-- an operation was cancelled, where it could be
pub data IsCancel (l : Loaded) (b later : Situation) (serial : ℕ) : Bool → Bool → List Subject → Type 0 where
  -- it couldn't be
  disabled : IsDisabled l b (Cancel serial) → later ≡ b → IsCancel l b later serial false false []
  -- it was
  cancelled : HasMade l b later (Some (Cancel serial)) → IsCancel l b later serial true false (named_by l b later (Some (Cancel serial)))
