-- What a worker's call did to its seat. This project's own rule.
use Rattle.std.specs.Prelude.{◌≡◌, ◌≢◌, ◌≤◌, ◌+◌, ℕ, [], Result, Err, IfOk, OnOk}
use Rattle.flt_stack_core.specs.declared.names.StackName.{Ghosts}
use Rattle.flt_stack_core.specs.declared.turn_fault.TurnFault.{TurnFault}
use Rattle.flt_stack_core.specs.declared.turn_fault.TurnFault.TheVariants as fault
use Rattle.flt_stack_threads.specs.Waiting.{tickets}
use Rattle.flt_stack_threads.specs.declared.seats.WorkerSeat.{WorkerSeat}
use Rattle.flt_stack_threads.specs.Places.{IsWorkerOf}
use Rattle.flt_stack_threads.specs.declared.exchange.Exchange.{Exchange}

-- a worker's call led from one seat to the other with this answer, in which `made` counts the entries
pub record HasWorked {N A : Type 0} {names : Ghosts N} (exchange : Exchange) (before after : WorkerSeat N names) (made : A → ℕ)
    (answer : Result A TurnFault) : Type 0 where
  -- the seat is still one of the stack
  pub seat : IsWorkerOf exchange after.place
  -- if nothing was refused, no ticket waits, and the share of the entries grew by those that were made
  pub done : OnOk answer (tickets after.waiting ≡ [])
  pub share : IfOk answer (λ a. after.share.amount ≡ before.share.amount + made a)
  -- in any case it grew by some
  pub grown : before.share.amount ≤ after.share.amount
  pub parts : after.share.parts ≡ before.share.parts
  -- a full journal counts as a refusal for lack of room, and nothing else does
  pub full : answer ≡ Err fault.Full → after.fulls.amount ≡ before.fulls.amount + 1
  pub room : answer ≢ Err fault.Full → after.fulls.amount ≡ before.fulls.amount
  pub fulls_parts : after.fulls.parts ≡ before.fulls.parts
