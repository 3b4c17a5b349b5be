-- What a caller's call did to its seat. This project's own rule.
use Rattle.std.specs.Prelude.{◌≡◌, ◌≢◌, ◌+◌, Result, Err, OnOk, OnErr}
use Rattle.flt_stack_core.specs.declared.names.StackName.{Ghosts}
use Rattle.flt_stack_threads.specs.Places.{IsCallerOf, asked_by}
use Rattle.flt_stack_threads.specs.declared.exchange.Exchange.{Exchange}
use Rattle.flt_stack_threads.specs.declared.seats.CallerSeat.{CallerSeat}

-- a caller's call led from one seat to the other with this answer, where `full` is the fault for lack of room
pub record HasCalled {N A F : Type 0} {names : Ghosts N} (exchange : Exchange) (before after : CallerSeat N names) (full : F)
    (answer : Result A F) : Type 0 where
  -- the seat is still one of the stack, and nothing was requested through it
  pub seat : IsCallerOf exchange after.place
  pub requests : asked_by after.place ≡ asked_by before.place
  -- an entry counts in its share, unless the call was refused; then its receipts and its share stay as they were
  pub share : OnOk answer (after.receipts.share.amount ≡ before.receipts.share.amount + 1)
  pub parts : after.receipts.share.parts ≡ before.receipts.share.parts
  pub refused : OnErr answer ((after.receipts.list.items ≡ before.receipts.list.items)
      × (after.receipts.share.amount ≡ before.receipts.share.amount))
  -- a full journal counts as a refusal for lack of room, and nothing else does
  pub counted : answer ≡ Err full → after.fulls.amount ≡ before.fulls.amount + 1
  pub room : answer ≢ Err full → after.fulls.amount ≡ before.fulls.amount
  pub fulls_parts : after.fulls.parts ≡ before.fulls.parts
