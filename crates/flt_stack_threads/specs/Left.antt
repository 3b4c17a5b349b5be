-- What a call that was refused leaves in a worker's seat. This project's own rule.
use Rattle.std.specs.Prelude.{◌≡◌, ◌≢◌, ◌⊎◌, ◌≤◌, List, [], ◌∷◌, length}
use Rattle.flt_model.specs.declared.subject.Subject.{Subject}
use Rattle.flt_pool.specs.Seats.{IsTakenOf}
use Rattle.flt_pool.specs.declared.hand.Hand.{Hand}
use Rattle.flt_stack_core.specs.declared.turn_fault.TurnFault.{TurnFault}
use Rattle.flt_stack_core.specs.declared.turn_fault.TurnFault.TheVariants as fault
use Rattle.flt_stack_threads.specs.Waiting.{put_own, tickets}
use Rattle.flt_stack_threads.specs.declared.requests.Requests.{Requests}
use Rattle.flt_stack_threads.specs.declared.waiting.Waiting.{Waiting}
use Rattle.flt_stack_threads.specs.Places.{hands_by}
use Rattle.flt_stack_threads.specs.declared.places.WorkerPlace.{WorkerPlace}

-- some tickets wait, and 64 or more were pushed onto the place's own deque: a push is refused only then
abbrev pub AreUnpushed : WorkerPlace → Waiting → Type 0
AreUnpushed place waiting = (tickets waiting ≢ []) × (64 ≤ length (put_own place))

-- one ticket waits, which was taken through the place, the last one of the hand that took it
abbrev pub IsTaken : WorkerPlace → Waiting → Type 0
IsTaken place waiting = (ticket : Subject) × (tickets waiting ≡ ticket ∷ [])
    × ((before : List Hand) × IsTakenOf ticket before (hands_by place))

-- where a request can't be tried, it is left, and no ticket waits; or a push was refused
abbrev pub LeavesRequest : TurnFault → WorkerPlace → Waiting → Requests → Type 0
LeavesRequest f place waiting requests =
    ((requests.bits ≢ 0) × (tickets waiting ≡ [])) ⊎ ((f ≡ fault.OutOfMemory) × AreUnpushed place waiting)

-- where a ticket's move or a request is refused, it is left; or a push was refused
abbrev pub Leaves : TurnFault → WorkerPlace → Waiting → Requests → Type 0
Leaves f place waiting requests = IsTaken place waiting ⊎ LeavesRequest f place waiting requests
