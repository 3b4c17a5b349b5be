-- What contracts see of a place. All of it is this project's own rule.
use Rattle.std.specs.Prelude.{◌≡◌, List}
use Rattle.flt_cancel.specs.Seats as requests
use Rattle.flt_cancel.specs.Seats.{IsSeatOf}
use Rattle.flt_cancel.specs.Steps as steps
use Rattle.flt_cancel.specs.declared.pads.Pads.{Pads}
use Rattle.flt_cancel.specs.declared.seat.Seat.{Seat}
use Rattle.flt_cancel.specs.declared.seat.View.{View}
use Rattle.flt_pool.specs.Hands.{AreNewcomers, newcomer}
use Rattle.flt_pool.specs.Seats.{DequeId, IsPutSeatOf, IsTakeSeatOf, ReachesOthers, deque_of, hands, put_hand, reached}
use Rattle.flt_pool.specs.declared.hand.Hand.{Hand}
use Rattle.flt_pool.specs.declared.seats.PutSeat.{PutSeat}
use Rattle.flt_pool.specs.declared.seats.TakeSeat.{TakeSeat}
use Rattle.flt_stack_threads.specs.declared.exchange.Exchange.{Exchange}
use Rattle.flt_stack_threads.specs.declared.places.CallerPlace.{CallerPlace}
use Rattle.flt_stack_threads.specs.declared.places.WorkerPlace.{WorkerPlace}

-- the seat is one that these pads gave, and nothing was asked or collected through it
abbrev pub IsFreshSeat : Pads → Seat → Type 0
IsFreshSeat pads seat = IsSeatOf pads seat × (requests.view seat ≡ steps.newcomer)

-- ---- callers

-- what a caller's place has of the tickets
abbrev pub caller_tickets : CallerPlace → PutSeat
caller_tickets place = place.tickets

-- the place is one that this exchange gave
abbrev pub IsCallerOf : Exchange → CallerPlace → Type 0
IsCallerOf exchange place = IsPutSeatOf exchange.pool place.tickets × IsSeatOf exchange.pads place.requests

-- the tickets that were put through a caller's place
abbrev pub put_by : CallerPlace → Hand
put_by place = put_hand place.tickets

-- the requests that were made through a caller's place
abbrev pub asked_by : CallerPlace → View
asked_by place = requests.view place.requests

-- the marks that were set through a caller's place
abbrev pub marked_by : CallerPlace → View
marked_by place = requests.marks place.requests

-- nothing went through a caller's place
abbrev pub IsFreshCaller : CallerPlace → Type 0
IsFreshCaller place = (put_by place ≡ newcomer) × (asked_by place ≡ steps.newcomer)

-- ---- workers

-- what a worker's place has of the tickets
abbrev pub worker_tickets : WorkerPlace → TakeSeat
worker_tickets place = place.tickets

-- the place is one that this exchange gave
abbrev pub IsWorkerOf : Exchange → WorkerPlace → Type 0
IsWorkerOf exchange place = IsTakeSeatOf exchange.pool place.tickets × IsSeatOf exchange.pads place.requests

-- the tickets that went through a worker's place: its own deque, the injector and each other deque that it has a way to
abbrev pub hands_by : WorkerPlace → List Hand
hands_by place = hands place.tickets

-- the requests that were collected through a worker's place
abbrev pub collected_by : WorkerPlace → View
collected_by place = requests.view place.requests

-- the marks that were taken and set again through a worker's place
abbrev pub marks_by : WorkerPlace → View
marks_by place = requests.marks place.requests

-- nothing went through a worker's place
abbrev pub IsFreshWorker : WorkerPlace → Type 0
IsFreshWorker place = AreNewcomers (hands_by place) × (collected_by place ≡ steps.newcomer)

-- the place's own deque
abbrev pub own_deque : WorkerPlace → DequeId
own_deque place = deque_of place.tickets

-- the deques that the place has a way to
abbrev pub other_deques : WorkerPlace → List DequeId
other_deques place = reached place.tickets.ways.items

-- the place's ways lead to each of these deques but its own
abbrev pub LeadsToOthers : List DequeId → WorkerPlace → Type 0
LeadsToOthers deques place = ReachesOthers deques place.tickets
