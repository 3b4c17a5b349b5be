-- What contracts see of seats. All of it is this project's own rule.
use Rattle.std.specs.Prelude.{◌≡◌, ℕ, List, ◌∷◌, ◌++◌, map}
use Rattle.std.specs.declared.alloc.Global.{Global}
use Rattle.crossbeam_deque.specs.Handles.{view, stealer_deque, worker_capacity, worker_deque, worker_view}
use Rattle.crossbeam_deque.specs.Injected.{injector_view, IsInjectorPassOf}
use Rattle.flt_model.specs.declared.subject.Subject.{Subject}
use Rattle.flt_pool.specs.Hands.{having_taken}
use Rattle.flt_pool.specs.declared.hand.Hand.{Hand}
use Rattle.flt_pool.specs.declared.pool.Pool.{Pool}
use Rattle.flt_pool.specs.declared.seats.PutSeat.{PutSeat}
use Rattle.flt_pool.specs.declared.seats.TakeSeat.{TakeSeat}
use Rattle.flt_pool.specs.declared.way.Way.{Way}

-- what went through a caller's seat, all of it to and from the injector
abbrev pub put_hand : PutSeat → Hand
put_hand seat = injector_view seat.pass

-- what went through a worker's seat to and from its own deque
abbrev pub own_hand : TakeSeat → Hand
own_hand seat = worker_view seat.deque.owner

-- what went by these ways, a hand a way
abbrev pub hands_of_ways : List Way → List Hand
hands_of_ways ways = map (λ (way : Way). view way.pass) ways

-- what went through a worker's seat elsewhere: to and from the injector, and from each other deque that it has a way to
abbrev pub other_hands : TakeSeat → List Hand
other_hands seat = injector_view seat.pass ∷ hands_of_ways seat.ways.items

-- what went through a worker's seat: its own deque, the injector and each other deque that it has a way to
abbrev pub hands : TakeSeat → List Hand
hands seat = own_hand seat ∷ other_hands seat

-- in one of these hands the ticket was taken, as the last one of it, and the others are as they were
abbrev pub IsTakenOf : Subject → List Hand → List Hand → Type 0
IsTakenOf ticket before after = (earlier later : List Hand) × (v : Hand)
    × (before ≡ earlier ++ v ∷ later) × (after ≡ earlier ++ having_taken ticket v ∷ later)

-- how many slots the seat's own deque has
abbrev pub slots : TakeSeat → ℕ
slots seat = worker_capacity seat.deque.owner

-- the seat is one that this pool gave
abbrev pub IsPutSeatOf : Pool → PutSeat → Type 0
IsPutSeatOf pool seat = IsInjectorPassOf pool.inlet seat.pass

abbrev pub IsTakeSeatOf : Pool → TakeSeat → Type 0
IsTakeSeatOf pool seat = IsInjectorPassOf pool.inlet seat.pass

-- what contracts name a deque by: two numbers, and where it takes its memory
abbrev pub DequeId : Type 0
DequeId = (ℕ × ℕ) × Global

-- the seat's own deque
abbrev pub deque_of : TakeSeat → DequeId
deque_of seat = worker_deque seat.deque.owner

-- the deques at the ends of these ways
abbrev pub reached : List Way → List DequeId
reached ways = map (λ (way : Way). stealer_deque way.thief) ways

-- the seat's ways lead to each of these deques but its own
abbrev pub ReachesOthers : List DequeId → TakeSeat → Type 0
ReachesOthers deques seat = (earlier later : List DequeId)
    × (deques ≡ earlier ++ deque_of seat ∷ later) × (reached seat.ways.items ≡ earlier ++ later)
