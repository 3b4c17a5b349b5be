-- What a worker still has to push. This project's own rule.
use Rattle.std.specs.Prelude.{Bool, List, [], ◌∷◌, ◌++◌, drop, if◌then◌else◌, Option, Some, None}
use Rattle.flt_model.specs.declared.subject.Subject.{Subject}
use Rattle.flt_pool.specs.Seats.{own_hand}
use Rattle.flt_stack_threads.specs.declared.waiting.Waiting.{Waiting}
use Rattle.flt_stack_threads.specs.declared.places.WorkerPlace.{WorkerPlace}

-- a ticket, where there is one
abbrev pub listed : Option Subject → List Subject
listed None = []
listed (Some ticket) = ticket ∷ []

-- the ticket of a turn, where it stays
abbrev pub remaining : Bool → Subject → List Subject
remaining stays ticket = if stays then ticket ∷ [] else []

-- the tickets that wait, in the order in which they are pushed
abbrev pub tickets : Waiting → List Subject
tickets waiting = drop waiting.pushed waiting.named.items ++ listed waiting.own

-- what was put into the place's own deque
abbrev pub put_own : WorkerPlace → List Subject
put_own place = (own_hand place.tickets).put
