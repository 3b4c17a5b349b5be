-- What a ticket's turn leaves where it is refused.
use Rattle.std.proofs.Common.{◌≡◌, List, [], ◌∷◌, inl, inr, subst, sym}
use Rattle.std.specs.Prelude.{◌⊎◌}
use Rattle.flt_model.specs.declared.subject.Subject.{Subject}
use Rattle.flt_pool.specs.Seats.{IsTakenOf}
use Rattle.flt_pool.specs.declared.hand.Hand.{Hand}
use Rattle.flt_stack_core.specs.declared.turn_fault.TurnFault.{TurnFault}
use Rattle.flt_stack_core.specs.declared.turn_fault.TurnFault.TheVariants as fault
use Rattle.flt_stack_threads.specs.Left.{AreUnpushed, Leaves}
use Rattle.flt_stack_threads.specs.Waiting.{tickets}
use Rattle.flt_stack_threads.specs.declared.requests.Requests.{Requests}
use Rattle.flt_stack_threads.specs.declared.waiting.Waiting.{Waiting}
use Rattle.flt_stack_threads.specs.Places.{hands_by}
use Rattle.flt_stack_threads.specs.declared.places.WorkerPlace.{WorkerPlace}

-- the ticket that was taken just before, or tickets that a push was refused
pub turn_leaves : (f : TurnFault) (ticket : Subject) (before : List Hand) (taken place : WorkerPlace) (waiting : Waiting)
    (requests : Requests) → IsTakenOf ticket before (hands_by taken)
    → ((tickets waiting ≡ ticket ∷ []) × (hands_by place ≡ hands_by taken))
    ⊎ ((f ≡ fault.OutOfMemory) × AreUnpushed place waiting)
    → Leaves f place waiting requests
turn_leaves f ticket before taken place waiting requests is (inl kept) =
    inl (ticket, kept.0, (before, subst (IsTakenOf ticket before) (sym kept.1) is))
turn_leaves f ticket before taken place waiting requests is (inr unpushed) = inr (inr unpushed)
