use Rattle.flt_replay_steps.proofs.Boards.{whatever_trace}
use Rattle.flt_replay_steps.proofs.board.fallible_step.Goals as goal

pub returns-in-QueueDeferredIoWorkItem : goal.returns-in-QueueDeferredIoWorkItem
returns-in-QueueDeferredIoWorkItem c =
    rw c.in-QueueDeferredIoWorkItem.is (whatever_trace _ _ (rw c.number_of-number.ensures at c.queue_deferred.ensures))

pub returns-in-QueueGenericWorkItem : goal.returns-in-QueueGenericWorkItem
returns-in-QueueGenericWorkItem c =
    rw c.in-QueueGenericWorkItem.is (whatever_trace _ _ (rw c.number_of-number-in-QueueGenericWorkItem.ensures at c.queue_generic.ensures))
