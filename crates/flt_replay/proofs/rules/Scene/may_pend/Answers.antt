-- The call is known in its arm, and what `is_packet` says is said of each trace.
use Rattle.flt_replay.proofs.rules.Scene.may_pend.Goals as goal

pub returns-in-InsertIo : goal.returns-in-InsertIo
returns-in-InsertIo c t = rw c.in-InsertIo.is (c.is_packet.ensures t)

pub returns-in-QueueDeferredIoWorkItem : goal.returns-in-QueueDeferredIoWorkItem
returns-in-QueueDeferredIoWorkItem c t = rw c.in-QueueDeferredIoWorkItem.is (c.is_packet-in-QueueDeferredIoWorkItem.ensures t)
