use Rattle.std.specs.Prelude.{codes}
use Rattle.flt_emit.proofs.Appending.{after_three}
use Rattle.flt_emit.proofs.expressions.deferred.Goals as goal

pub returns : goal.returns
returns c =
    after_three _ _ _ _ (codes "QueueDeferredIo( Data, Deferred_") c.args.routine.now (codes ", ") _ c.in_ok-texts.ensures
    (rw c.context_or_null.ensures at c.text.ensures)
