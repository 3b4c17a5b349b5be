use Rattle.std.specs.Prelude.{codes}
use Rattle.flt_emit.specs.Names.{instance}
use Rattle.flt_emit.proofs.Appending.{three_after_two}
use Rattle.flt_emit.proofs.expressions.generic.Goals as goal

pub returns : goal.returns
returns c =
    three_after_two _ _ _ _ _ (codes "QueueGeneric( ") (instance c.args.place) (codes ", Generic_") c.args.routine.now (codes ", ") _
    (rw c.instance.ensures at c.in_ok-texts.ensures) c.in_ok-texts-2.ensures (rw c.context_or_null.ensures at c.text.ensures)
