use Rattle.std.specs.Prelude.{codes}
use Rattle.flt_emit.specs.Callbacks.{declared_number}
use Rattle.flt_emit.specs.Names.{number_name}
use Rattle.flt_emit.proofs.Appending.{after_three}
use Rattle.flt_emit.proofs.callbacks.declared_number.Goals as goal

pub returns : goal.returns
unfolding declared_number
returns c =
    after_three _ _ _ _ (codes "    ULONG64 ") (number_name c.args.n) (codes " = 0;\n") _
    (rw c.number_name.ensures at c.in_ok-texts.ensures) c.unread.ensures
