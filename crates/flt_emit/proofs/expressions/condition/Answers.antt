use Rattle.std.specs.Prelude.{codes}
use Rattle.flt_emit.specs.Expressions.{negation}
use Rattle.flt_emit.proofs.Appending.{after_two}
use Rattle.flt_emit.proofs.expressions.condition.Goals as goal

pub returns-in_ok-fallible_call-in-Succeeds : goal.returns-in_ok-fallible_call-in-Succeeds
returns-in_ok-fallible_call-in-Succeeds c =
    rw c.in-Succeeds.is
    (after_two _ _ _ _ _ (negation c.args.turned) (codes "NT_SUCCESS( ") _ _ (rw c.negation.ensures at c.in_ok-texts-in-Succeeds.ensures)
    c.in_ok-fallible_call-in-Succeeds.ensures c.text.ensures)
