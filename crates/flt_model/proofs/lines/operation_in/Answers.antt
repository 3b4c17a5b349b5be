use Rattle.std.proofs.Common.{sym, ap, length, ◌∙◌}
use Rattle.flt_model.proofs.OperationSteps.{operation_at_hand}
use Rattle.flt_model.proofs.lines.operation_in.Goals as goal

pub returns : goal.returns
returns c =
    operation_at_hand c.args.bytes.now c.in_ok-operation.operation (length c.name.result.now)
    (sym c.spelled.ensures ∙ c.in_ok-operation.was) (ap length c.name.ensures)
