use Rattle.std.proofs.Common.{arith}
use Rattle.flt_door.proofs.Fronts.{one_signed}
use Rattle.flt_door.proofs.door.hide.Goals as goal

pub loop-offset-preserved : goal.loop-offset-preserved
loop-offset-preserved c =
    one_signed c.args.bytes.now c.loop-offset.bytes c.args.at c.loop-offset.offset c.args.sign
    (omega (arith, c.requires, c.loop-offset-test.true)) c.loop-offset.invariant
