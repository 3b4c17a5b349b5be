use Rattle.std.proofs.Common.{arith}
use Rattle.flt_cert.proofs.FillLaws.{filled_more}
use Rattle.flt_cert.proofs.fields.fill.Goals as goal

pub loop-index-preserved : goal.loop-index-preserved
loop-index-preserved c =
    rw c.from_low_bits.ensures
    (filled_more c.loop-index.known c.is_set-known.result c.loop-index.sets c.args.digits.now c.loop-index.index (omega arith) (omega arith)
    c.is_set-known.ensures c.loop-index.invariant)
