use Rattle.std.proofs.Common.{arith, rules}
use Rattle.flt_shown.proofs.Stretches.{one_printed}
use Rattle.flt_shown.proofs.shown.plain.Goals as goal

pub loop-byte-preserved : goal.loop-byte-preserved
loop-byte-preserved c = record {
  count = omega (arith, c.loop-byte.invariant.count, c.loop-byte-test.true);
  shown = one_printed c.args.bytes.now c.loop-byte.byte-index 0 (omega (arith, c.loop-byte-test.true))
      (search rules) c.loop-byte.invariant.shown;
}
