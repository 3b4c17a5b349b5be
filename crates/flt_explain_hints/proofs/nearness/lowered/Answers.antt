use Rattle.std.proofs.Common.{arith}
use Rattle.flt_explain_hints.proofs.Letters.{all_lowered}
use Rattle.flt_explain_hints.proofs.nearness.lowered.Goals as goal

pub returns : goal.returns
returns c = all_lowered c.loop-byte.text c.args.word.now c.loop-byte.byte-index
    (omega (arith, c.loop-byte-test.false)) c.loop-byte.invariant
