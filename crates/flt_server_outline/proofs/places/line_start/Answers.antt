use Rattle.std.proofs.Common.{◌∙◌, arith}
use Rattle.flt_server_outline.proofs.InLines.{at_end, passes}
use Rattle.flt_server_outline.proofs.places.line_start.Goals as goal

pub loop-byte-preserved : goal.loop-byte-preserved
loop-byte-preserved c = (
  omega (arith, c.loop-byte.invariant.0),
  rw c.left_after-left.ensures
      (passes c.args.text.now c.loop-byte.byte-index c.loop-byte.left c.loop-byte-test.true c.if-left-eq0.false ∙ c.loop-byte.invariant.1),
)

pub returns-clause-rest : goal.returns-clause-rest
returns-clause-rest c =
    rw c.loop-byte.invariant.0
    (at_end c.args.text.now _ c.loop-byte.byte-index c.loop-byte.left c.loop-byte-test.false c.loop-byte.invariant.1)
