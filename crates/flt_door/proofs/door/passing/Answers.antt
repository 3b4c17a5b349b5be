use Rattle.std.proofs.Common.{◌+◌, arith, true}
use Rattle.std.proofs.lemmas.List.{length-drop, take_rest}
use Rattle.flt_door.proofs.Fronts.{front_by, passing_on}
use Rattle.flt_door.proofs.door.passing.Goals as goal

pub loop-at-preserved : goal.loop-at-preserved
loop-at-preserved c =
    let within = rw (take_rest c.args.bytes.now c.loop-at.at) at c.piece-more.ensures.within in
    record {
      within = omega (arith, within, c.loop-at.invariant.within, length-drop c.loop-at.at c.args.bytes.now);
      front = passing_on c.args.bytes.now c.loop-at.at (c.piece-more.result.0 + 1) c.loop-at.invariant.front
          (front_by _ c.piece-more.result true (rw (take_rest c.args.bytes.now c.loop-at.at) at c.piece-more.ensures.value)
          c.if-passes.true);
    }
