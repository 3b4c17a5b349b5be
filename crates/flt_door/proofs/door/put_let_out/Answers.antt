use Rattle.std.proofs.Common.{arith, ◌∙◌}
use Rattle.std.proofs.lemmas.List.{length-drop, take_rest}
use Rattle.flt_door.proofs.Fronts.{more_out}
use Rattle.flt_door.proofs.door.put_let_out.Goals as goal

pub loop-at-preserved : goal.loop-at-preserved
loop-at-preserved g c =
    let count = rw (take_rest c.args.bytes.now c.loop-at.at) at c.in_ok-at.ensures.count in
    record {
      within = omega (arith, count.1, c.loop-at.invariant.within, length-drop c.loop-at.at c.args.bytes.now);
      taken = more_out _ _ _ c.args.bytes.now c.loop-at.at c.in_ok-at.field-0 c.loop-at.invariant.taken
          (rw (take_rest c.args.bytes.now c.loop-at.at) at c.in_ok-at.ensures.ok);
      fine = c.in_ok-at.ensures.fine ∙ c.loop-at.invariant.fine;
    }
