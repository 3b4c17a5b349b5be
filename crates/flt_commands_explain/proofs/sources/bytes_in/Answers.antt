use Rattle.std.proofs.Common.{ap, arith, length, rules}
use Rattle.std.proofs.lemmas.Grind.{common_steps}
use Rattle.flt_commands_explain.proofs.sources.bytes_in.Goals as goal

pub loop-joined-init : goal.loop-joined-init
loop-joined-init c = record {
  same = search rules;
  room = omega (arith, c.requires.room, ap length c.requires.empty, ap length c.into_iter-joined-iterator.ensures.into_iter_gives.0);
}

pub push_reserved-requires : goal.push_reserved-requires
push_reserved-requires c =
    omega (arith, c.loop-joined.invariant.room, ap length c.in-Some.ensures.steps.0, c.loop-joined.all.ok.0)

pub loop-joined-preserved : goal.loop-joined-preserved
loop-joined-preserved c = record {
  same = grind (arith, common_steps);
  room =
      omega (
        arith,
        c.loop-joined.invariant.room,
        ap length c.in-Some.ensures.steps.0,
        ap length c.push_reserved.ensures.items,
        c.push_reserved.ensures.capacity,
      );
}
