use Rattle.std.proofs.Common.{ap, arith, length, rules}
use Rattle.std.proofs.lemmas.Grind.{common_steps}
use Rattle.flt_commands_explain.proofs.sources.codes_in.Goals as goal

pub loop-file-init : goal.loop-file-init
loop-file-init c = record {
  same = search rules;
  room = omega (arith, c.requires.room, ap length c.requires.empty, ap length c.into_iter-file-iterator.ensures.into_iter_gives.0);
}

pub push_reserved-requires : goal.push_reserved-requires
push_reserved-requires c =
    omega (arith, c.loop-file.invariant.room, ap length c.in-Some.ensures.steps.0, c.loop-file.all.ok.0)

pub loop-file-preserved : goal.loop-file-preserved
loop-file-preserved c = record {
  same = grind (arith, common_steps);
  room =
      omega (
        arith,
        c.loop-file.invariant.room,
        ap length c.in-Some.ensures.steps.0,
        ap length c.push_reserved.ensures.items,
        c.push_reserved.ensures.capacity,
      );
}
