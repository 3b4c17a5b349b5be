use Rattle.flt_joined.proofs.Adding.{all_joined, one_more_joined}
use Rattle.flt_joined.proofs.joined.join.Goals as goal

pub loop-first-preserved : goal.loop-first-preserved
loop-first-preserved c = record {
  within = c.end_of-end.ensures.within;
  joined = one_more_joined c.args.files.now c.loop-first.first c.end_of-end.result c.loop-first.joined c.add.new.self
      c.loop-first.invariant.joined
      c.end_of-end.ensures.group c.in_ok-add.ensures;
}
