use Rattle.std.proofs.Common.{rules}
use Rattle.flt_model.proofs.WritingSteps.{more_taken}
use Rattle.flt_model.proofs.streams.put_all.Goals as goal

pub loop-at-preserved : goal.loop-at-preserved
loop-at-preserved g c = record {
  within = search rules;
  taken = more_taken _ _ _ c.loop-at.at c.in_ok-at.field-0 c.args.bytes.now c.loop-at.invariant.taken c.in_ok-at.ensures.ok;
  fine = search rules;
}
