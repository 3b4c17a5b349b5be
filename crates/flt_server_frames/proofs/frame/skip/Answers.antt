use Rattle.std.proofs.Common.{rules}
use Rattle.flt_server_frames.proofs.Reading.{passed_more}
use Rattle.flt_server_frames.proofs.frame.skip.Goals as goal

pub loop-passed-preserved : goal.loop-passed-preserved
loop-passed-preserved g c = record {
  so_far = passed_more _ _ _ c.loop-passed.passed c.in_ok-n.n c.take.new.buffer c.loop-passed.invariant.so_far c.in_ok-n.ensures.bytes.0
      (search rules);
  few = search rules;
  fine = search rules;
}
