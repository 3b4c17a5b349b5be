use Rattle.std.proofs.Common.{arith}
use Rattle.flt_places.proofs.Cuts.{last_line_more, one_line_more}
use Rattle.flt_places.proofs.split.lines_of.Goals as goal

pub loop-end-preserved : goal.loop-end-preserved
loop-end-preserved c = record {
  end = c.line_length-end-in-loop-end.ensures.value;
  within = c.line_length-end-in-loop-end.ensures.within;
  lines =
      one_line_more c.loop-end.lines.items c.push.new.self.items c.line_up_to.result c.loop-end.end c.loop-end.rest.now
      c.after_line-rest.result.now
      c.args.text.now c.loop-end.invariant.end c.loop-end-test.true c.line_up_to.ensures c.after_line-rest.ensures
      c.in_ok-push.ensures.items c.loop-end.invariant.lines;
}

pub returns : goal.returns
returns c =
    last_line_more c.loop-end.lines.items c.push-2.new.self.items c.loop-end.rest c.loop-end.end c.args.text.now c.loop-end.invariant.end
    (omega (arith, c.loop-end-test.false)) c.in_ok-push-2.ensures.items c.loop-end.invariant.lines
