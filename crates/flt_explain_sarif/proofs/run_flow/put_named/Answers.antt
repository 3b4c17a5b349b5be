use Rattle.std.proofs.Common.{arith, ◌∙◌}
use Rattle.flt_explain_parts.proofs.Counting.{all_counted, one_counted_more}
use Rattle.flt_explain_sarif.specs.RunFlow.{thread_of}
use Rattle.flt_explain_sarif.proofs.run_flow.put_named.Goals as goal

pub loop-number-preserved : goal.loop-number-preserved
loop-number-preserved c = record {
  before = c.in_ok-put_thread_of.ensures.ok.before ∙ c.loop-number.invariant.before;
  tokens =
      one_counted_more (thread_of c.args.files.now c.args.run.now) c.args.activations.now c.loop-number.number
      c.index-activations-number.result (omega (arith, c.loop-number-test.true)) c.index-activations-number.is _ _ _
      c.loop-number.invariant.tokens c.in_ok-put_thread_of.ensures.ok.tokens;
}

pub returns : goal.returns
returns c = record {
  ok = record {
    before = c.loop-number.invariant.before;
    tokens =
        all_counted (thread_of c.args.files.now c.args.run.now) c.args.activations.now c.loop-number.number _ _
        (omega (arith, c.loop-number-test.false)) c.loop-number.invariant.tokens;
  };
}
