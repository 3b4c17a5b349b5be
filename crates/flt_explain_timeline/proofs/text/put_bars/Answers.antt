use Rattle.std.proofs.Common.{◌/◌, ◌∙◌, ap}
use Rattle.flt_explain_timeline.proofs.Texts.{bars_step, halves}
use Rattle.flt_explain_timeline.proofs.text.put_bars.Goals as goal

pub loop-column-preserved : goal.loop-column-preserved
loop-column-preserved c = record {
  written = bars_step c.args.alive c.loop-column._column c.loop-column.left _ _ _ c.bar.result.now c.loop-column.invariant.written
      c.loop-column.invariant.left c.bar.ensures c.in_ok-push_str.ensures.bytes;
  left = ap (λ n. n / 2) c.loop-column.invariant.left ∙ halves c.args.alive c.loop-column._column;
}
