use Rattle.std.proofs.Common.{rules}
use Rattle.flt_explain.proofs.Clearing.{at_start}
use Rattle.flt_explain.proofs.Gathering.{none_by_point, opened_wide}
use Rattle.flt_explain.proofs.walk.walk_callback.Goals as goal

pub loop-look-init : goal.loop-look-init
loop-look-init c = record {
  found = search rules;
  clear = at_start c.in_ok-walk.walk.pending;
  wide = opened_wide c.args.graph.now c.args.callback c.points.result c.in_ok-walk.walk c.in_ok-by_point.by_point.lists c.in_ok-walk.ensures
      c.points.ensures c.in_ok-by_point.ensures;
  by_point = none_by_point c.args.callback c.points.result c.in_ok-by_point.by_point.lists
      c.args.findings.now c.in_ok-by_point.ensures c.requires;
}
