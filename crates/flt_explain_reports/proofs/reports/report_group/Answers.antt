use Rattle.std.proofs.Common.{subst}
use Rattle.flt_explain_advice.specs.Words.{AreWords}
use Rattle.flt_explain_reports.proofs.reports.report_group.Goals as goal

pub returns : goal.returns
returns c = record {
  words = c.in_ok-words.words;
  worded = subst (λ shown. AreWords c.args.scene.now.files c.args.scene.now.lines.now c.args.scene.now.tree.now.filter
      c.args.scene.now.graph.now c.args.group.now.first.finding shown c.in_ok-words.words) c.shown.ensures c.in_ok-words.ensures;
  drawn = c.in_ok-lines.ensures;
}
