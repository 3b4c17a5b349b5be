use Rattle.std.proofs.Common.{◌≡◌, ◌++◌, rules}
use Rattle.flt_explain_runs.specs.Warned.{warned_of}
use Rattle.flt_explain_runs.specs.Warnings.{no_report}
use Rattle.flt_explain_runs.proofs.ShownWarnings.{reports_more}
use Rattle.flt_explain_runs.proofs.warnings.shown_reports.Goals as goal

pub loop-detail-init : goal.loop-detail-init
loop-detail-init g c = rw c.new-out.ensures.items no_report

pub loop-detail-preserved : goal.loop-detail-preserved
loop-detail-preserved g c =
    let added : c.extend_from_slice.new.self.items ≡ c.loop-detail.out.items ++ c.in_ok-report.report.items = search rules in
    reports_more (warned_of c.args.text.now) c.args.details.now c.loop-detail.detail-index c.detail-item.result c.loop-detail.out.items
    c.in_ok-report.report.items c.extend_from_slice.new.self.items c.loop-detail-test.true c.detail-item.is c.loop-detail.invariant
    c.in_ok-report.ensures added
