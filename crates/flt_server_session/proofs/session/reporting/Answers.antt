use Rattle.flt_server_session.proofs.Answering.{reported}
use Rattle.flt_server_session.proofs.session.reporting.Goals as goal

pub returns-clause-report : goal.returns-clause-report
returns-clause-report g c =
    reported g.R.Reporter.reports (record { id = c.args.id.now; uri = c.args.uri.now; text = c.args.document.now.text })
    c.in_ok-report.report.items c.showing.result c.in_ok-report.ensures (rw c.as_slice.ensures.value at c.showing.ensures.text)
