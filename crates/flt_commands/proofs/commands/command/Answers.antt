use Rattle.flt_commands.proofs.SentFor.{all_shown_of, quiet_out, rest_sent}
use Rattle.flt_words.specs.Request.{asked_of}
use Rattle.flt_commands.proofs.commands.command.Goals as goal

pub returns-clause-answers : goal.returns-clause-answers
returns-clause-answers g c = (
  c.in_ok-report.report,
  c.in_ok-report.ensures.answers,
  rw c.gives_bytes-is_own.ensures at c.let_out.ensures.out,
)

pub returns-clause-shown : goal.returns-clause-shown
returns-clause-shown g c =
    all_shown_of c.all_that_goes_out_is_shown.ensures (asked_of c.args.request) c.in_ok-report.report c.let_out.new.self
    (rw c.gives_bytes-is_own.ensures at c.let_out.ensures.out)

pub returns-clause-prints : goal.returns-clause-prints
returns-clause-prints g c =
    rest_sent g.O.Sink.taken c.args.out.now c.report_of.new.out c.write_report.new.out (asked_of c.args.request)
    c.in_ok-report.report c.let_out.new.self c.report_of.ensures.held c.in_ok-report.ensures.sent
    (rw c.gives_bytes-is_own.ensures at c.let_out.ensures.out) c.let_out.ensures.sent
    c.in_ok-write_report.ensures.prints

pub returns-clause-quiet : goal.returns-clause-quiet
returns-clause-quiet g c =
    λ good none. c.in_ok-write_report.ensures.quiet
    (quiet_out _ c.in_ok-report.report c.let_out.new.self c.let_out.ensures.out
    (c.in_ok-report.ensures.quiet (rw c.let_out.ensures.out.status at good) none))
