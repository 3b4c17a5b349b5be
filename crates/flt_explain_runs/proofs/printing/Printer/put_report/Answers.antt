use Rattle.std.proofs.Common.{◌∷◌, [], ◌∙◌, Global, Vec, ap, ℕ}
use Rattle.flt_explain_runs.specs.Printing.{look_of}
use Rattle.flt_explain_runs.proofs.Several.{report_more, rest_lines}
use Rattle.flt_explain_runs.proofs.printing.Printer.put_report.Goals as goal

pub returns-then-is_held-clause-added : goal.returns-then-is_held-clause-added
returns-then-is_held-clause-added g c =
    report_more (look_of c.args.self.now) _ _ c.args.studied.now (10 ∷ []) c.args.printed.now _ c.in_ok-report.report
    c.add.new.self.bytes.items c.in_ok-report.ensures c.in_ok-add.ensures.bytes c.in_ok-push.ensures.items c.in_ok-add.ensures.noted
    c.in_ok-add.ensures.total

pub returns-clause-added : goal.returns-clause-added
returns-clause-added g c =
    report_more (look_of c.args.self.now) _ _ c.args.studied.now (10 ∷ []) c.args.printed.now c.send.new.self c.in_ok-report.report
    c.add.new.self.bytes.items c.in_ok-report.ensures c.in_ok-add.ensures.bytes
    (ap (λ (b : Vec ℕ Global). b.items) c.send.ensures.bytes ∙ c.in_ok-push.ensures.items)
    (c.send.ensures.noted ∙ c.in_ok-add.ensures.noted) (c.send.ensures.total ∙ c.in_ok-add.ensures.total)

pub send-requires-clause-lines : goal.send-requires-clause-lines
send-requires-clause-lines g c =
    rest_lines c.args.printed.now.bytes.items _ _ _ _ c.in_ok-add.ensures.bytes c.in_ok-push.ensures.items
    (c.in_ok-add.ensures.sent ∙ c.requires.sent.all c.if-is_held.false)
