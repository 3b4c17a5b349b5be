use Rattle.std.proofs.Common.{refl}
use Rattle.flt_explain_runs.specs.Printing.{look_of}
use Rattle.flt_explain_outcomes.proofs.Notes.{no_notes, none_found}
use Rattle.flt_explain_runs.proofs.Reports.{body_none, body_some}
use Rattle.flt_explain_runs.proofs.printing.Printer.body.Goals as goal

pub returns-in_ok-promise_and_warnings-in-empty-clause-print : goal.returns-in_ok-promise_and_warnings-in-empty-clause-print
returns-in_ok-promise_and_warnings-in-empty-clause-print g c =
    body_none (look_of c.args.self.now) c.args.self.now.stage.trees.now c.args.self.now.files.now c.args.known c.args.details.now
    c.in_ok-promise_and_warnings-in-empty.field-0.items c.in-empty.len_below c.in_ok-promise_and_warnings-in-empty.ensures

pub returns-in_ok-promise_and_warnings-in-empty-clause-notes : goal.returns-in_ok-promise_and_warnings-in-empty-clause-notes
returns-in_ok-promise_and_warnings-in-empty-clause-notes g c =
    no_notes c.args.self.now.stage.search.is_stack c.args.self.now.stage.trees.now c.args.known _ (none_found c.args.known.found.now
    c.in-empty.len_below) refl

pub returns-in-len1-up-clause-print : goal.returns-in-len1-up-clause-print
returns-in-len1-up-clause-print g c =
    body_some (look_of c.args.self.now) c.args.self.now.stage.trees.now c.args.self.now.files.now c.args.known c.args.details.now
    c.found_body.result c.in-len1-up.len_at_least c.found_body.ensures.print
