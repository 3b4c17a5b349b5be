use Rattle.std.proofs.Common.{Err, rules, ◌≡◌, ◌-◌, ◌∷◌, [], length, take, refl, sym, subst, ap, ◌∙◌}
use Rattle.flt_explain_runs.specs.Printing.{ArePrinted, IsMore, look_of}
use Rattle.flt_explain_outcomes.specs.Readings.{sources_read}
use Rattle.flt_explain_runs.specs.Reported.{IsCut}
use Rattle.flt_explain_runs.specs.Told.{nothing}
use Rattle.flt_explain_runs.specs.Totals.{ending}
use Rattle.flt_explain_runs.specs.declared.fault.ExplainFault.TheVariants.{OutOfMemory}
use Rattle.flt_door.proofs.Lines.{shows_nothing}
use Rattle.flt_explain_runs.proofs.Several.{all_noted, all_print, all_reports, all_said, all_sent, cut_here}
use Rattle.flt_explain_runs.proofs.Several.{empty_notes, printed_more, printed_none, report_more, rest_out}
use Rattle.flt_explain_outcomes.proofs.Studied.{last_studied, one_taken, placed_here, studied_here}
use Rattle.flt_explain_runs.proofs.printing.Printer.put_all.Goals as goal

pub loop-studied-init : goal.loop-studied-init
loop-studied-init g c = record {
  printed = printed_none _ _ _ c.new-printed.result c.new-printed.ensures.bytes c.new-printed.ensures.noted c.new-printed.ensures.total;
  holds = record { none = λ h. c.new-printed.ensures.sent; all = λ h. rw (c.new-printed.ensures.sent, c.new-printed.ensures.bytes) refl };
  held = λ h. refl;
  out = λ h. rw c.new-printed.ensures.bytes (shows_nothing _);
  fine = refl;
}

pub put_report-requires-clause-text : goal.put_report-requires-clause-text
put_report-requires-clause-text g c =
    studied_here c.args.self.now.stage.trees.now c.args.each.now
    (length c.args.each.now - 1) c.loop-studied.studied-index c.studied-item.result
    c.requires.texts c.loop-studied-test.true c.studied-item.is

pub loop-studied-preserved : goal.loop-studied-preserved
loop-studied-preserved g c =
    let trees = c.args.self.now.stage.trees.now in
    let files = c.args.self.now.files.now in
    let look = look_of c.args.self.now in
    let n = length c.args.each.now - 1 in
    let before = take n c.args.each.now in
    let i = c.loop-studied.studied-index in
    let h = c.loop-studied-test.true in
    let s = c.studied-item.result in
    let is = c.studied-item.is in
    let old = c.loop-studied.printed in
    let new = c.put_report.new.printed in
    record {
      printed = subst (λ e. ArePrinted look trees files e new) (sym (one_taken before i s h is))
          (printed_more look trees files (take i before) s old new c.loop-studied.invariant.printed
          (studied_here trees c.args.each.now n i s c.requires.texts h is) (placed_here trees c.args.each.now n i s c.requires.texts h is)
          c.in_ok-put_report.ensures.added);
      holds = c.in_ok-put_report.ensures.sent;
      held = λ e. c.put_report.ensures.held e ∙ c.loop-studied.invariant.held e;
      out = λ e. rest_out look trees files s (10 ∷ []) old new _ _ _ c.in_ok-put_report.ensures.added
          (c.loop-studied.invariant.holds.all e) (c.loop-studied.invariant.out e) (c.in_ok-put_report.ensures.out e);
      fine = c.in_ok-put_report.ensures.fine ∙ c.loop-studied.invariant.fine;
    }

pub report-requires : goal.report-requires
report-requires g c = record {
  text = last_studied c.args.self.now.stage.trees.now c.args.each.now c.last-item.result
      c.requires.texts c.in-len1-up.len_at_least c.last-item.is;
}

-- ---- no text

pub returns-in_default-clause-notes : goal.returns-in_default-clause-notes
returns-in_default-clause-notes g c = empty_notes _ _ c.args.each.now _ c.in_default.len_below c.new.ensures.noted

pub returns-in_default-clause-said : goal.returns-in_default-clause-said
returns-in_default-clause-said g c = rw (c.new.ensures.bytes, c.new.ensures.noted) nothing

-- ---- memory is refused

pub returns-in_err-put_report-clause-memory : goal.returns-in_err-put_report-clause-memory
returns-in_err-put_report-clause-memory g c =
    let fails : c.from_residual.result ≡ Err c.in_err-put_report.field-0.0 = search rules in
    let search = c.args.self.now.stage.search in
    let options = c.args.self.now.options in
    let sources = sources_read c.args.each.now in
    rw fails (λ e. subst (λ o. IsCut options sources search (g.O.Sink.taken c.args.out.now) (g.O.Sink.taken o))
    (sym (c.in_err-put_report.ensures.memory e))
    (cut_here (look_of c.args.self.now) c.args.self.now.stage.trees.now c.args.self.now.files.now c.args.each.now
    (length c.args.each.now - 1) c.loop-studied.studied-index c.loop-studied.printed
    c.args.is_held (g.O.Sink.taken c.args.out.now) (g.O.Sink.taken c.loop-studied.out) c.requires.parsed c.loop-studied.invariant.printed
    (λ h. ap g.O.Sink.taken (c.loop-studied.invariant.held h)) c.loop-studied.invariant.out))

pub returns-in_err-report-clause-memory : goal.returns-in_err-report-clause-memory
returns-in_err-report-clause-memory g c =
    let fails : c.from_residual-in_err-report.result ≡ Err OutOfMemory = search rules in
    rw fails (λ e. cut_here (look_of c.args.self.now) c.args.self.now.stage.trees.now c.args.self.now.files.now c.args.each.now
    (length c.args.each.now - 1) c.loop-studied.studied-index c.loop-studied.printed
    c.args.is_held (g.O.Sink.taken c.args.out.now) (g.O.Sink.taken c.loop-studied.out) c.requires.parsed c.loop-studied.invariant.printed
    (λ h. ap g.O.Sink.taken (c.loop-studied.invariant.held h)) c.loop-studied.invariant.out)

pub returns-in_err-add-clause-memory : goal.returns-in_err-add-clause-memory
returns-in_err-add-clause-memory g c =
    let fails : c.from_residual-in_err-add.result ≡ Err OutOfMemory = search rules in
    rw fails (λ e. cut_here (look_of c.args.self.now) c.args.self.now.stage.trees.now c.args.self.now.files.now c.args.each.now
    (length c.args.each.now - 1) c.loop-studied.studied-index c.loop-studied.printed
    c.args.is_held (g.O.Sink.taken c.args.out.now) (g.O.Sink.taken c.loop-studied.out) c.requires.parsed c.loop-studied.invariant.printed
    (λ h. ap g.O.Sink.taken (c.loop-studied.invariant.held h)) c.loop-studied.invariant.out)

pub returns-in_err-end-clause-memory : goal.returns-in_err-end-clause-memory
returns-in_err-end-clause-memory g c =
    let fails : c.from_residual-in_err-end.result ≡ Err OutOfMemory = search rules in
    rw fails (λ e. cut_here (look_of c.args.self.now) c.args.self.now.stage.trees.now c.args.self.now.files.now c.args.each.now
    (length c.args.each.now - 1) c.loop-studied.studied-index c.loop-studied.printed
    c.args.is_held (g.O.Sink.taken c.args.out.now) (g.O.Sink.taken c.loop-studied.out) c.requires.parsed c.loop-studied.invariant.printed
    (λ h. ap g.O.Sink.taken (c.loop-studied.invariant.held h)) c.loop-studied.invariant.out)

-- ---- all texts

pub returns-clause-reports : goal.returns-clause-reports
returns-clause-reports g c =
    let more : IsMore (look_of c.args.self.now) c.args.self.now.stage.trees.now c.args.self.now.files.now c.last-item.result
    (ending c.end.new.self.total.findings c.end.new.self.total.files (length c.args.each.now)) c.loop-studied.printed c.end.new.self =
    report_more (look_of c.args.self.now) _ _ c.last-item.result
    (ending c.end.new.self.total.findings c.end.new.self.total.files (length c.args.each.now)) c.loop-studied.printed c.end.new.self
    c.in_ok-report.report c.add.new.self.bytes.items c.in_ok-report.ensures c.in_ok-add.ensures.bytes
    (rw c.end.ensures.total c.in_ok-end.ensures.bytes) (c.end.ensures.noted ∙ c.in_ok-add.ensures.noted)
    (c.end.ensures.total ∙ c.in_ok-add.ensures.total) in
    all_reports (look_of c.args.self.now) c.args.self.now.stage.trees.now c.args.self.now.files.now
    c.args.each.now c.loop-studied.studied-index
    c.last-item.result c.loop-studied.printed c.end.new.self c.in-len1-up.len_at_least c.last-item.is c.requires.texts
    c.loop-studied-test.false c.loop-studied.invariant.printed more

pub returns-clause-notes : goal.returns-clause-notes
returns-clause-notes g c =
    let more : IsMore (look_of c.args.self.now) c.args.self.now.stage.trees.now c.args.self.now.files.now c.last-item.result
    (ending c.end.new.self.total.findings c.end.new.self.total.files (length c.args.each.now)) c.loop-studied.printed c.end.new.self =
    report_more (look_of c.args.self.now) _ _ c.last-item.result
    (ending c.end.new.self.total.findings c.end.new.self.total.files (length c.args.each.now)) c.loop-studied.printed c.end.new.self
    c.in_ok-report.report c.add.new.self.bytes.items c.in_ok-report.ensures c.in_ok-add.ensures.bytes
    (rw c.end.ensures.total c.in_ok-end.ensures.bytes) (c.end.ensures.noted ∙ c.in_ok-add.ensures.noted)
    (c.end.ensures.total ∙ c.in_ok-add.ensures.total) in
    all_noted (look_of c.args.self.now) c.args.self.now.stage.trees.now c.args.self.now.files.now
    c.args.each.now c.loop-studied.studied-index
    c.last-item.result c.loop-studied.printed c.end.new.self c.in-len1-up.len_at_least c.last-item.is c.requires.texts
    c.loop-studied-test.false c.loop-studied.invariant.printed more

pub returns-clause-said : goal.returns-clause-said
returns-clause-said g c =
    let more : IsMore (look_of c.args.self.now) c.args.self.now.stage.trees.now c.args.self.now.files.now c.last-item.result
    (ending c.end.new.self.total.findings c.end.new.self.total.files (length c.args.each.now)) c.loop-studied.printed c.end.new.self =
    report_more (look_of c.args.self.now) _ _ c.last-item.result
    (ending c.end.new.self.total.findings c.end.new.self.total.files (length c.args.each.now)) c.loop-studied.printed c.end.new.self
    c.in_ok-report.report c.add.new.self.bytes.items c.in_ok-report.ensures c.in_ok-add.ensures.bytes
    (rw c.end.ensures.total c.in_ok-end.ensures.bytes) (c.end.ensures.noted ∙ c.in_ok-add.ensures.noted)
    (c.end.ensures.total ∙ c.in_ok-add.ensures.total) in
    all_said (look_of c.args.self.now) c.args.self.now.stage.trees.now c.args.self.now.files.now
    c.args.each.now c.loop-studied.studied-index
    c.last-item.result c.loop-studied.printed c.end.new.self c.in-len1-up.len_at_least c.last-item.is c.requires.texts
    c.loop-studied-test.false c.loop-studied.invariant.printed more

pub returns-clause-print : goal.returns-clause-print
returns-clause-print g c =
    let more : IsMore (look_of c.args.self.now) c.args.self.now.stage.trees.now c.args.self.now.files.now c.last-item.result
    (ending c.end.new.self.total.findings c.end.new.self.total.files (length c.args.each.now)) c.loop-studied.printed c.end.new.self =
    report_more (look_of c.args.self.now) _ _ c.last-item.result
    (ending c.end.new.self.total.findings c.end.new.self.total.files (length c.args.each.now)) c.loop-studied.printed c.end.new.self
    c.in_ok-report.report c.add.new.self.bytes.items c.in_ok-report.ensures c.in_ok-add.ensures.bytes
    (rw c.end.ensures.total c.in_ok-end.ensures.bytes) (c.end.ensures.noted ∙ c.in_ok-add.ensures.noted)
    (c.end.ensures.total ∙ c.in_ok-add.ensures.total) in
    all_print (look_of c.args.self.now) c.args.self.now.stage.trees.now c.args.self.now.files.now
    c.args.each.now c.loop-studied.studied-index
    c.last-item.result c.loop-studied.printed c.end.new.self c.in-len1-up.len_at_least c.last-item.is c.requires.texts
    c.loop-studied-test.false c.loop-studied.invariant.printed more

pub returns-clause-sent : goal.returns-clause-sent
returns-clause-sent g c =
    let more : IsMore (look_of c.args.self.now) c.args.self.now.stage.trees.now c.args.self.now.files.now c.last-item.result
    (ending c.end.new.self.total.findings c.end.new.self.total.files (length c.args.each.now)) c.loop-studied.printed c.end.new.self =
    report_more (look_of c.args.self.now) _ _ c.last-item.result
    (ending c.end.new.self.total.findings c.end.new.self.total.files (length c.args.each.now)) c.loop-studied.printed c.end.new.self
    c.in_ok-report.report c.add.new.self.bytes.items c.in_ok-report.ensures c.in_ok-add.ensures.bytes
    (rw c.end.ensures.total c.in_ok-end.ensures.bytes) (c.end.ensures.noted ∙ c.in_ok-add.ensures.noted)
    (c.end.ensures.total ∙ c.in_ok-add.ensures.total) in
    all_sent (look_of c.args.self.now) c.args.self.now.stage.trees.now c.args.self.now.files.now
    c.args.each.now c.loop-studied.studied-index
    c.last-item.result c.loop-studied.printed c.end.new.self c.in-len1-up.len_at_least c.last-item.is c.requires.texts
    c.loop-studied-test.false c.loop-studied.invariant.printed more
    c.args.is_held _ _ c.requires.parsed (c.end.ensures.sent ∙ c.in_ok-add.ensures.sent) c.loop-studied.invariant.holds
    (λ h. ap g.O.Sink.taken (c.loop-studied.invariant.held h)) c.loop-studied.invariant.out
