use Rattle.std.proofs.Common.{length}
use Rattle.flt_explain_runs.specs.Printing.{look_of}
use Rattle.flt_explain_outcomes.proofs.Notes.{all_notes}
use Rattle.flt_explain_runs.proofs.Reports.{as_many, found_is}
use Rattle.flt_explain_outcomes.proofs.Runs.{within_all}
use Rattle.flt_explain_runs.proofs.printing.Printer.found_body.Goals as goal

pub text_notes-requires : goal.text_notes-requires
text_notes-requires g c = record {
  within = rw c.as_slice.ensures (within_all (length c.args.known.found.now) c.in_ok-reported.reported.each
      c.in_ok-reported.ensures.firsts.within);
}

pub blocks-requires-clause-many : goal.blocks-requires-clause-many
blocks-requires-clause-many g c =
    as_many _ _ c.in_ok-reported.reported.traces c.in_ok-reported.reported.each c.in_ok-noted.noted.each c.in_ok-reported.ensures.are
    (rw c.as_slice.ensures at c.in_ok-noted.ensures).reported

pub blocks-requires-clause-setting : goal.blocks-requires-clause-setting
blocks-requires-clause-setting g c = rw c.in_ok-lines.ensures c.in_ok-noted.ensures.setting

pub returns-clause-print : goal.returns-clause-print
returns-clause-print g c =
    found_is (look_of c.args.self.now) _ _ c.args.known c.in_ok-lines.lines c.in_ok-reported.reported.traces
    c.in_ok-reported.reported.each c.in_ok-noted.noted.each c.in_ok-all.all.items c.in_ok-lines.ensures
    c.in_ok-reported.ensures.are (rw c.as_slice.ensures at c.in_ok-noted.ensures).reported c.in_ok-all.ensures

pub returns-clause-notes : goal.returns-clause-notes
returns-clause-notes g c =
    all_notes _ _ _ c.in_ok-reported.reported c.in_ok-noted.noted c.in_ok-reported.ensures.are c.in_ok-reported.ensures.firsts
    (rw c.as_slice.ensures at c.in_ok-noted.ensures)
