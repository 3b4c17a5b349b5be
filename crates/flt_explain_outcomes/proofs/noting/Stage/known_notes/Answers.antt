use Rattle.std.proofs.Common.{length}
use Rattle.flt_explain_outcomes.proofs.Notes.{all_notes, no_notes, none_found}
use Rattle.flt_explain_outcomes.proofs.Runs.{within_all}
use Rattle.flt_explain_outcomes.proofs.noting.Stage.known_notes.Goals as goal

pub text_notes-requires : goal.text_notes-requires
text_notes-requires g c = record {
  within = rw c.as_slice.ensures (within_all (length c.args.known.found.now) c.in_ok-reported.reported.each
      c.in_ok-reported.ensures.firsts.within);
}

pub returns-in_default : goal.returns-in_default
returns-in_default g c = no_notes _ _ _ _ (none_found c.args.known.found.now c.in_default.len_below) c.new.ensures

pub returns : goal.returns
returns g c =
    all_notes _ _ _ c.in_ok-reported.reported c.in_ok-noted.noted c.in_ok-reported.ensures.are c.in_ok-reported.ensures.firsts
    (rw c.as_slice.ensures at c.in_ok-noted.ensures)
