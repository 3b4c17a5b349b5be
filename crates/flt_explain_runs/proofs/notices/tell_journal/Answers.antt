use Rattle.std.proofs.Common.{append_assoc}
use Rattle.flt_explain_runs.specs.Notices.{journal_lines}
use Rattle.flt_explain_runs.proofs.notices.tell_journal.Goals as goal

pub returns : goal.returns
unfolding journal_lines
returns c = rw (c.in_ok-tell_well_formed.ensures, append_assoc) at c.tell_use.ensures
