use Rattle.std.proofs.Common.{append_assoc}
use Rattle.flt_explain_runs.specs.Notices.{certificate_lines}
use Rattle.flt_explain_runs.proofs.notices.tell_certificate.Goals as goal

pub returns : goal.returns
unfolding certificate_lines
returns c = rw (c.in_ok-tell_well_formed.ensures, append_assoc) at c.tell_use.ensures
