use Rattle.std.proofs.Common.{append_assoc}
use Rattle.flt_explain_runs.specs.Notices.{script_lines}
use Rattle.flt_explain_runs.proofs.notices.tell_script.Goals as goal

pub returns : goal.returns
unfolding script_lines
returns c = rw (c.in_ok-tell_altitude.ensures, c.in_ok-tell_well_formed.ensures, append_assoc, append_assoc) at c.tell_use.ensures
