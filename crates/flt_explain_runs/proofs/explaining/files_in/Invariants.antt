use Rattle.std.proofs.Common.{◌≡◌, ◌++◌, drop}
use Rattle.flt_explain_outcomes.specs.Readings.{files_read}
use Rattle.flt_explain_runs.proofs.explaining.files_in.Given as goal

abbrev pub invariant-loop-studied : goal.invariant-loop-studied
invariant-loop-studied l = l.all.items ++ files_read (drop l.studied-index l.each) ≡ files_read l.each
