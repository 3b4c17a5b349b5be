use Rattle.std.proofs.Common.{◌≡◌, ◌≤◌, count_by, take}
use Rattle.flt_explain_sarif.specs.Fingerprints.{is_same}
use Rattle.flt_explain_sarif.proofs.fingerprints.times.Given as goal

-- how many of the keys so far are the same
abbrev pub invariant-loop-other : goal.invariant-loop-other
invariant-loop-other l = record {
  so_far : l.times ≡ count_by (is_same l.key) (take l.other-index l.before);
  within : l.times ≤ l.other-index;
}
