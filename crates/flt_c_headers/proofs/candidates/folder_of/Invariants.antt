use Rattle.std.proofs.Common.{◌≡◌, ◌≤◌, length, take}
use Rattle.flt_c_headers.specs.Candidates.{folder_of}
use Rattle.flt_c_headers.proofs.candidates.folder_of.Given as goal

abbrev pub invariant-loop-length : goal.invariant-loop-length
invariant-loop-length l = record {
  within : l.length ≤ length l.name;
  same : folder_of (take l.length l.name) ≡ folder_of l.name;
}

abbrev pub decreases-loop-length : goal.decreases-loop-length
decreases-loop-length l = l.length
