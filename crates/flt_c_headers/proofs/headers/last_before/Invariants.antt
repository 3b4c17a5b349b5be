use Rattle.std.proofs.Common.{◌≡◌, ◌≤◌, length, map, take}
use Rattle.flt_c_headers.specs.Reading.{header_at}
use Rattle.flt_c_headers.specs.World.{file_of}
use Rattle.flt_c_headers.proofs.headers.last_before.Given as goal

abbrev pub invariant-loop-number : goal.invariant-loop-number
invariant-loop-number l = record {
  within : l.number ≤ length l.files;
  same : header_at (map file_of (take l.number l.files)) l.place ≡ header_at (map file_of l.files) l.place;
}

abbrev pub decreases-loop-number : goal.decreases-loop-number
decreases-loop-number l = l.number
