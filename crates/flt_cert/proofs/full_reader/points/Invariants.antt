use Rattle.std.proofs.Common.{◌≡◌, ◌-◌, [], length}
use Rattle.flt_cert.specs.Reading.{points_from}
use Rattle.flt_cert.proofs.full_reader.points.Given as goal

abbrev pub invariant-loop-number : goal.invariant-loop-number
invariant-loop-number l = record {
  count : length l.found.items ≡ l.number;
  read : points_from (l.count - l.number) l.found.items l.lines ≡ points_from l.count [] l.initial.lines;
}
