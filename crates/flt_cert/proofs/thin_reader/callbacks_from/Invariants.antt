use Rattle.std.proofs.Common.{◌≡◌, ◌-◌, [], length}
use Rattle.flt_cert.specs.ThinReading.{thin_callbacks_from}
use Rattle.flt_cert.proofs.thin_reader.callbacks_from.Given as goal

abbrev pub invariant-loop-number : goal.invariant-loop-number
invariant-loop-number l = record {
  count : length l.found ≡ l.number;
  read : thin_callbacks_from (16 - l.number) l.found l.line l.lines ≡ thin_callbacks_from 16 [] l.first l.initial.lines;
}
