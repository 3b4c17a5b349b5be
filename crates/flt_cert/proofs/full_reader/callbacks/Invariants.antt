use Rattle.std.proofs.Common.{◌≡◌, ◌-◌, [], length}
use Rattle.flt_cert.specs.Reading.{callbacks_from}
use Rattle.flt_cert.proofs.full_reader.callbacks.Given as goal

abbrev pub invariant-loop-number : goal.invariant-loop-number
invariant-loop-number l = record {
  count : length l.found ≡ l.number;
  read : callbacks_from (16 - l.number) l.found l.lines ≡ callbacks_from 16 [] l.initial.lines;
}
