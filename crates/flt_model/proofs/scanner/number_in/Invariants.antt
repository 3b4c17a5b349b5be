use Rattle.std.proofs.Common.{◌≡◌, ◌≤◌, ◌-◌, ◌++◌, length, drop}
use Rattle.flt_model.specs.Streams.{Text}
use Rattle.flt_model.specs.JournalTextReading.{number, digits}
use Rattle.flt_model.proofs.scanner.number_in.Given as goal

abbrev pub invariant-loop-at : goal.invariant-loop-at
invariant-loop-at l = record {
  within : l.at ≤ length l.bytes;
  read : (left : Text) → number l.end (l.bytes ++ left) ≡ digits (10 - l.at) l.end l.number (drop l.at (l.bytes ++ left));
}
