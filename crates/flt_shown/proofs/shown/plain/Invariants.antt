use Rattle.std.proofs.Common.{◌≡◌, true}
use Rattle.flt_shown.specs.Shown.{IsStretch}
use Rattle.flt_shown.proofs.shown.plain.Given as goal

abbrev pub invariant-loop-byte : goal.invariant-loop-byte
invariant-loop-byte l = record {
  count : l.count ≡ l.byte-index;
  shown : IsStretch l.bytes l.byte-index true;
}
