use Rattle.std.proofs.Common.{◌≡◌, ◌+◌, drop, false}
use Rattle.flt_joined.specs.Texts.{before_first}
use Rattle.flt_joined.proofs.beginning.before_first.Given as goal

abbrev pub invariant-loop-byte : goal.invariant-loop-byte
invariant-loop-byte l = record {
  value : before_first false l.text ≡ l.at + before_first l.in_remark (drop l.byte-index l.text);
  at : l.at ≡ l.byte-index;
}
