use Rattle.std.proofs.Common.{◌≡◌, ◌++◌, drop, map}
use Rattle.flt_explain_hints.specs.Telling.{shown}
use Rattle.flt_explain_hints.proofs.telling.all_shown.Given as goal

abbrev pub invariant-loop-byte : goal.invariant-loop-byte
invariant-loop-byte l = l.out.items ++ map shown (drop l.byte-index l.bytes) ≡ l.fn.out.items ++ map shown l.bytes
