use Rattle.std.proofs.Common.{◌≡◌, ◌++◌, map, take}
use Rattle.flt_explain_runs.specs.Lines.{shown}
use Rattle.flt_explain_runs.proofs.lines.put_name.Given as goal

abbrev pub invariant-loop-byte : goal.invariant-loop-byte
invariant-loop-byte l = l.out.items ≡ l.fn.out.items ++ map shown (take l.byte-index l.name)
