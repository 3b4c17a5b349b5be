use Rattle.std.proofs.Common.{◌≡◌, ◌++◌, map, drop}
use Rattle.flt_c.specs.Runs.{lettered}
use Rattle.flt_c.proofs.letter.put_run.Given as goal

abbrev pub invariant-loop-byte : goal.invariant-loop-byte
invariant-loop-byte l = l.out.items ++ map (lettered l.part) (drop l.byte-index l.bytes)
    ≡ l.initial.out.items ++ map (lettered l.part) l.bytes
