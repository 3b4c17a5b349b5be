use Rattle.std.proofs.Common.{◌≡◌, ◌++◌, drop, take}
use Rattle.flt_c.specs.Locks.{is_other, plain, plain_from}
use Rattle.flt_c.proofs.lock.take_off.Given as goal

abbrev pub invariant-loop-byte : goal.invariant-loop-byte
invariant-loop-byte l =
    (l.other ≡ is_other l.line)
    × (take l.byte-index l.byte-items ++ plain_from l.line (drop l.byte-index l.byte-items) ≡ plain l.fn.text.items)
