use Rattle.std.proofs.Common.{◌≡◌, ◌+◌, ◌++◌, drop, take}
use Rattle.std.specs.Prelude.{replicate}
use Rattle.flt_door.proofs.door.hide.Given as goal

abbrev pub invariant-loop-offset : goal.invariant-loop-offset
invariant-loop-offset l =
    l.bytes ≡ (take l.at l.fn.bytes ++ replicate l.offset l.sign) ++ drop (l.at + l.offset) l.fn.bytes
