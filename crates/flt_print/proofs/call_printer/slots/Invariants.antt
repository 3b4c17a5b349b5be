use Rattle.std.proofs.Common.{◌≡◌, ◌++◌, length, map}
use Rattle.flt_print.specs.CallWords.{slot_word}
use Rattle.flt_print.specs.Line.{spaced}
use Rattle.flt_print.specs.Operands.{operands_of}
use Rattle.flt_print.proofs.call_printer.slots.Given as goal

abbrev pub invariant-loop-slots : goal.invariant-loop-slots
invariant-loop-slots l = l.out.items ++ spaced (map (slot_word (operands_of l.operands)) l.slots) ≡ l.initial.out.items
    ++ spaced (map (slot_word (operands_of l.operands)) l.initial.slots)

abbrev pub decreases-loop-slots : goal.decreases-loop-slots
decreases-loop-slots l = length l.slots
