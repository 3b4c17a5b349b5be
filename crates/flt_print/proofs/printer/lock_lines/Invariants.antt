use Rattle.std.proofs.Common.{◌≡◌, ◌++◌, length, map}
use Rattle.flt_print.specs.Line.{lines_text}
use Rattle.flt_print.specs.Printing.{lock_line}
use Rattle.flt_print.proofs.printer.lock_lines.Given as goal

abbrev pub invariant-loop-locks : goal.invariant-loop-locks
invariant-loop-locks l = l.out.items ++ lines_text (map lock_line l.locks) ≡ l.initial.out.items
    ++ lines_text (map lock_line l.initial.locks)

abbrev pub decreases-loop-locks : goal.decreases-loop-locks
decreases-loop-locks l = length l.locks
