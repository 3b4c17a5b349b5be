use Rattle.std.proofs.Common.{◌≡◌, ◌+◌, ◌≤◌, ◌++◌, drop}
use Rattle.flt_print.specs.Line.{lines_text}
use Rattle.flt_tree.specs.Measures.{points}
use Rattle.flt_print.specs.Printing.{body_lines}
use Rattle.flt_print.proofs.printer.+printer.Given as goal

abbrev pub invariant-body-loop-next : goal.invariant-body-loop-next
invariant-body-loop-next l =
    record {
      same : l.out.items ++ lines_text (body_lines l.locks (drop l.next-index l.statements) l.level)
          ≡ l.fn.out.items ++ lines_text (body_lines l.locks l.statements l.level);
      within : l.level + points (drop l.next-index l.statements) ≤ 1024;
    }
