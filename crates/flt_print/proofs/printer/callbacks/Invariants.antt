use Rattle.std.proofs.Common.{◌≡◌, ◌++◌, length}
use Rattle.std.specs.List.{list_all, flat_map}
use Rattle.std.specs.Prelude.{IsTrue}
use Rattle.flt_print.specs.Line.{lines_text}
use Rattle.flt_tree.specs.Measures.{is_small}
use Rattle.flt_print.specs.Printing.{callback_lines}
use Rattle.flt_print.proofs.printer.callbacks.Given as goal

abbrev pub invariant-loop-found : goal.invariant-loop-found
invariant-loop-found l =
    record {
      same : l.out.items ++ lines_text (flat_map (callback_lines l.locks) l.found)
          ≡ l.initial.out.items ++ lines_text (flat_map (callback_lines l.locks) l.initial.found);
      small : IsTrue (list_all is_small l.found);
    }

abbrev pub decreases-loop-found : goal.decreases-loop-found
decreases-loop-found l = length l.found
