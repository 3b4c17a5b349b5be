use Rattle.std.proofs.Common.{◌≡◌, ◌++◌, drop}
use Rattle.flt_c_functions.specs.Lines.{more_elements}
use Rattle.flt_c_functions.proofs.table.put_more_elements.Given as goal

abbrev pub invariant-loop-element : goal.invariant-loop-element
invariant-loop-element l =
    l.fn.out.items ++ more_elements l.fn.spellings l.fn.tokens l.fn.elements
    ≡ l.out.items ++ more_elements l.fn.spellings l.fn.tokens (drop l.element-index l.fn.elements)
