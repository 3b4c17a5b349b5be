use Rattle.std.proofs.Common.{◌≡◌, ◌++◌, drop}
use Rattle.std.specs.Prelude.{codes}
use Rattle.flt_explain_runs.specs.Lines.{names}
use Rattle.flt_explain_runs.proofs.lines.put_names.Given as goal

abbrev pub invariant-loop-tree : goal.invariant-loop-tree
invariant-loop-tree l =
    l.out.items ++ names l.word (drop l.tree-index l.own) ≡ l.fn.out.items ++ names (codes ", on ") l.own
