use Rattle.std.proofs.Common.{◌≡◌, ◌++◌, map, drop}
use Rattle.flt_explain_hints.specs.Choices.{entry_of, possible}
use Rattle.flt_explain_hints.specs.Trial.{gap_of}
use Rattle.flt_explain_hints.proofs.choices.add_possible.Given as goal

abbrev pub invariant-loop-entry : goal.invariant-loop-entry
invariant-loop-entry l =
    map entry_of l.found ++ possible (gap_of l.gap) (map (λ e. (e.0.now, e.1)) (drop l.entry-index l.table))
    ≡ map entry_of l.fn.found ++ possible (gap_of l.gap) (map (λ e. (e.0.now, e.1)) l.table)
