use Rattle.std.proofs.Common.{◌≡◌, drop, map}
use Rattle.flt_explain_hints.specs.Misspelt.{are_farther}
use Rattle.flt_explain_hints.proofs.misspelt.are_farther.Given as goal

abbrev pub invariant-loop-entry : goal.invariant-loop-entry
invariant-loop-entry l =
    are_farther l.bound l.word (map (λ e. (e.0.now, e.1)) (drop l.entry-index l.table))
    ≡ are_farther l.bound l.word (map (λ e. (e.0.now, e.1)) l.table)
