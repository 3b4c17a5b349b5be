use Rattle.std.proofs.Common.{◌≡◌, map, drop}
use Rattle.flt_explain_hints.specs.Absences.{named_among}
use Rattle.flt_explain_hints.proofs.absences.absence_among.Given as goal

abbrev pub invariant-loop-entry : goal.invariant-loop-entry
invariant-loop-entry l =
    named_among (map (λ e. (e.0.now, e.1)) (drop l.entry-index l.table)) l.word
    ≡ named_among (map (λ e. (e.0.now, e.1)) l.table) l.word
