use Rattle.std.proofs.Common.{◌≡◌, drop, map}
use Rattle.flt_explain_hints.specs.Misspelt.{nearer, nearest_among}
use Rattle.flt_explain_hints.proofs.misspelt.nearest_among.Given as goal

abbrev pub invariant-loop-entry : goal.invariant-loop-entry
invariant-loop-entry l =
    nearer l.nearest (nearest_among l.word (map (λ e. (e.0.now, e.1)) (drop l.entry-index l.table)))
    ≡ nearer l.initial.nearest (nearest_among l.word (map (λ e. (e.0.now, e.1)) l.table))
