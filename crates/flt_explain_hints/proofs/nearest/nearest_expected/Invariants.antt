use Rattle.std.proofs.Common.{◌≡◌, drop, map}
use Rattle.std.specs.List.{fold}
use Rattle.flt_explain_hints.specs.Nearest.{or_nearer}
use Rattle.flt_explain_hints.proofs.nearest.nearest_expected.Given as goal

abbrev pub invariant-loop-one : goal.invariant-loop-one
invariant-loop-one l =
    fold (or_nearer l.written) l.nearest (map (λ e. e.word) (drop l.one-index l.expected))
    ≡ fold (or_nearer l.written) l.initial.nearest (map (λ e. e.word) l.expected)
