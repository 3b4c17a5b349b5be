use Rattle.std.proofs.Common.{◌≡◌, ◌++◌, map, drop}
use Rattle.flt_explain_hints.specs.Choices.{possible_names}
use Rattle.flt_explain_hints.specs.Trial.{gap_of}
use Rattle.flt_explain_hints.proofs.choices.names_in.Given as goal

abbrev pub invariant-loop-name : goal.invariant-loop-name
invariant-loop-name l =
    map (λ n. n.now) l.found ++ possible_names (gap_of l.gap) (map (λ n. n.now) (drop l.name-index l.names))
    ≡ possible_names (gap_of l.gap) (map (λ n. n.now) l.names)
