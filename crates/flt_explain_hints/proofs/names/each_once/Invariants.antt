use Rattle.std.proofs.Common.{◌≡◌, ◌++◌, [], map, drop}
use Rattle.flt_explain_hints.specs.Names.{each_once}
use Rattle.flt_explain_hints.proofs.names.each_once.Given as goal

abbrev pub invariant-loop-name : goal.invariant-loop-name
invariant-loop-name l =
    map (λ n. n.now) l.found ++ each_once (map (λ n. n.now) l.found) (map (λ n. n.now) (drop l.name-index l.names))
    ≡ each_once [] (map (λ n. n.now) l.names)
