use Rattle.std.proofs.Common.{◌≡◌, map, drop}
use Rattle.flt_tree.specs.Names.{has_name}
use Rattle.flt_explain_hints.proofs.names.has_name.Given as goal

abbrev pub invariant-loop-other : goal.invariant-loop-other
invariant-loop-other l =
    has_name l.name (map (λ n. n.now) (drop l.other-index l.others)) ≡ has_name l.name (map (λ n. n.now) l.others)
