use Rattle.std.proofs.Common.{◌≡◌, drop}
use Rattle.std.specs.List.{fold}
use Rattle.flt_explain_hints.specs.Nearest.{or_nearer}
use Rattle.flt_explain_hints.proofs.nearest.nearest_name.Given as goal

abbrev pub invariant-loop-name : goal.invariant-loop-name
invariant-loop-name l =
    fold (or_nearer l.written) l.nearest (drop l.name-index l.names) ≡ fold (or_nearer l.written) l.initial.nearest l.names
