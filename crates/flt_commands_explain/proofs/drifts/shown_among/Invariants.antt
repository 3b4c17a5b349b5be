use Rattle.std.proofs.Common.{◌≡◌, ◌++◌, drop, map}
use Rattle.flt_commands_explain.specs.Drifts.{shown_among}
use Rattle.flt_commands_explain.proofs.drifts.shown_among.Given as goal

abbrev pub invariant-loop-drift : goal.invariant-loop-drift
invariant-loop-drift l =
    l.shown.items ++ shown_among (map (λ name. name.now) l.allowed) (drop l.drift-index l.found)
    ≡ shown_among (map (λ name. name.now) l.allowed) l.found
