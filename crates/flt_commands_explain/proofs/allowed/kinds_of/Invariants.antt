use Rattle.std.proofs.Common.{◌≡◌, drop, fold, map}
use Rattle.flt_commands_explain.specs.Allowed.{kinds_of, with_named}
use Rattle.flt_commands_explain.proofs.allowed.kinds_of.Given as goal

abbrev pub invariant-loop-name : goal.invariant-loop-name
invariant-loop-name l = fold with_named l.kinds (map (λ n. n.now) (drop l.name-index l.names)) ≡ kinds_of (map (λ n. n.now) l.names)
