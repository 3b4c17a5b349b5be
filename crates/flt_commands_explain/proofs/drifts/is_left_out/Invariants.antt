use Rattle.std.proofs.Common.{◌≡◌, drop, map}
use Rattle.std.specs.List.{list_any}
use Rattle.std.specs.Str.{bytes_eq}
use Rattle.flt_commands_explain.proofs.drifts.is_left_out.Given as goal

abbrev pub invariant-loop-name : goal.invariant-loop-name
invariant-loop-name l =
    list_any (bytes_eq l.code) (map (λ name. name.now) (drop l.name-index l.allowed))
    ≡ list_any (bytes_eq l.code) (map (λ name. name.now) l.allowed)
