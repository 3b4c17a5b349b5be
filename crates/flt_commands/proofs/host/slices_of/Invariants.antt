use Rattle.std.proofs.Common.{◌≡◌, ◌++◌, drop, map, string_bytes}
use Rattle.flt_commands.proofs.host.slices_of.Given as goal

abbrev pub invariant-loop-name : goal.invariant-loop-name
invariant-loop-name l =
    map (λ name. name.now) l.slices.items ++ map string_bytes (drop l.name-index l.names) ≡ map string_bytes l.names
