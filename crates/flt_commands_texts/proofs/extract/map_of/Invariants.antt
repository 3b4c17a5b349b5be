use Rattle.std.proofs.Common.{◌≡◌, ◌+◌, ◌++◌, drop, map}
use Rattle.flt_commands_texts.specs.Extract.{map_from}
use Rattle.flt_commands_texts.proofs.extract.map_of.Given as goal

abbrev pub invariant-loop-before : goal.invariant-loop-before
invariant-loop-before l =
    l.bytes.items ++ map_from (map (λ name. name.now) l.names) (l.before + 1) (drop l.before l.lines) ≡
    map_from (map (λ name. name.now) l.names) 1 l.lines
