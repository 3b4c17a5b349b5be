use Rattle.std.proofs.Common.{length, map}
use Rattle.flt_c_functions.proofs.Reading.{Begun}
use Rattle.flt_c_functions.proofs.source.add_lines.Given as goal

abbrev pub invariant-loop-rest : goal.invariant-loop-rest
invariant-loop-rest l =
    Begun l.fn.spellings (map (λ line. line.items) l.fn.lines) l.fn.found.items l.spellings (map (λ line. line.items) l.rest) l.found.items

abbrev pub decreases-loop-rest : goal.decreases-loop-rest
decreases-loop-rest l = length l.rest
