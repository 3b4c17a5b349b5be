use Rattle.std.proofs.Common.{◌≡◌, codes, length, map}
use Rattle.flt_explain_parts.specs.Help.{first_behind}
use Rattle.flt_explain_parts.proofs.help.first_help.Given as goal

abbrev pub invariant-loop-rest : goal.invariant-loop-rest
invariant-loop-rest l =
    first_behind (codes "   = help: ") (map (λ b. b.now) l.rest) ≡ first_behind (codes "   = help: ") (map (λ b. b.now) l.lines)

abbrev pub decreases-loop-rest : goal.decreases-loop-rest
decreases-loop-rest l = length l.rest
