use Rattle.std.proofs.Common.{◌≡◌, length, map}
use Rattle.flt_explain_parts.specs.Paragraphs.{after_gap}
use Rattle.flt_explain_parts.proofs.paragraphs.after_gap.Given as goal

abbrev pub invariant-loop-rest : goal.invariant-loop-rest
invariant-loop-rest l =
    after_gap (map (λ b. b.now) l.rest) ≡ after_gap (map (λ b. b.now) l.lines)

abbrev pub decreases-loop-rest : goal.decreases-loop-rest
decreases-loop-rest l = length l.rest
