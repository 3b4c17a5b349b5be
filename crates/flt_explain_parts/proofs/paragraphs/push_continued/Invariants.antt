use Rattle.std.proofs.Common.{◌≡◌, ◌++◌, length, map}
use Rattle.flt_explain_parts.specs.Paragraphs.{continued}
use Rattle.flt_explain_parts.proofs.paragraphs.push_continued.Given as goal

abbrev pub invariant-loop-rest : goal.invariant-loop-rest
invariant-loop-rest l =
    l.out.items ++ continued (map (λ b. b.now) l.rest) ≡ l.initial.out.items ++ continued (map (λ b. b.now) l.lines)

abbrev pub decreases-loop-rest : goal.decreases-loop-rest
decreases-loop-rest l = length l.rest
