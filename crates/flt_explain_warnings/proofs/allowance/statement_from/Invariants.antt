use Rattle.std.proofs.Common.{◌≡◌, ◌+◌, drop, map}
use Rattle.flt_explain_warnings.specs.Allowances as spec
use Rattle.flt_explain_warnings.proofs.allowance.statement_from.Given as goal

abbrev pub invariant-loop-line : goal.invariant-loop-line
invariant-loop-line l =
    (l.at ≡ l.number + l.line-index)
    × (spec.statement_from l.at (map (λ t. t.now) (drop l.line-index l.lines)) ≡ spec.statement_from l.number (map (λ t. t.now) l.lines))
