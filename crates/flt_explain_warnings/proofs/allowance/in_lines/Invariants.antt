use Rattle.std.proofs.Common.{◌≡◌, ◌+◌, ◌++◌, drop, map}
use Rattle.flt_explain_warnings.specs.Allowances as spec
use Rattle.flt_explain_warnings.proofs.allowance.in_lines.Given as goal

abbrev pub invariant-loop-line : goal.invariant-loop-line
invariant-loop-line l = record {
  number : l.number ≡ l.line-index;
  known :
      spec.known_or l.known (spec.statement_from (l.line-index + 1) (map (λ t. t.now) (drop l.line-index l.lines)))
      ≡ spec.statement_from (l.line-index + 1) (map (λ t. t.now) (drop l.line-index l.lines));
  found :
      l.found ++ spec.allowances_in (l.line-index + 1) (map (λ t. t.now) (drop l.line-index l.lines))
      ≡ spec.allowances_in 1 (map (λ t. t.now) l.lines);
}
