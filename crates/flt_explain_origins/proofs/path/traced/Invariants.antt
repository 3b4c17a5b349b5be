use Rattle.std.proofs.Common.{ℕ, []}
use Rattle.flt_explain_origins.specs.Search.{IsTraced}
use Rattle.flt_explain_origins.proofs.path.traced.Given as goal

abbrev pub invariant-loop-one : goal.invariant-loop-one
invariant-loop-one l =
    (p : ℕ) → IsTraced l.graph l.callback l.fact l.found p l.fn.number [] →
    IsTraced l.graph l.callback l.fact l.found p l.number l.later.items

abbrev pub decreases-loop-one : goal.decreases-loop-one
decreases-loop-one l = l.number
