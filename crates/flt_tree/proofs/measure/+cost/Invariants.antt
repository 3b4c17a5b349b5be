use Rattle.std.proofs.Common.{◌≡◌, ◌≤◌, ◌+◌, min, drop}
use Rattle.flt_tree.specs.Measures.{cost}
use Rattle.flt_rules.specs.Limits.{max_cost}
use Rattle.flt_tree.proofs.measure.+cost.Given as goal

abbrev pub invariant-cost-loop-statement : goal.invariant-cost-loop-statement
invariant-cost-loop-statement l =
    record {
      same : min (cost l.body) max_cost ≡ min (l.total + cost (drop l.statement-index l.body)) max_cost;
      within : l.total ≤ max_cost;
    }
