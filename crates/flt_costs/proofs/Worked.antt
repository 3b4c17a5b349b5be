-- What the worked callback costs: as many steps as it makes.
use Rattle.std.proofs.Common.{◌≡◌, ◌+◌, [], arith}
use Rattle.flt_tree.specs.Measures.{cost}
use Rattle.flt_tree.specs.declared.filter.Action.TheVariants as action
use Rattle.flt_tree.specs.declared.filter.Statement.TheVariants as tree
use Rattle.flt_tree.specs.declared.variable.Atom.TheVariants as atom
use Rattle.flt_tree.specs.declared.variable.Expression.TheVariants as expression
use Rattle.flt_tree.specs.declared.variable.NumberVariable.TheVariants.{N0}
use Rattle.flt_tree.proofs.Costs.{act_cost, cost_cons, repeat_cost}
use Rattle.flt_model.specs.WorkedParts.{here}
use Rattle.flt_costs.specs.Costs.{callback_cost, steps_of}
use Rattle.flt_costs.specs.WorkedCosts.{block, body, turns, interleaved}

body_cost : cost body + 1 ≡ 6
body_cost =
    let one = act_cost here (action.SetNumber N0 (expression.Atom (atom.Number 7))) in
    let inner = cost_cons (tree.Act here (action.SetNumber N0 (expression.Atom (atom.Number 7)))) [] in
    let all = repeat_cost here 2 block in
    let outer = cost_cons (tree.Repeat here 2 block) [] in
    omega arith

-- the bound is reached
reached : steps_of 0 interleaved ≡ callback_cost turns 0 0
reached = let costs : callback_cost turns 0 0 ≡ 6 = body_cost in omega arith
