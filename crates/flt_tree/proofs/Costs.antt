-- What lists of statements cost. Crates above cite these laws, too.
use Rattle.std.proofs.Common.{◌≡◌, ℕ, ◌+◌, ◌*◌, List, ◌∷◌, ◌++◌, map, sum, ap, ◌∙◌}
use Rattle.std.proofs.lemmas.List.{map-append}
use Rattle.std.proofs.lemmas.List.Sums.{sum_by-append, sum_by-cons}
use Rattle.flt_tree.specs.Measures.{cost, cost_of, cost_step}
use Rattle.flt_tree.specs.declared.filter.Action.{Action}
use Rattle.flt_tree.specs.declared.filter.Span.{Span}
use Rattle.flt_tree.specs.declared.filter.Statement.{Statement, out-Statement}
use Rattle.flt_tree.specs.declared.filter.Statement.TheFolds.{map-Statement, fold_out-Statement}
use Rattle.flt_tree.specs.declared.filter.Statement.TheOpen.{Statement-F}
use Rattle.flt_tree.specs.declared.filter.Statement.TheVariants as tree
use Rattle.flt_tree.specs.declared.filter.Statement.TheViews.{outs-Act, outs-Repeat}

-- the first statement and the others
pub cost_cons : (s : Statement) (rest : List Statement) → cost (s ∷ rest) ≡ cost_of s + cost rest
cost_cons s rest = sum_by-cons (λ (n : ℕ). n) (cost_of s) (map cost_of rest)

-- statements and those behind them
pub cost_append : (xs ys : List Statement) → cost (xs ++ ys) ≡ cost xs + cost ys
cost_append xs ys = ap (λ (ns : List ℕ). sum ns) (map-append cost_of xs ys) ∙ sum_by-append (λ (n : ℕ). n) (map cost_of xs) (map cost_of ys)

-- what a statement costs, by its kind and by what its blocks cost
pub layer_cost : (s : Statement) → cost_of s ≡ cost_step (map-Statement Statement ℕ cost_of (out-Statement s))
layer_cost s = fold_out-Statement ℕ cost_step s

-- a `repeat` costs its turns, with 1 for each, and 1
pub repeat_cost : (span : Span) (turns : ℕ) (block : List Statement) → cost_of (tree.Repeat span turns block) ≡ 1 + turns * (1 + cost block)
repeat_cost span turns block =
    layer_cost (tree.Repeat span turns block) ∙
    ap (λ (s : Statement-F Statement). cost_step (map-Statement Statement ℕ cost_of s)) (outs-Repeat span turns block)

-- an action costs 1
pub act_cost : (span : Span) (a : Action) → cost_of (tree.Act span a) ≡ 1
act_cost span a =
    layer_cost (tree.Act span a) ∙
    ap (λ (s : Statement-F Statement). cost_step (map-Statement Statement ℕ cost_of s)) (outs-Act span a)
