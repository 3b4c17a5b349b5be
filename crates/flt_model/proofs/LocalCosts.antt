-- A local step makes what remains cheaper, by one at least. Crates above cite this law, too.
use Rattle.std.proofs.Common.{◌≡◌, ℕ, zero, suc, ◌+◌, ◌*◌, ◌≤◌, max, Bool, true, false, cond, List, [], ◌∷◌, ◌++◌, Option, Some, None}
use Rattle.std.proofs.Common.{IfSome, sym, subst, arith}
use Rattle.std.specs.Prelude.{option_map}
use Rattle.flt_tree.proofs.Costs.{cost_cons, cost_append, layer_cost, repeat_cost}
use Rattle.flt_tree.specs.Measures.{cost, cost_of, cost_step}
use Rattle.flt_tree.specs.declared.filter.Span.{Span}
use Rattle.flt_tree.specs.declared.filter.Statement.{Statement, out-Statement}
use Rattle.flt_tree.specs.declared.filter.Statement.TheFolds.{map-Statement}
use Rattle.flt_tree.specs.declared.filter.Statement.TheOpen.{Statement-F}
use Rattle.flt_tree.specs.declared.filter.Statement.TheVariants as tree
use Rattle.flt_model.specs.LocalSteps.{after_action, holds_condition, after_statement, local_step, turns_left, goes_on_to}
use Rattle.flt_model.specs.World.{Activation}

-- what remains of an activation, if it goes on, costs less than so much
abbrev pub IsCheaper : ℕ → Option Activation → Type 0
IsCheaper n o = IfSome o (λ (a : Activation). cost a.rest + 1 ≤ n)

acted : (o : Option Activation) (rest : List Statement) → IsCheaper (1 + cost rest) (option_map (goes_on_to rest) o)
acted None rest = tt
acted (Some a) rest = omega arith

chosen : (o : Option Bool) (act : Activation) (granted refused rest : List Statement) →
    IsCheaper (1 + max (cost granted) (cost refused) + cost rest)
    (option_map (λ (b : Bool). goes_on_to ((cond b granted refused) ++ rest) act) o)
chosen None act granted refused rest = tt
chosen (Some true) act granted refused rest = omega (arith, cost_append granted rest)
chosen (Some false) act granted refused rest = omega (arith, cost_append refused rest)

turned : (span : Span) (turns : ℕ) (block rest : List Statement) →
    cost (turns_left span turns block rest) + 1 ≤ 1 + turns * (1 + cost block) + cost rest
turned span zero block rest = omega arith
turned span (suc turns) block rest =
    let whole = cost_append block (tree.Repeat span turns block ∷ rest) in
    let one = repeat_cost span turns block in
    let more : suc turns * (1 + cost block) ≡ (1 + cost block) + turns * (1 + cost block) = grind arith in
    omega (arith, whole, one, more, cost_cons (tree.Repeat span turns block) rest)

layer_cheaper : (draining : Bool) (act : Activation) (rest : List Statement) (layer : Statement-F Statement) →
    IsCheaper (cost_step (map-Statement Statement ℕ cost_of layer) + cost rest) (after_statement draining act rest layer)
layer_cheaper draining act rest (Statement-F.Act span a) = acted (after_action act a) rest
layer_cheaper draining act rest (Statement-F.Call span c) = tt
layer_cheaper draining act rest (Statement-F.Return span st) = tt
layer_cheaper draining act rest (Statement-F.If span asked granted refused) =
    chosen (holds_condition draining act asked) act granted refused rest
layer_cheaper draining act rest (Statement-F.Repeat span turns block) = turned span turns block rest

-- what remains after a local step
pub local_cheaper : (draining : Bool) (act : Activation) (list : List Statement) → IsCheaper (cost list) (local_step draining act list)
local_cheaper draining act [] = tt
local_cheaper draining act (s ∷ rest) =
    subst (λ (n : ℕ). IsCheaper n (after_statement draining act rest (out-Statement s))) (sym (cost_cons s rest))
    (subst (λ (n : ℕ). IsCheaper (n + cost rest) (after_statement draining act rest (out-Statement s))) (sym (layer_cost s))
    (layer_cheaper draining act rest (out-Statement s)))
