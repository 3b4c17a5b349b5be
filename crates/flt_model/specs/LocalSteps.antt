-- The steps of an activation that nobody else can see: arithmetic, tests of its own variables, and the turns of a `repeat`.
-- They change the activation alone. This project's own rule.
use Rattle.std.specs.Prelude.{◌≡◌, ℕ, zero, suc, Bool, false, ◌==◌, nat_lt, if◌then◌else◌, List}
use Rattle.std.specs.Prelude.{[], ◌∷◌, ◌++◌, Option, Some, None, is_some, option_map, set}
use Rattle.flt_tree.specs.declared.filter.Action.{Action}
use Rattle.flt_tree.specs.declared.filter.Action.TheVariants as action
use Rattle.flt_tree.specs.declared.filter.Condition.{Condition}
use Rattle.flt_tree.specs.declared.filter.Condition.TheVariants as condition
use Rattle.flt_tree.specs.declared.filter.Span.{Span}
use Rattle.flt_tree.specs.declared.filter.Statement.{Statement, out-Statement}
use Rattle.flt_tree.specs.declared.filter.Statement.TheOpen.{Statement-F}
use Rattle.flt_tree.specs.declared.filter.Statement.TheVariants as tree
use Rattle.flt_tree.specs.declared.filter.Test.{Test}
use Rattle.flt_tree.specs.declared.filter.Test.TheVariants as test
use Rattle.flt_tree.specs.declared.variable.OperationVariable.TheVariants.{Removed}
use Rattle.flt_model.specs.World.{World, Activation, activation_at}
use Rattle.flt_model.specs.Variables.{number_in, context_in, operation_in, with_number, with_context_in}
use Rattle.flt_model.specs.Variables.{with_operation_in, atom_value, expression_value}

-- a number is computed, or a variable becomes NULL; other actions are seen by others
abbrev pub after_action : Activation → Action → Option Activation
after_action act (action.SetNumber n e) = Some (with_number act n (expression_value act e))
after_action act (action.ClearContext c) = Some (with_context_in act c None)
after_action act (action.ClearOperation o) = Some (with_operation_in act (Removed o) None)
after_action act _ = None

-- what a test of the activation's own says; `draining` is the flag that it was given
abbrev pub holds_test : Bool → Activation → Test → Option Bool
holds_test draining act (test.ContextIsSome c) = Some (is_some (context_in act c))
holds_test draining act (test.OperationIsSome o) = Some (is_some (operation_in act (Removed o)))
holds_test draining act (test.Equal n x) = Some (number_in act n == atom_value act x)
holds_test draining act (test.Less n x) = Some (nat_lt (number_in act n) (atom_value act x))
holds_test draining act test.IsDraining = Some draining
holds_test draining act test.IsIrp = None

-- a `repeat` is its body and then the `repeat` with a turn less; with no turn left it is done
abbrev pub turns_left : Span → ℕ → List Statement → List Statement → List Statement
turns_left span zero block rest = rest
turns_left span (suc turns) block rest = block ++ tree.Repeat span turns block ∷ rest

-- these statements remain
abbrev pub goes_on_to : List Statement → Activation → Activation
goes_on_to list act = record act { rest = list }

-- a condition is decided locally, unless it is a call or asks of the operation
abbrev pub holds_condition : Bool → Activation → Condition → Option Bool
holds_condition draining act (condition.Test t) = holds_test draining act t
holds_condition draining act (condition.Succeeds c) = None

-- the activation after its first statement, where that is local
abbrev pub after_statement : Bool → Activation → List Statement → Statement-F Statement → Option Activation
after_statement draining act rest (Statement-F.Act span a) = option_map (goes_on_to rest) (after_action act a)
after_statement draining act rest (Statement-F.Call span c) = None
after_statement draining act rest (Statement-F.Return span status) = None
after_statement draining act rest (Statement-F.If span asked granted refused) =
    option_map (λ b. goes_on_to ((if b then granted else refused) ++ rest) act) (holds_condition draining act asked)
after_statement draining act rest (Statement-F.Repeat span turns block) = Some (goes_on_to (turns_left span turns block rest) act)

-- the same of the statements that remain; the end of a body is seen by others
abbrev pub local_step : Bool → Activation → List Statement → Option Activation
local_step draining act [] = None
local_step draining act (s ∷ rest) = after_statement draining act rest (out-Statement s)

-- the second world is the first but for one activation, which goes on in both
pub record GoesOnAlone (w : World) (a : ℕ) (u : World) : Type 0 where
  pub act : Activation
  pub changes : u ≡ record w { activations = set w.activations a act }
  pub went_on : (activation_at w a).ended ≡ false
  pub goes_on : act.ended ≡ false
