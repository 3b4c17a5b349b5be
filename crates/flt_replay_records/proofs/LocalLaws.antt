-- What a local step does to the variables doesn't depend on the statements that remain.
use Rattle.std.proofs.Common.{◌≡◌, ◌<◌, ◌-◌, ◌+◌, ℕ, zero, suc, Bool, List, [], Option, Some, None, option_map, refl, sym, ap, ◌∙◌, arith}
use Rattle.std.specs.Prelude.{option_and_then}
use Rattle.flt_tree.specs.declared.filter.Action.{Action}
use Rattle.flt_tree.specs.declared.filter.Action.TheVariants as action
use Rattle.flt_tree.specs.declared.filter.Condition.{Condition}
use Rattle.flt_tree.specs.declared.filter.Condition.TheVariants as condition
use Rattle.flt_tree.specs.declared.filter.Statement.{Statement}
use Rattle.flt_tree.specs.declared.filter.Statement.TheOpen.{Statement-F}
use Rattle.flt_tree.specs.declared.filter.Test.{Test}
use Rattle.flt_tree.specs.declared.filter.Test.TheVariants as test
use Rattle.flt_tree.specs.declared.variable.Atom.{Atom}
use Rattle.flt_tree.specs.declared.variable.Atom.TheVariants as atom
use Rattle.flt_tree.specs.declared.variable.Expression.{Expression}
use Rattle.flt_tree.specs.declared.variable.Expression.TheVariants as expression
use Rattle.flt_model.specs.LocalSteps.{after_action, holds_test, holds_condition, after_statement, goes_on_to, local_step}
use Rattle.flt_model.specs.Variables.{atom_value, expression_value}
use Rattle.flt_model.specs.World.{Activation}
use Rattle.flt_replay_records.specs.Local.{local_steps}

module _ (draining : Bool) (act : Activation) (others rest : List Statement) where
  abbrev elsewhere : Activation
  elsewhere = record act { rest = others }

  atom_same : (x : Atom) → atom_value elsewhere x ≡ atom_value act x
  atom_same (atom.Number k) = refl
  atom_same (atom.Variable n) = refl

  expression_same : (e : Expression) → expression_value elsewhere e ≡ expression_value act e
  expression_same (expression.Atom x) = atom_same x
  expression_same (expression.Sum x y) = rw (atom_same x, atom_same y) refl
  expression_same (expression.Difference x y) = rw (atom_same x, atom_same y) refl

  action_same : (a : Action) → option_map (goes_on_to rest) (after_action elsewhere a) ≡ option_map (goes_on_to rest) (after_action act a)
  action_same (action.SetNumber n e) = rw (expression_same e) refl
  action_same (action.ClearContext c) = refl
  action_same (action.ClearOperation o) = refl
  action_same (action.ReadValue n c) = refl
  action_same (action.ReadFile n d) = refl
  action_same (action.WriteValue c x) = refl

  test_same : (t : Test) → holds_test draining elsewhere t ≡ holds_test draining act t
  test_same (test.ContextIsSome c) = refl
  test_same (test.OperationIsSome o) = refl
  test_same (test.Equal n x) = rw (atom_same x) refl
  test_same (test.Less n x) = rw (atom_same x) refl
  test_same test.IsDraining = refl
  test_same test.IsIrp = refl

  condition_same : (k : Condition) → holds_condition draining elsewhere k ≡ holds_condition draining act k
  condition_same (condition.Test t) = test_same t
  condition_same (condition.Succeeds c) = refl

  -- what a statement makes of the variables doesn't depend on what remains
  pub statement_same : (s : Statement-F Statement) → after_statement draining elsewhere rest s ≡ after_statement draining act rest s
  statement_same (Statement-F.Act span a) = action_same a
  statement_same (Statement-F.Call span c) = refl
  statement_same (Statement-F.Return span status) = refl
  statement_same (Statement-F.If span asked granted refused) = rw (condition_same asked) refl
  statement_same (Statement-F.Repeat span turns block) = refl

-- ---- one step more of some

module _ (draining : Bool) (steps made : ℕ) (old : Activation) (whole : Option Activation) (h : made < steps)
    (so_far : local_steps draining (steps - made) old ≡ whole) where
  less : steps - made ≡ suc (steps - (made + 1))
  less = omega (arith, h)

  unrolled : option_and_then (local_steps draining (steps - (made + 1))) (local_step draining old old.rest) ≡ whole
  unrolled = sym (ap (λ n. local_steps draining n old) less) ∙ so_far

  -- after one local step those that are left are one fewer, and lead to the same
  pub one_more : (new : Activation) → local_step draining old old.rest ≡ Some new → local_steps draining (steps - (made + 1)) new ≡ whole
  one_more new is = sym (ap (option_and_then (local_steps draining (steps - (made + 1)))) is) ∙ unrolled

  -- where no local step can be made, those that are left can't
  pub none_more : local_step draining old old.rest ≡ None → whole ≡ None
  none_more is = sym unrolled ∙ ap (option_and_then (local_steps draining (steps - (made + 1)))) is

-- where nothing remains, there is none
pub none_of_ended : (draining : Bool) (steps : ℕ) (act : Activation) →
    (steps ≡ 0 → ⊥) → act.rest ≡ [] → local_steps draining steps act ≡ None
none_of_ended draining zero act some none = absurd (some refl)
none_of_ended draining (suc n) act some none =
    ap (λ (rest : List Statement). option_and_then (local_steps draining n) (local_step draining act rest)) none
