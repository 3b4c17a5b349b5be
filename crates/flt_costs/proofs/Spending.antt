-- Each step of an activation, local or not, lowers what it may still spend by one at least, and leaves the other activations as they are.
use Rattle.std.proofs.Common.{◌≡◌, ◌≤◌, ℕ, ◌+◌, max, Bool, true, false, List, [], ◌∷◌, ◌++◌, Option, Some, None, refl, subst, arith}
use Rattle.std.specs.Prelude.{if◌then◌else◌, option_map}
use Rattle.flt_tree.specs.Measures.{cost, cost_of, cost_step}
use Rattle.flt_tree.specs.declared.filter.Action.{Action}
use Rattle.flt_tree.specs.declared.filter.Action.TheVariants as action
use Rattle.flt_tree.specs.declared.filter.Condition.{Condition}
use Rattle.flt_tree.specs.declared.filter.Condition.TheVariants as condition
use Rattle.flt_tree.specs.declared.filter.Filter.{Filter}
use Rattle.flt_tree.specs.declared.filter.Statement.{Statement, out-Statement}
use Rattle.flt_tree.specs.declared.filter.Statement.TheFolds.{map-Statement}
use Rattle.flt_tree.specs.declared.filter.Statement.TheOpen.{Statement-F}
use Rattle.flt_tree.specs.declared.filter.Test.{Test}
use Rattle.flt_tree.specs.declared.filter.Test.TheVariants as test
use Rattle.flt_tree.specs.declared.variable.OperationVariable.TheVariants.{Data}
use Rattle.flt_model.specs.declared.event.Event.{Event}
use Rattle.flt_model.specs.Effects.{Step}
use Rattle.flt_model.specs.LocalSteps.{local_step}
use Rattle.flt_model.specs.Reads.{read_value, write_value, read_file, test_irp}
use Rattle.flt_model.specs.Returns.{returns}
use Rattle.flt_model.specs.Steps.{may_go, act_step, plain_step, fallible_step, test_step, if_step}
use Rattle.flt_model.specs.Steps.{statement_step, list_step, board, moved_on, local}
use Rattle.flt_model.specs.Variables.{context_in, operation_in}
use Rattle.flt_model.specs.World.{World, Activation, activation_at, actor_at}
use Rattle.flt_costs.specs.Costs.{left_in, Spends}
use Rattle.flt_costs.proofs.Leaving.{left_below, Leaves, leaves_more, plain_to, value_read, value_written, file_read, irp_tested}
use Rattle.flt_costs.proofs.Leaving.{fallible_to, returns_leaves}
use Rattle.flt_model.proofs.LocalCosts.{IsCheaper, local_cheaper}
use Rattle.flt_tree.proofs.Costs.{cost_cons, cost_append, layer_cost}

-- ---- steps that others see

module _ (p : List Filter) (t : List Event) (w : World) (a : ℕ) where
  abbrev now : Activation
  now = activation_at w a

  abbrev Within : ℕ → Step → Type 0
  Within n s = Leaves w a n s.world.activations

  some_within : (n : ℕ) (r s : Step) → Within n r → Some r ≡ Some s → Within n s
  some_within n r s h e = let same : r ≡ s = cc in subst (λ (x : Step). Within n x) same h

  when_within : (n : ℕ) (b : Bool) (o : Option Step) (s : Step) → (o ≡ Some s → Within n s) → (if b then o else None) ≡ Some s → Within n s
  when_within n true o s h e = h e
  when_within n false o s h e = absurd (cc)

  act_within : (rest : List Statement) (x : Action) (s : Step) → act_step p t w a rest x ≡ Some s → Within (cost rest + 1) s
  act_within rest (action.ReadValue n c) s e =
      some_within (cost rest + 1) (read_value w a n c rest) s (value_read w a (cost rest) rest (omega arith) n (context_in now c)) e
  act_within rest (action.ReadFile n d) s e =
      some_within (cost rest + 1) (read_file w a n d rest) s (file_read w a (cost rest) rest (omega arith) n (operation_in now d)) e
  act_within rest (action.WriteValue c x) s e =
      some_within (cost rest + 1) (write_value w a c x rest) s (value_written w a (cost rest) rest (omega arith) x (context_in now c)) e
  act_within rest (action.SetNumber n x) s e = absurd (cc)
  act_within rest (action.ClearContext c) s e = absurd (cc)
  act_within rest (action.ClearOperation o) s e = absurd (cc)

  module _ (n : ℕ) (granted refused : List Statement) (g : cost granted ≤ n) (r : cost refused ≤ n) where
    test_within : (x : Test) (s : Step) → test_step p t w a granted refused x ≡ Some s → Within (n + 1) s
    test_within test.IsIrp s e =
        some_within (n + 1) (test_irp w a granted refused) s (irp_tested w a n granted refused g r (operation_in now Data)) e
    test_within (test.ContextIsSome c) s e = absurd (cc)
    test_within (test.OperationIsSome o) s e = absurd (cc)
    test_within (test.Equal m x) s e = absurd (cc)
    test_within (test.Less m x) s e = absurd (cc)
    test_within test.IsDraining s e = absurd (cc)

    if_within : (grant : Bool) (asked : Condition) (s : Step) → if_step p t w a grant granted refused asked ≡ Some s → Within (n + 1) s
    if_within grant (condition.Test x) s e = test_within x s e
    if_within grant (condition.Succeeds c) s e =
        some_within (n + 1) (fallible_step p t w a grant granted refused c) s (fallible_to w a n granted refused g r p t grant c) e

  -- after the first statement no more is left than what it costs, and what is behind it
  statement_within : (rest : List Statement) (grant : Bool) (layer : Statement-F Statement) (s : Step) →
      statement_step p t w a rest grant layer ≡ Some s → Within (cost_step (map-Statement Statement ℕ cost_of layer) + cost rest) s
  statement_within rest grant (Statement-F.Act span x) s e =
      leaves_more w a (cost rest + 1) (1 + cost rest) s.world.activations (omega arith) (act_within rest x s e)
  statement_within rest grant (Statement-F.Call span c) s e =
      leaves_more w a (cost rest + 1) (1 + cost rest) s.world.activations (omega arith)
      (some_within (cost rest + 1) (plain_step p t w a rest c) s (plain_to w a (cost rest) rest (omega arith) p t c) e)
  statement_within rest grant (Statement-F.Return span st) s e =
      some_within (1 + cost rest) (returns p t w a st) s (returns_leaves p t w a (1 + cost rest) st) e
  statement_within rest grant (Statement-F.If span asked granted refused) s e =
      let n = max (cost granted) (cost refused) + cost rest in
      leaves_more w a (n + 1) (1 + max (cost granted) (cost refused) + cost rest) s.world.activations (omega arith)
      (if_within n (granted ++ rest) (refused ++ rest) (omega (arith, cost_append granted rest)) (omega (arith, cost_append refused rest))
      grant asked s e)
  statement_within rest grant (Statement-F.Repeat span turns block) s e = absurd (cc)

  list_within : (list : List Statement) (grant : Bool) (s : Step) → list_step p t w a list grant ≡ Some s → Within (cost list) s
  list_within [] grant s e =
      when_within 0 grant (Some (returns p t w a None)) s (λ h. some_within 0 (returns p t w a None) s (returns_leaves p t w a 0 None) h) e
  list_within (x ∷ rest) grant s e =
      let whole = cost_cons x rest in
      let first = layer_cost x in
      let n = cost_step (map-Statement Statement ℕ cost_of (out-Statement x)) + cost rest in
      leaves_more w a n (cost (x ∷ rest)) s.world.activations (omega arith)
      (when_within n (may_go w a grant (out-Statement x)) (statement_step p t w a rest grant (out-Statement x)) s
      (λ h. statement_within rest grant (out-Statement x) s h) e)

  -- what is spent by a step after which no more is left than what remained costs
  spent_by : (b : Bool) (n : ℕ) (s : Step) (o : Option Step) → left_in now ≡ (if b then 0 else n + 1) → (if b then None else o) ≡ Some s →
      (o ≡ Some s → Within n s) → Spends w a s.world.activations
  spent_by true n s o before e h = absurd (cc)
  spent_by false n s o before e h =
      let l = h e in
      let less = l.less in
      record { act = l.act; acts_are = l.acts_are; less = omega arith }

  -- a step that others see
  pub board_spends : (grant : Bool) (s : Step) → board p t w a grant ≡ Some s → Spends w a s.world.activations
  board_spends grant s e =
      spent_by now.ended (cost now.rest) s (list_step p t w a now.rest grant) refl e (λ h. list_within now.rest grant s h)

  -- ---- local steps

  moved_within : (n : ℕ) (o : Option Activation) (s : Step) → IsCheaper n o → option_map (moved_on p t w a) o ≡ Some s → Within n s
  moved_within n None s cheaper e = absurd (cc)
  moved_within n (Some act) s cheaper e =
      some_within n (moved_on p t w a act) s
      (let below = left_below act in record { act = act; acts_are = refl; less = omega arith }) e

  -- a local step
  pub local_spends : (s : Step) → local p t w a ≡ Some s → Spends w a s.world.activations
  local_spends s e =
      let draining = (actor_at w a).draining in
      let o = local_step draining now now.rest in
      spent_by now.ended (cost now.rest) s (option_map (moved_on p t w a) o) refl e
      (λ h. moved_within (cost now.rest) o s (local_cheaper draining now now.rest) h)
