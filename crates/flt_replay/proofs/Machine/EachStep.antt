-- What holds of each read, test, call and return holds of each step that others see.
use Rattle.std.proofs.Common.{◌≡◌, ℕ, Bool, true, false, List, [], ◌∷◌, ◌++◌, Option, Some, None, subst}
use Rattle.std.specs.Prelude.{if◌then◌else◌}
use Rattle.flt_tree.specs.declared.filter.Action.{Action}
use Rattle.flt_tree.specs.declared.filter.Action.TheVariants as action
use Rattle.flt_tree.specs.declared.filter.Condition.{Condition}
use Rattle.flt_tree.specs.declared.filter.Condition.TheVariants as condition
use Rattle.flt_tree.specs.declared.filter.FallibleCall.{FallibleCall}
use Rattle.flt_tree.specs.declared.filter.Filter.{Filter}
use Rattle.flt_tree.specs.declared.filter.PlainCall.{PlainCall}
use Rattle.flt_tree.specs.declared.filter.Routine.{Routine}
use Rattle.flt_tree.specs.declared.filter.Statement.{Statement, out-Statement}
use Rattle.flt_tree.specs.declared.filter.Statement.TheOpen.{Statement-F}
use Rattle.flt_tree.specs.declared.filter.Status.{Status}
use Rattle.flt_tree.specs.declared.filter.Test.{Test}
use Rattle.flt_tree.specs.declared.filter.Test.TheVariants as test
use Rattle.flt_tree.specs.declared.variable.Atom.{Atom}
use Rattle.flt_tree.specs.declared.variable.ContextVariable.{ContextVariable}
use Rattle.flt_tree.specs.declared.variable.NumberVariable.{NumberVariable}
use Rattle.flt_tree.specs.declared.variable.OperationVariable.{OperationVariable}
use Rattle.flt_model.specs.declared.event.Event.{Event}
use Rattle.flt_model.specs.Effects.{Step}
use Rattle.flt_model.specs.Reads.{read_value, write_value, read_file, test_irp}
use Rattle.flt_model.specs.Returns.{returns}
use Rattle.flt_model.specs.Steps.{act_step, plain_step, fallible_step, test_step, if_step, statement_step, list_step, may_go}
use Rattle.flt_model.specs.World.{World}

-- what holds of each of them
pub record OfEach (p : List Filter) (t : List Event) (w : World) (a : ℕ) (P : Step → Type 0) : Type 0 where
  pub of_value_read : (n : NumberVariable) (c : ContextVariable) (rest : List Statement) → P (read_value w a n c rest)
  pub of_value_written : (c : ContextVariable) (x : Atom) (rest : List Statement) → P (write_value w a c x rest)
  pub of_file_read : (n : NumberVariable) (d : OperationVariable) (rest : List Statement) → P (read_file w a n d rest)
  pub of_irp_test : (holds fails : List Statement) → P (test_irp w a holds fails)
  pub of_plain_call : (rest : List Statement) (c : PlainCall) → P (plain_step p t w a rest c)
  pub of_fallible_call : (grant : Bool) (granted refused : List Statement) (c : FallibleCall Routine) →
      P (fallible_step p t w a grant granted refused c)
  pub of_return : (st : Option Status) → P (returns p t w a st)

module _ (p : List Filter) (t : List Event) (w : World) (a : ℕ) (P : Step → Type 0) (each : OfEach p t w a P) where
  of_some : (r s : Step) → P r → Some r ≡ Some s → P s
  of_some r s h e = let same : r ≡ s = cc in subst P same h

  of_act : (rest : List Statement) (x : Action) (s : Step) → act_step p t w a rest x ≡ Some s → P s
  of_act rest (action.ReadValue n c) s e = of_some (read_value w a n c rest) s (each.of_value_read n c rest) e
  of_act rest (action.ReadFile n d) s e = of_some (read_file w a n d rest) s (each.of_file_read n d rest) e
  of_act rest (action.WriteValue c x) s e = of_some (write_value w a c x rest) s (each.of_value_written c x rest) e
  of_act rest (action.SetNumber n x) s e = absurd (cc)
  of_act rest (action.ClearContext c) s e = absurd (cc)
  of_act rest (action.ClearOperation o) s e = absurd (cc)

  of_test : (holds fails : List Statement) (x : Test) (s : Step) → test_step p t w a holds fails x ≡ Some s → P s
  of_test holds fails test.IsIrp s e = of_some (test_irp w a holds fails) s (each.of_irp_test holds fails) e
  of_test holds fails (test.ContextIsSome c) s e = absurd (cc)
  of_test holds fails (test.OperationIsSome o) s e = absurd (cc)
  of_test holds fails (test.Equal n x) s e = absurd (cc)
  of_test holds fails (test.Less n x) s e = absurd (cc)
  of_test holds fails test.IsDraining s e = absurd (cc)

  of_if : (grant : Bool) (granted refused : List Statement) (asked : Condition) (s : Step) →
      if_step p t w a grant granted refused asked ≡ Some s → P s
  of_if grant granted refused (condition.Test x) s e = of_test granted refused x s e
  of_if grant granted refused (condition.Succeeds c) s e =
      of_some (fallible_step p t w a grant granted refused c) s (each.of_fallible_call grant granted refused c) e

  of_statement : (rest : List Statement) (grant : Bool) (layer : Statement-F Statement) (s : Step) →
      statement_step p t w a rest grant layer ≡ Some s → P s
  of_statement rest grant (Statement-F.Act span x) s e = of_act rest x s e
  of_statement rest grant (Statement-F.Call span c) s e = of_some (plain_step p t w a rest c) s (each.of_plain_call rest c) e
  of_statement rest grant (Statement-F.Return span st) s e = of_some (returns p t w a st) s (each.of_return st) e
  of_statement rest grant (Statement-F.If span asked granted refused) s e = of_if grant (granted ++ rest) (refused ++ rest) asked s e
  of_statement rest grant (Statement-F.Repeat span turns block) s e = absurd (cc)

  unless_none : (b : Bool) (o : Option Step) (s : Step) → (o ≡ Some s → P s) → (if b then o else None) ≡ Some s → P s
  unless_none true o s h e = h e
  unless_none false o s h e = absurd (cc)

  -- by the first statement, or at the end
  pub of_list : (list : List Statement) (grant : Bool) (s : Step) → list_step p t w a list grant ≡ Some s → P s
  of_list [] grant s e = unless_none grant (Some (returns p t w a None)) s (λ h. of_some (returns p t w a None) s (each.of_return None) h) e
  of_list (x ∷ rest) grant s e =
      unless_none (may_go w a grant (out-Statement x)) (statement_step p t w a rest grant (out-Statement x)) s
      (λ h. of_statement rest grant (out-Statement x) s h) e
