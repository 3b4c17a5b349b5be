-- A step that isn't local is enabled by the choice that is written for it, unless it asks for a lock that another holds.
use Rattle.std.proofs.Common.{◌≡◌, ◌↔◌, ℕ, Bool, true, false, not, ◌||◌, if◌then◌else◌}
use Rattle.std.proofs.Common.{List, [], ◌∷◌, ◌++◌, Option, Some, None, sym, subst, refl}
use Rattle.flt_tree.specs.declared.filter.Action.{Action}
use Rattle.flt_tree.specs.declared.filter.Action.TheVariants as action
use Rattle.flt_tree.specs.declared.filter.Condition.TheVariants as condition
use Rattle.flt_tree.specs.declared.filter.Filter.{Filter}
use Rattle.flt_tree.specs.declared.filter.PlainCall.{PlainCall}
use Rattle.flt_tree.specs.declared.filter.PlainCall.TheVariants as plain
use Rattle.flt_tree.specs.declared.filter.Span.{Span}
use Rattle.flt_tree.specs.declared.filter.Statement.{Statement, out-Statement}
use Rattle.flt_tree.specs.declared.filter.Statement.TheOpen.{Statement-F}
use Rattle.flt_tree.specs.declared.filter.Test.{Test}
use Rattle.flt_tree.specs.declared.filter.Test.TheVariants as test
use Rattle.flt_model.specs.declared.event.Event.{Event}
use Rattle.flt_model.specs.Effects.{Step}
use Rattle.flt_model.specs.LocalSteps.{after_statement, local_step}
use Rattle.flt_rules.specs.declared.held.Access.TheVariants.{Exclusive, Shared}
use Rattle.flt_model.specs.Runs.{Moment, next}
use Rattle.flt_model.specs.Steps.{Board, list_step, first_step, plain_step, fallible_step, may_be_refused, may_take}
use Rattle.flt_model.specs.World.{World, Activation, activation_at}
use Rattle.flt_machine_calls.specs.Plans.{leaves_choice_by, begins_with_choice, choice_at}
use Rattle.flt_machine.specs.Blocking.{is_blocked_by, is_blocked}

-- a step is there unless it is blocked
abbrev Exact : Option Step → Bool → Type 0
Exact o b = (o ≡ None) ↔ (b ≡ true)

there : (o : Option Step) (s : Step) → o ≡ Some s → Exact o false
there o s is = (λ e. absurd (cc), λ e. absurd (cc))

chosen : (b : Bool) (o : Option Step) → Exact (if b then o else None) (not b) →
    Exact (if (true) then (if b then o else None) else None) (not b)
chosen b o e = e

free_or_not : (b : Bool) (s : Step) → Exact (if b then Some s else None) (not b)
free_or_not true s = (λ e. absurd (cc), λ e. absurd (cc))
free_or_not false s = (λ e. refl, λ e. refl)

may : (b grant : Bool) (s : Step) → (if ((if b then grant else true) || b) then Some s else None) ≡ Some s
may true true s = refl
may true false s = refl
may false grant s = refl

module _ (p : List Filter) (t : List Event) (w : World) (a : ℕ) (grant draining : Bool) (act : Activation) (rest : List Statement) where
  abbrev first : Statement-F Statement → Option Step
  first s = first_step p t w a rest (if leaves_choice_by s then grant else true) s

  action_exact : (span : Span) (x : Action) → after_statement draining act rest (Statement-F.Act span x) ≡ None →
      Exact (first (Statement-F.Act span x)) false
  action_exact span (action.SetNumber n e) is = absurd (cc)
  action_exact span (action.ClearContext c) is = absurd (cc)
  action_exact span (action.ClearOperation o) is = absurd (cc)
  action_exact span (action.ReadValue n c) is = there (first (Statement-F.Act span (action.ReadValue n c))) _ refl
  action_exact span (action.ReadFile n d) is = there (first (Statement-F.Act span (action.ReadFile n d))) _ refl
  action_exact span (action.WriteValue c x) is = there (first (Statement-F.Act span (action.WriteValue c x))) _ refl

  call_exact : (span : Span) (c : PlainCall) → Exact (first (Statement-F.Call span c)) (is_blocked_by w a (Statement-F.Call span c))
  call_exact span (plain.DeleteContext c) = there (first (Statement-F.Call span (plain.DeleteContext c))) _ refl
  call_exact span (plain.ReferenceContext c d) = there (first (Statement-F.Call span (plain.ReferenceContext c d))) _ refl
  call_exact span (plain.ReleaseContext c) = there (first (Statement-F.Call span (plain.ReleaseContext c))) _ refl
  call_exact span (plain.AcquireLock k l) = free_or_not (may_take w a l Exclusive) (plain_step p t w a rest (plain.AcquireLock k l))
  call_exact span (plain.AcquirePushLockShared l) =
      free_or_not (may_take w a l Shared) (plain_step p t w a rest (plain.AcquirePushLockShared l))
  call_exact span (plain.ReleaseLock k l) = there (first (Statement-F.Call span (plain.ReleaseLock k l))) _ refl
  call_exact span (plain.CompletePendedPreOperation d st) =
      there (first (Statement-F.Call span (plain.CompletePendedPreOperation d st))) _ refl
  call_exact span plain.CompletePendedPostOperation = there (first (Statement-F.Call span plain.CompletePendedPostOperation)) _ refl

  test_exact : (span : Span) (x : Test) (granted refused : List Statement) →
      after_statement draining act rest (Statement-F.If span (condition.Test x) granted refused) ≡ None →
      Exact (first (Statement-F.If span (condition.Test x) granted refused)) false
  test_exact span (test.ContextIsSome c) granted refused is = absurd (cc)
  test_exact span (test.OperationIsSome o) granted refused is = absurd (cc)
  test_exact span (test.Equal n x) granted refused is = absurd (cc)
  test_exact span (test.Less n x) granted refused is = absurd (cc)
  test_exact span test.IsDraining granted refused is = absurd (cc)
  test_exact span test.IsIrp granted refused is = there (first (Statement-F.If span (condition.Test test.IsIrp) granted refused)) _ refl

  layer_exact : (s : Statement-F Statement) → after_statement draining act rest s ≡ None → Exact (first s) (is_blocked_by w a s)
  layer_exact (Statement-F.Act span x) is = action_exact span x is
  layer_exact (Statement-F.Call span c) is = call_exact span c
  layer_exact (Statement-F.Return span st) is = there (first (Statement-F.Return span st)) _ refl
  layer_exact (Statement-F.If span (condition.Test x) granted refused) is = test_exact span x granted refused is
  layer_exact (Statement-F.If span (condition.Succeeds c) granted refused) is =
      there (first (Statement-F.If span (condition.Succeeds c) granted refused))
      (fallible_step p t w a (if may_be_refused c then grant else true) (granted ++ rest) (refused ++ rest) c)
      (may (may_be_refused c) grant
      (fallible_step p t w a (if may_be_refused c then grant else true) (granted ++ rest) (refused ++ rest) c))
  layer_exact (Statement-F.Repeat span turns block) is = absurd (cc)

list_exact : (p : List Filter) (t : List Event) (w : World) (a : ℕ) (grant draining : Bool) (act : Activation) (list : List Statement) →
    local_step draining act list ≡ None →
    Exact (list_step p t w a list (if begins_with_choice list then grant else true)) (is_blocked w a list)
list_exact p t w a grant draining act [] is = (λ e. absurd (cc), λ e. absurd (cc))
list_exact p t w a grant draining act (s ∷ rest) is = layer_exact p t w a grant draining act rest (out-Statement s) is

-- a step that others see can't be made just where it asks for a lock that another activation holds
pub blocked_exact : (p : List Filter) (m : Moment) (a : ℕ) (grant draining : Bool) (act : Activation) →
    activation_at m.world a ≡ act → act.ended ≡ false → local_step draining act act.rest ≡ None →
    (next p m (Board a (choice_at (activation_at m.world a).rest grant)) ≡ None) ↔ (is_blocked m.world a act.rest ≡ true)
blocked_exact p m a grant draining act is goes seen =
    let whole : next p m (Board a (choice_at (activation_at m.world a).rest grant)) ≡
    list_step p m.trace m.world a act.rest (if begins_with_choice act.rest then grant else true) = rw (is, goes) refl in
    subst (λ (o : Option Step). (o ≡ None) ↔ (is_blocked m.world a act.rest ≡ true)) (sym whole)
    (list_exact p m.trace m.world a grant draining act act.rest seen)
