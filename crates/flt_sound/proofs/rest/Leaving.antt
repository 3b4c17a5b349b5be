-- A step that others see, of an activation of an accepted filter, leaves no more of another filter: a visit that it gives back is its own
-- filter's, since a variable owns it. Here p is the program, m the moment, a the activation, s its shadow, f the other filter.
use Rattle.std.proofs.Common.{◌≡◌, ◌≢◌, ℕ, ◌<◌, Bool, true, false, List, [], ◌∷◌, ◌++◌, length, Some, None, ap, sym, refl, ◌∙◌}
use Rattle.std.specs.Prelude.{if◌then◌else◌}
use Rattle.std.proofs.Math.ListN.{get_or, get_or-map}
use Rattle.flt_rules.specs.declared.held.Access.TheVariants.{Exclusive, Shared}
use Rattle.flt_tree.specs.Filter.{context_of}
use Rattle.flt_tree.specs.declared.filter.Action.{Action}
use Rattle.flt_tree.specs.declared.filter.Action.TheVariants as action
use Rattle.flt_tree.specs.declared.filter.Condition.{Condition}
use Rattle.flt_tree.specs.declared.filter.Condition.TheVariants as condition
use Rattle.flt_tree.specs.declared.filter.Filter.{Filter}
use Rattle.flt_tree.specs.declared.filter.PlainCall.{PlainCall}
use Rattle.flt_tree.specs.declared.filter.PlainCall.TheVariants as plain_call
use Rattle.flt_tree.specs.declared.filter.Span.{Span}
use Rattle.flt_tree.specs.declared.filter.Statement.{Statement, out-Statement}
use Rattle.flt_tree.specs.declared.filter.Statement.TheOpen.{Statement-F}
use Rattle.flt_tree.specs.declared.filter.Test.{Test}
use Rattle.flt_tree.specs.declared.filter.Test.TheVariants as test
use Rattle.flt_tree.specs.declared.variable.OperationVariable.{OperationVariable}
use Rattle.flt_tree.specs.declared.variable.OperationVariable.TheVariants.{Data}
use Rattle.flt_graph.specs.Instruction as graph
use Rattle.flt_graph.specs.Points.{remaining_of}
use Rattle.flt_graph.specs.declared.instruction.ResolvedCall.TheVariants as resolved
use Rattle.flt_model.specs.Effects.{Step}
use Rattle.flt_model.specs.Returns.{returns}
use Rattle.flt_model.specs.Runs.{Moment, next}
use Rattle.flt_model.specs.Steps.{Board, may_go, act_step, plain_step, test_step, if_step, statement_step, list_step}
use Rattle.flt_model.specs.Variables.{context_in, operation_in, named_in}
use Rattle.flt_model.specs.World.{activation_at, actor_at, nobody, visit_at, is_settled}
use Rattle.flt_model.specs.declared.event.Object.TheVariants.{Visit}
use Rattle.flt_sound.proofs.sums.Counts.{Has}
use Rattle.flt_sound.proofs.sums.Shadows.{Owns, value_of, Shadow, no_one, plain, with_rest, operation_slot, value-operation_slot}
use Rattle.flt_sound.proofs.points.Kept.{owned_of, Kept, IsAt, activation_is}
use Rattle.flt_sound.proofs.points.Legal.{spot}
use Rattle.flt_sound.proofs.points.Local.{AfterStep}
use Rattle.flt_sound.proofs.points.Placed.{call_here}
use Rattle.flt_sound.proofs.points.Rows.{AtCall, at_call, owned_operation, operation_is}
use Rattle.flt_sound.proofs.calls.Effects.{own_filter}
use Rattle.flt_sound.proofs.ends.Frames.{given_visit, owned_visit}
use Rattle.flt_sound.proofs.rest.Others.{LeavesIt, deleted_apart, referenced_apart, released_apart, taken_apart}
use Rattle.flt_sound.proofs.rest.Others.{given_up_apart, value_read, value_written, file_read, irp_tested, complete_apart}
use Rattle.flt_sound.proofs.rest.Others.{complete_post_apart, returns_apart, fallible_apart}

module _ {p : List Filter} {m : Moment} {a : ℕ} (s : Shadow) (st : Statement) (rest : List Statement)
    (at : IsAt p m a (with_rest s (st ∷ rest))) (f : ℕ) (ne : own_filter at ≢ f) (there : a < length m.world.activations) where
  -- no more of the filter is there
  abbrev Leaves : Step → Type 0
  Leaves s = LeavesIt m.world a f ne there s

  -- a visit that a variable owns is the activation's own filter's
  visit_owned : (d : OperationVariable) (v : ℕ) → operation_slot (with_rest s (st ∷ rest)) d ≡ Owns v → (u : ℕ) →
      operation_in (activation_at m.world a) d ≡ Some u → (visit_at m.world.store u).filter ≢ f
  visit_owned d v owns u e h =
      let same : Some v ≡ Some u = sym (operation_is at d (Owns v) owns) ∙ e in
      let one : v ≡ u = cc in
      ne (sym (owned_visit at d v owns).filter_is ∙ (ap (λ v. (visit_at m.world.store v).filter) one ∙ h))

  plain_apart : (span : Span) (c : PlainCall) → out-Statement st ≡ Statement-F.Call span c → Leaves (plain_step p m.trace m.world a rest c)
  plain_apart span c e =
      let i = call_here (spot at) span c e in
      by c (at_call at (resolved.Plain c) i.0 i.0 i.1 rest rest (ap (λ y. remaining_of y rest true) e)
      (ap (λ y. remaining_of y rest false) e))
    where
      by : (c : PlainCall) → AtCall at (graph.plain c) rest rest → Leaves (plain_step p m.trace m.world a rest c)
      by (plain_call.DeleteContext c) k = deleted_apart m.world a f ne there rest (context_in (activation_at m.world a) c)
      by (plain_call.ReferenceContext c d) k = referenced_apart m.world a f ne there d rest (context_in (activation_at m.world a) c)
      by (plain_call.ReleaseContext c) k = released_apart m.world a f ne there rest (context_in (activation_at m.world a) c)
      by (plain_call.AcquireLock kind l) k = taken_apart m.world a f ne there l Exclusive rest
      by (plain_call.AcquirePushLockShared l) k = taken_apart m.world a f ne there l Shared rest
      by (plain_call.ReleaseLock kind l) k = given_up_apart m.world a f ne there l rest
      by (plain_call.CompletePendedPreOperation d status) k =
          let o = owned_operation at d k.fine.r04 in
          complete_apart m.world a f ne there p d status rest (operation_in (activation_at m.world a) d)
          (named_in (activation_at m.world a) (context_of status)) (visit_owned d o.object o.is)
      by plain_call.CompletePendedPostOperation k =
          let o = owned_operation at Data k.fine.r04 in
          complete_post_apart m.world a f ne there p rest (operation_in (activation_at m.world a) Data) (visit_owned Data o.object o.is)

  act_apart : (x : Action) → AfterStep (act_step p m.trace m.world a rest x) Leaves
  act_apart (action.ReadValue n c) = value_read m.world a f ne there n rest (context_in (activation_at m.world a) c)
  act_apart (action.ReadFile n d) = file_read m.world a f ne there n rest (operation_in (activation_at m.world a) d)
  act_apart (action.WriteValue c x) = value_written m.world a f ne there x rest (context_in (activation_at m.world a) c)
  act_apart (action.SetNumber n x) = tt
  act_apart (action.ClearContext c) = tt
  act_apart (action.ClearOperation o) = tt

  test_apart : (x : Test) (holds fails : List Statement) → AfterStep (test_step p m.trace m.world a holds fails x) Leaves
  test_apart test.IsIrp holds fails = irp_tested m.world a f ne there holds fails (operation_in (activation_at m.world a) Data)
  test_apart (test.ContextIsSome c) holds fails = tt
  test_apart (test.OperationIsSome o) holds fails = tt
  test_apart (test.Equal n x) holds fails = tt
  test_apart (test.Less n x) holds fails = tt
  test_apart test.IsDraining holds fails = tt

  if_apart : (asked : Condition) (grant : Bool) (granted refused : List Statement) →
      AfterStep (if_step p m.trace m.world a grant granted refused asked) Leaves
  if_apart (condition.Test x) grant granted refused = test_apart x granted refused
  if_apart (condition.Succeeds c) grant granted refused = fallible_apart m.world a f ne there p m.trace grant granted refused c

  -- what `data` names is its own filter's visit
  data_own : (u : ℕ) → operation_in (activation_at m.world a) Data ≡ Some u → (visit_at m.world.store u).filter ≢ f
  data_own u e h =
      let value : value_of (operation_slot (with_rest s (st ∷ rest)) Data) ≡ Some u =
      sym (ap (λ act. operation_in act Data) (activation_is at) ∙ value-operation_slot (with_rest s (st ∷ rest)) Data) ∙ e in
      ne (sym (given_visit at u value).filter_is ∙ h)

  statement_apart : (layer : Statement-F Statement) (grant : Bool) → out-Statement st ≡ layer →
      AfterStep (statement_step p m.trace m.world a rest grant layer) Leaves
  statement_apart (Statement-F.Act span x) grant e = act_apart x
  statement_apart (Statement-F.Call span c) grant e = plain_apart span c e
  statement_apart (Statement-F.Return span status) grant e = returns_apart m.world a f ne there p m.trace status data_own
  statement_apart (Statement-F.If span asked granted refused) grant e = if_apart asked grant (granted ++ rest) (refused ++ rest)
  statement_apart (Statement-F.Repeat span turns block) grant e = tt

  first_apart : (layer : Statement-F Statement) (grant : Bool) → out-Statement st ≡ layer → (b : Bool) →
      AfterStep (if b then statement_step p m.trace m.world a rest grant layer else None) Leaves
  first_apart layer grant e true = statement_apart layer grant e
  first_apart layer grant e false = tt

-- ---- the step of an activation

-- at the end of a body
end_apart : {p : List Filter} {m : Moment} {a : ℕ} (s : Shadow) (at : IsAt p m a s) (f : ℕ) (ne : own_filter at ≢ f)
    (there : a < length m.world.activations) →
    LeavesIt m.world a f ne there (returns p m.trace m.world a None)
end_apart {p} {m} {a} s at f ne there = returns_apart m.world a f ne there p m.trace None (λ u e h.
    let value : value_of (operation_slot s Data) ≡ Some u =
    sym (ap (λ act. operation_in act Data) (activation_is at) ∙ value-operation_slot s Data) ∙ e in
    ne (sym (given_visit at u value).filter_is ∙ h))

list_apart : {p : List Filter} {m : Moment} {a : ℕ} (s : Shadow) (list : List Statement) (grant : Bool) (at : IsAt p m a (with_rest s list))
    (f : ℕ) (ne : (actor_at m.world a).filter ≢ f) (there : a < length m.world.activations) → AfterStep
    (list_step p m.trace m.world a list grant) (LeavesIt m.world a f ne there)
list_apart s [] true at f ne there = end_apart (with_rest s []) at f ne there
list_apart s [] false at f ne there = tt
list_apart {m = m} {a = a} s (st ∷ rest) grant at f ne there =
    first_apart s st rest at f ne there (out-Statement st) grant refl (may_go m.world a grant (out-Statement st))

board_by : (p : List Filter) (m : Moment) (k : Kept p m) (a : ℕ) (grant : Bool) (s : Shadow) (list : List Statement) (ended : Bool) →
    get_or k.shadows a no_one ≡ s → s.rest ≡ list → s.ended ≡ ended →
    (ended ≡ false → (v : ℕ) → Has m.trace a (Visit v) → is_settled m.world.store v ≡ false) →
    (f : ℕ) (ne : (actor_at m.world a).filter ≢ f) (there : a < length m.world.activations) →
    AfterStep (if ended then None else list_step p m.trace m.world a list grant) (LeavesIt m.world a f ne there)
board_by p m k a grant s list true e r on owned f ne there = tt
board_by p m k a grant s list false e r on owned f ne there =
    let same : s ≡ with_rest s list = ap (λ (l : List Statement). with_rest s l) r in
    list_apart s list grant (record { kept = k; is = e ∙ same; on = on; owned = owned refl }) f ne there

-- a step that others see leaves no more of a filter that isn't the activation's
pub board_apart : (p : List Filter) (m : Moment) → Kept p m → (a : ℕ) (grant : Bool) (f : ℕ) (ne : (actor_at m.world a).filter ≢ f)
    (there : a < length m.world.activations) →
    AfterStep (next p m (Board a grant)) (LeavesIt m.world a f ne there)
board_apart p m k a grant f ne there =
    let s = get_or k.shadows a no_one in
    let e : activation_at m.world a ≡ plain s = ap (λ l. get_or l a nobody) k.same ∙ get_or-map plain k.shadows a no_one in
    board_by p m k a grant s (activation_at m.world a).rest (activation_at m.world a).ended refl (sym (ap (λ act. act.rest) e))
    (sym (ap (λ act. act.ended) e))
    (λ on v h. owned_of k a v h) f ne there
