-- The steps of an activation that others see, one statement at a time: reads and writes, calls, returns. The activation's first
-- statement is the instruction of the point at which it stands, so that statement's own lemma applies, with what the graph's rules
-- say of the instruction.
-- p is the program, m the moment, a the activation, s its shadow; st is its first statement, rest the others, q a place.
use Rattle.std.proofs.Common.{◌≡◌, ℕ, Bool, true, false, List, [], ◌∷◌, ◌++◌, Some, None, ap, sym, subst, refl, ◌∙◌}
use Rattle.std.specs.Prelude.{if◌then◌else◌}
use Rattle.std.proofs.Math.ListN.{get_or, get_or-map}
use Rattle.flt_rules.specs.declared.place.Place.{Place}
use Rattle.flt_rules.specs.declared.place.Place.TheVariants as place
use Rattle.flt_tree.specs.Declarations.{has_event, same_event}
use Rattle.flt_tree.specs.Registered.{numbered}
use Rattle.flt_tree.specs.declared.filter.Action.{Action}
use Rattle.flt_tree.specs.declared.filter.Action.TheVariants as action
use Rattle.flt_tree.specs.declared.filter.Callback.{Callback}
use Rattle.flt_tree.specs.declared.filter.Condition.{Condition}
use Rattle.flt_tree.specs.declared.filter.Condition.TheVariants as condition
use Rattle.flt_tree.specs.declared.filter.FallibleCall.{FallibleCall}
use Rattle.flt_tree.specs.declared.filter.FallibleCall.TheVariants as fallible_call
use Rattle.flt_tree.specs.declared.filter.Filter.{Filter}
use Rattle.flt_tree.specs.declared.filter.Head.{Head}
use Rattle.flt_tree.specs.declared.filter.Head.TheVariants as head
use Rattle.flt_tree.specs.declared.filter.PlainCall.{PlainCall}
use Rattle.flt_tree.specs.declared.filter.PlainCall.TheVariants as plain_call
use Rattle.flt_tree.specs.declared.filter.Routine.{Routine}
use Rattle.flt_tree.specs.declared.filter.Span.{Span}
use Rattle.flt_tree.specs.declared.filter.Statement.{Statement, out-Statement}
use Rattle.flt_tree.specs.declared.filter.Statement.TheOpen.{Statement-F}
use Rattle.flt_tree.specs.declared.filter.Test.{Test}
use Rattle.flt_tree.specs.declared.filter.Test.TheVariants as test
use Rattle.flt_graph.specs.Graph.{place_at as graph_place}
use Rattle.flt_graph.specs.Instruction as graph
use Rattle.flt_graph.specs.Points.{remaining_of}
use Rattle.flt_graph.specs.declared.instruction.Instruction.{Instruction}
use Rattle.flt_graph.specs.declared.instruction.Instruction.TheVariants as instruction
use Rattle.flt_graph.specs.declared.instruction.ResolvedCall.{ResolvedCall}
use Rattle.flt_graph.specs.declared.instruction.ResolvedCall.TheVariants as resolved
use Rattle.flt_graph.specs.Served.{IsRoutine, IsDeferred, IsCallServed, IsInstructionServed}
use Rattle.flt_model.specs.Program.{callbacks_at, has_head, is_canceled, routine_of, place_for}
use Rattle.flt_model.specs.Runs.{Moment, next}
use Rattle.flt_model.specs.Steps.{Board, may_go, act_step, plain_step, fallible_step, test_step, if_step, statement_step, list_step}
use Rattle.flt_model.specs.World.{activation_at, nobody, is_settled}
use Rattle.flt_model.specs.declared.event.Object.TheVariants.{Visit}
use Rattle.flt_sound.proofs.sums.Counts.{Has}
use Rattle.flt_sound.proofs.sums.Shadows.{Shadow, no_one, plain, with_rest}
use Rattle.flt_sound.proofs.points.Kept.{owned_of, Kept, Good, IsAt}
use Rattle.flt_sound.proofs.points.Legal.{spot, place_same, callbacks_there}
use Rattle.flt_sound.proofs.points.Local.{AfterStep}
use Rattle.flt_sound.proofs.points.Placed.{here, act_here, call_here, return_here, if_here, end_here}
use Rattle.flt_sound.proofs.points.Rows.{AtCall, at_call, AtAct, at_act, at_test}
use Rattle.flt_sound.proofs.calls.Contexts.{allocate_good, get_good, delete_at_good, delete_good, reference_good, release_good}
use Rattle.flt_sound.proofs.calls.SetContext.{set_good}
use Rattle.flt_sound.proofs.calls.Handing.{insert_good}
use Rattle.flt_sound.proofs.calls.Locking.{acquire_good, acquire_shared_good, release_lock_good}
use Rattle.flt_sound.proofs.calls.Queueing.{Fits, IsRoutineAt, deferred_good, generic_good}
use Rattle.flt_sound.proofs.calls.Reading.{read_value_good, write_value_good, read_file_good, test_irp_good}
use Rattle.flt_sound.proofs.calls.Removing.{remove_good}
use Rattle.flt_sound.proofs.calls.Effects.{own_filter}
use Rattle.flt_sound.proofs.ends.Completing.{complete_pre_good, complete_post_good}
use Rattle.flt_sound.proofs.ends.Returning.{returns_good, at_return, at_end}

-- ---- what a filter has

-- the syntax's test for the callback that takes canceled entries is the machine's, of a head
canceled_one : (h : Head) → same_event h head.Canceled ≡ is_canceled h
canceled_one (head.Pre kind) = refl
canceled_one (head.Post kind) = refl
canceled_one head.Canceled = refl
canceled_one (head.DeferredPre name) = refl
canceled_one (head.DeferredPost name) = refl
canceled_one (head.Generic name) = refl

-- and of a list of callbacks
canceled_same : (cs : List Callback) → has_event head.Canceled cs ≡ has_head is_canceled cs
canceled_same [] = refl
canceled_same (c ∷ cs) = rw (canceled_one c.head, canceled_same cs) refl

-- the routine that a call names is there, and of the kind that the call wants
named : (f : Filter) (q : Place) (r : Routine) → IsRoutine f.callbacks q (Some (routine_of f.callbacks r)) →
    IsRoutineAt f.callbacks q (routine_of f.callbacks r)
named f q r h = record { callback = h.0; there = h.1.0; place_is = ap place_for h.1.0 ∙ h.1.1 }

module _ {p : List Filter} {m : Moment} {a : ℕ} (s : Shadow) (st : Statement) (rest : List Statement)
    (at : IsAt p m a (with_rest s (st ∷ rest))) where
  -- ---- statements that are no calls

  -- a read or write is good
  act_good : (span : Span) (x : Action) → out-Statement st ≡ Statement-F.Act span x →
      AfterStep (act_step p m.trace m.world a rest x) (Good p m)
  act_good span x e = by x (let i = act_here (spot at) span x e in at_act at x i.0 i.1 rest (ap (λ y. remaining_of y rest true) e))
    where
      by : (x : Action) → AtAct at x rest → AfterStep (act_step p m.trace m.world a rest x) (Good p m)
      by (action.ReadValue n c) k = read_value_good at n c rest k
      by (action.ReadFile n d) k = read_file_good at n d rest k
      by (action.WriteValue c y) k = write_value_good at c y rest k
      by (action.SetNumber n y) k = tt
      by (action.ClearContext c) k = tt
      by (action.ClearOperation o) k = tt

  -- the test of whether an operation is an IRP is good; the other tests are local steps
  irp_good : (span : Span) (t : Test) (granted refused : List Statement) →
      out-Statement st ≡ Statement-F.If span (condition.Test t) granted refused →
      AfterStep (test_step p m.trace m.world a (granted ++ rest) (refused ++ rest) t) (Good p m)
  irp_good span (test.ContextIsSome c) granted refused e = tt
  irp_good span (test.OperationIsSome o) granted refused e = tt
  irp_good span (test.Equal n x) granted refused e = tt
  irp_good span (test.Less n x) granted refused e = tt
  irp_good span test.IsDraining granted refused e = tt
  irp_good span test.IsIrp granted refused e =
      let i = if_here (spot at) span (condition.Test test.IsIrp) granted refused e in
      test_irp_good at (granted ++ rest) (refused ++ rest) (at_test at test.IsIrp i.0 i.1.0 i.1.1 (granted ++ rest) (refused ++ rest) side)
    where
      side : (b : Bool) → remaining_of (out-Statement st) rest b ≡ Some (if b then (granted ++ rest) else (refused ++ rest))
      side true = ap (λ y. remaining_of y rest true) e
      side false = ap (λ y. remaining_of y rest false) e

  -- ---- calls that can't fail

  plain_good : (span : Span) (c : PlainCall) → out-Statement st ≡ Statement-F.Call span c → Good p m (plain_step p m.trace m.world a rest c)
  plain_good span c e =
      let i = call_here (spot at) span c e in
      by c (at_call at (resolved.Plain c) i.0 i.0 i.1 rest rest (ap (λ y. remaining_of y rest true) e)
      (ap (λ y. remaining_of y rest false) e))
    where
      by : (c : PlainCall) → AtCall at (graph.plain c) rest rest → Good p m (plain_step p m.trace m.world a rest c)
      by (plain_call.DeleteContext c) k = delete_good at c rest k
      by (plain_call.ReferenceContext c d) k = reference_good at c d rest k
      by (plain_call.ReleaseContext c) k = release_good at c rest k
      by (plain_call.AcquireLock kind l) k = acquire_good at kind l rest k
      by (plain_call.AcquirePushLockShared l) k = acquire_shared_good at l rest k
      by (plain_call.ReleaseLock kind l) k = release_lock_good at kind l rest k
      by (plain_call.CompletePendedPreOperation d status) k = complete_pre_good at d status rest k
      by plain_call.CompletePendedPostOperation k = complete_post_good at rest k

  -- ---- calls that can fail

  -- the filter's callbacks, as its text has them
  abbrev callbacks : List Callback
  callbacks = (spot at).filter.callbacks

  -- and as the program has them
  callbacks_is : callbacks_at p (own_filter at) ≡ callbacks
  callbacks_is = callbacks_there p (own_filter at) (spot at).filter (spot at).there

  -- what the filter has for the call at its point
  served_here : (c : ResolvedCall) (x y : ℕ) → here (spot at) ≡ instruction.Call c x y →
      IsCallServed callbacks (graph_place (spot at).graph (spot at).number) (graph.roles c).call (graph.roles c).routine
  served_here c x y h =
      let q = spot at in
      subst (λ (j : Instruction). IsInstructionServed callbacks (graph_place q.graph q.number) j) h
      (q.laws.served q.filter q.graph q.number q.point q.well_formed q.lowered)

  -- a routine of the callback's kind fits what the callback was given
  fits_by : (q : Place) (r : Routine) → IsDeferred callbacks q (Some (routine_of callbacks r)) →
      Fits at (routine_of (callbacks_at p (own_filter at)) r) q
  fits_by (place.Pre kind) r h = rw callbacks_is (named (spot at).filter place.DeferredPre r h)
  fits_by (place.Post kind) r h = rw callbacks_is (named (spot at).filter place.DeferredPost r h)
  fits_by place.Canceled r h = tt
  fits_by place.DeferredPre r h = tt
  fits_by place.DeferredPost r h = tt
  fits_by place.Generic r h = tt

  -- each call that can fail is good
  call_good : (c : FallibleCall Routine) (x y : ℕ) (grant : Bool) (granted refused : List Statement) →
      here (spot at) ≡ instruction.Call (resolved.Fallible (numbered callbacks c)) x y →
      AtCall at (graph.fallible (numbered callbacks c)) granted refused →
      Good p m (fallible_step p m.trace m.world a grant granted refused c)
  call_good (fallible_call.AllocateContext d) x y grant granted refused h k = allocate_good at d grant granted refused k
  call_good (fallible_call.GetContext on d) x y grant granted refused h k = get_good at on d granted refused k
  call_good (fallible_call.SetContext on existing c d) x y grant granted refused h k =
      set_good at existing on c d granted refused k
  call_good (fallible_call.DeleteContextOf on d) x y grant granted refused h k = delete_at_good at on d granted refused k
  call_good (fallible_call.InsertIo c) x y grant granted refused h k =
      let served = served_here (resolved.Fallible (fallible_call.InsertIo c)) x y h in
      let there : has_head is_canceled callbacks ≡ true = sym (canceled_same callbacks) ∙ served in
      insert_good at c granted refused k (rw callbacks_is there)
  call_good (fallible_call.RemoveNextIo o d) x y grant granted refused h k = remove_good at o d granted refused k
  call_good (fallible_call.QueueDeferredIoWorkItem r c) x y grant granted refused h k =
      let q = spot at in
      let routine = routine_of (callbacks_at p (own_filter at)) r in
      let served = served_here (resolved.Fallible (numbered callbacks (fallible_call.QueueDeferredIoWorkItem r c))) x y h in
      let fits = fits_by (graph_place q.graph q.number) r served in
      deferred_good at (routine_of callbacks r) routine c grant granted refused k (subst (λ q. Fits at routine q) (place_same q) fits)
  call_good (fallible_call.QueueGenericWorkItem r c) x y grant granted refused h k =
      let served = served_here (resolved.Fallible (numbered callbacks (fallible_call.QueueGenericWorkItem r c))) x y h in
      let routine = routine_of (callbacks_at p (own_filter at)) r in
      generic_good at (routine_of callbacks r) routine c grant granted refused k
      (rw callbacks_is (named (spot at).filter place.Generic r served))

  fallible_good : (span : Span) (c : FallibleCall Routine) (granted refused : List Statement) (grant : Bool) →
      out-Statement st ≡ Statement-F.If span (condition.Succeeds c) granted refused →
      Good p m (fallible_step p m.trace m.world a grant (granted ++ rest) (refused ++ rest) c)
  fallible_good span c granted refused grant e =
      let i = if_here (spot at) span (condition.Succeeds c) granted refused e in
      let k = at_call at (resolved.Fallible (numbered callbacks c)) i.0 i.1.0 i.1.1 (granted ++ rest) (refused ++ rest)
      (ap (λ y. remaining_of y rest true) e) (ap (λ y. remaining_of y rest false) e) in
      call_good c i.0 i.1.0 grant (granted ++ rest) (refused ++ rest) i.1.1 k

  -- ---- each statement

  if_good : (span : Span) (asked : Condition) (granted refused : List Statement) (grant : Bool) →
      out-Statement st ≡ Statement-F.If span asked granted refused →
      AfterStep (if_step p m.trace m.world a grant (granted ++ rest) (refused ++ rest) asked) (Good p m)
  if_good span (condition.Test t) granted refused grant e = irp_good span t granted refused e
  if_good span (condition.Succeeds c) granted refused grant e = fallible_good span c granted refused grant e

  statement_good : (layer : Statement-F Statement) (grant : Bool) → out-Statement st ≡ layer →
      AfterStep (statement_step p m.trace m.world a rest grant layer) (Good p m)
  statement_good (Statement-F.Act span x) grant e = act_good span x e
  statement_good (Statement-F.Call span c) grant e = plain_good span c e
  statement_good (Statement-F.Return span status) grant e =
      returns_good at status (at_return at status (return_here (spot at) span status e))
  statement_good (Statement-F.If span asked granted refused) grant e = if_good span asked granted refused grant e
  statement_good (Statement-F.Repeat span turns block) grant e = tt

  -- a statement is good where it may go, and is no step elsewhere
  first_good : (layer : Statement-F Statement) (grant : Bool) → out-Statement st ≡ layer → (b : Bool) →
      AfterStep (if b then statement_step p m.trace m.world a rest grant layer else None) (Good p m)
  first_good layer grant e true = statement_good layer grant e
  first_good layer grant e false = tt

-- ---- the step of an activation

-- the step of what remains of an activation is good
list_good : {p : List Filter} {m : Moment} {a : ℕ} (s : Shadow) (list : List Statement) (grant : Bool) → IsAt p m a (with_rest s list) →
    AfterStep (list_step p m.trace m.world a list grant) (Good p m)
list_good s [] true at = returns_good at None (at_end at (end_here (spot at)))
list_good s [] false at = tt
list_good {m = m} {a = a} s (st ∷ rest) grant at =
    first_good s st rest at (out-Statement st) grant refl (may_go m.world a grant (out-Statement st))

-- an activation that has ended takes no step
board_by : (p : List Filter) (m : Moment) (k : Kept p m) (a : ℕ) (grant : Bool) (s : Shadow) (list : List Statement) (ended : Bool) →
    get_or k.shadows a no_one ≡ s → s.rest ≡ list → s.ended ≡ ended →
    (ended ≡ false → (v : ℕ) → Has m.trace a (Visit v) → is_settled m.world.store v ≡ false) →
    AfterStep (if ended then None else list_step p m.trace m.world a list grant) (Good p m)
board_by p m k a grant s list true e r on owned = tt
board_by p m k a grant s list false e r on owned =
    let same : s ≡ with_rest s list = ap (λ (l : List Statement). with_rest s l) r in
    list_good s list grant (record { kept = k; is = e ∙ same; on = on; owned = owned refl })

-- each step that an activation takes and others see is good
pub board_good : (p : List Filter) (m : Moment) → Kept p m → (a : ℕ) (grant : Bool) → AfterStep (next p m (Board a grant)) (Good p m)
board_good p m k a grant =
    let s = get_or k.shadows a no_one in
    let e : activation_at m.world a ≡ plain s = ap (λ l. get_or l a nobody) k.same ∙ get_or-map plain k.shadows a no_one in
    board_by p m k a grant s (activation_at m.world a).rest (activation_at m.world a).ended refl (sym (ap (λ act. act.rest) e))
    (sym (ap (λ act. act.ended) e))
    (λ on v h. owned_of k a v h)
