-- What the code reads of an instruction is what the statements that remain say.
use Rattle.std.proofs.Common.{◌≡◌, ℕ, Bool, true, false, not, ◌||◌, if◌then◌else◌, List, ◌∷◌, ap, sym, refl, ◌∙◌, inl, inr}
use Rattle.flt_rules.specs.declared.held.Access.TheVariants.{Exclusive, Shared}
use Rattle.flt_tree.specs.Registered.{numbered}
use Rattle.flt_tree.specs.declared.filter.Callback.{Callback}
use Rattle.flt_tree.specs.declared.filter.Condition.TheVariants as condition
use Rattle.flt_tree.specs.declared.filter.FallibleCall.{FallibleCall}
use Rattle.flt_tree.specs.declared.filter.FallibleCall.TheVariants as fallible
use Rattle.flt_tree.specs.declared.filter.PlainCall.{PlainCall}
use Rattle.flt_tree.specs.declared.filter.PlainCall.TheVariants as plain
use Rattle.flt_tree.specs.declared.filter.Routine.{Routine}
use Rattle.flt_tree.specs.declared.filter.Span.{Span}
use Rattle.flt_tree.specs.declared.filter.Statement.{Statement, out-Statement}
use Rattle.flt_tree.specs.declared.filter.Statement.TheOpen.{Statement-F}
use Rattle.flt_graph.specs.declared.instruction.Instruction.{Instruction}
use Rattle.flt_graph.specs.declared.instruction.Instruction.TheVariants as instruction
use Rattle.flt_graph.specs.declared.instruction.ResolvedCall.{ResolvedCall}
use Rattle.flt_graph.specs.declared.instruction.ResolvedCall.TheVariants as resolved
use Rattle.flt_machine_frames.specs.Firsts.{Remains}
use Rattle.flt_machine_frames.specs.declared.standing.Standing.{Standing}
use Rattle.flt_model.specs.Locks.{holders_of, is_free_for}
use Rattle.flt_model.specs.World.{World, actor_at}
use Rattle.flt_machine_calls.specs.Plans.{choice_at, begins_with_choice, leaves_choice_by}
use Rattle.flt_machine_calls.specs.declared.caller.Caller.{Caller}
use Rattle.flt_machine.specs.Blocking.{is_blocked_by, is_blocked}
use Rattle.flt_machine.specs.Calls.{is_refused_lock, leaves_choice_at}

-- ---- locks

module _ (w : World) (c : Caller) (filter_is : (actor_at w c.activation).filter ≡ c.filter) where
  call_refused : (span : Span) (x : PlainCall) (granted refused : ℕ) →
      is_refused_lock w.store c (instruction.Call (resolved.Plain x) granted refused) ≡
      is_blocked_by w c.activation (Statement-F.Call span x)
  call_refused span (plain.DeleteContext d) granted refused = refl
  call_refused span (plain.ReferenceContext d e) granted refused = refl
  call_refused span (plain.ReleaseContext d) granted refused = refl
  call_refused span (plain.AcquireLock k l) granted refused =
      ap (λ (f : ℕ). not (is_free_for c.activation Exclusive (holders_of w.store f l))) (sym filter_is)
  call_refused span (plain.AcquirePushLockShared l) granted refused =
      ap (λ (f : ℕ). not (is_free_for c.activation Shared (holders_of w.store f l))) (sym filter_is)
  call_refused span (plain.ReleaseLock k l) granted refused = refl
  call_refused span (plain.CompletePendedPreOperation d st) granted refused = refl
  call_refused span plain.CompletePendedPostOperation granted refused = refl

  asked_refused : (cs : List Callback) (x : FallibleCall Routine) (granted refused : ℕ) →
      is_refused_lock w.store c (instruction.Call (resolved.Fallible (numbered cs x)) granted refused) ≡ false
  asked_refused cs (fallible.AllocateContext d) granted refused = refl
  asked_refused cs (fallible.GetContext on d) granted refused = refl
  asked_refused cs (fallible.SetContext on existing d old) granted refused = refl
  asked_refused cs (fallible.DeleteContextOf on old) granted refused = refl
  asked_refused cs (fallible.InsertIo d) granted refused = refl
  asked_refused cs (fallible.RemoveNextIo o d) granted refused = refl
  asked_refused cs (fallible.QueueDeferredIoWorkItem r d) granted refused = refl
  asked_refused cs (fallible.QueueGenericWorkItem r d) granted refused = refl

  -- what blocks a list is what blocks its first statement
  by_first : (rest later : List Statement) (first : Statement) (text : Statement-F Statement) →
      rest ≡ first ∷ later → out-Statement first ≡ text →
      is_blocked w c.activation rest ≡ is_blocked_by w c.activation text
  by_first rest later first text is same = ap (is_blocked w c.activation) is ∙ ap (is_blocked_by w c.activation) same

  -- a lock is refused to the instruction where it is refused to the statement
  pub refused_is : (cs : List Callback) (s : Standing) (rest : List Statement) (i : Instruction) → Remains cs s rest i →
      is_refused_lock w.store c i ≡ is_blocked w c.activation rest
  refused_is cs s rest (instruction.Act x on) r = sym (by_first rest r.later r.first (Statement-F.Act r.span x) r.rest_is r.text)
  refused_is cs s rest (instruction.Call made granted refused) (inl r) =
      ap (λ (k : ResolvedCall). is_refused_lock w.store c (instruction.Call k granted refused)) r.made_is ∙
      call_refused r.span r.call granted refused ∙
      sym (by_first rest r.later r.first (Statement-F.Call r.span r.call) r.rest_is r.text)
  refused_is cs s rest (instruction.Call made granted refused) (inr r) =
      ap (λ (k : ResolvedCall). is_refused_lock w.store c (instruction.Call k granted refused)) r.made_is ∙
      asked_refused cs r.call granted refused ∙
      sym (by_first rest r.later r.first
      (Statement-F.If r.span (condition.Succeeds r.call) r.granted_block r.refused_block) r.rest_is r.text)
  refused_is cs s rest (instruction.Test x granted refused) r =
      sym (by_first rest r.later r.first (Statement-F.If r.span (condition.Test x) r.granted_block r.refused_block) r.rest_is r.text)
  refused_is cs s rest (instruction.Repeat turns body behind) r =
      sym (ap (is_blocked w c.activation) r.rest_is ∙ ap (is_blocked_by w c.activation) r.text)
  refused_is cs s rest (instruction.Return st) r = sym (by_first rest r.later r.first (Statement-F.Return r.span st) r.rest_is r.text)
  refused_is cs s rest instruction.End r = sym (ap (is_blocked w c.activation) r)

-- ---- the choice

call_choice : (x : PlainCall) (granted refused : ℕ) → leaves_choice_at (instruction.Call (resolved.Plain x) granted refused) ≡ false
call_choice (plain.DeleteContext d) granted refused = refl
call_choice (plain.ReferenceContext d e) granted refused = refl
call_choice (plain.ReleaseContext d) granted refused = refl
call_choice (plain.AcquireLock k l) granted refused = refl
call_choice (plain.AcquirePushLockShared l) granted refused = refl
call_choice (plain.ReleaseLock k l) granted refused = refl
call_choice (plain.CompletePendedPreOperation d st) granted refused = refl
call_choice plain.CompletePendedPostOperation granted refused = refl

asked_choice : (cs : List Callback) (x : FallibleCall Routine) (granted refused : ℕ) (span : Span) (holds fails : List Statement) →
    leaves_choice_at (instruction.Call (resolved.Fallible (numbered cs x)) granted refused) ≡
    leaves_choice_by (Statement-F.If span (condition.Succeeds x) holds fails)
asked_choice cs (fallible.AllocateContext d) granted refused span holds fails = refl
asked_choice cs (fallible.GetContext on d) granted refused span holds fails = refl
asked_choice cs (fallible.SetContext on existing d old) granted refused span holds fails = refl
asked_choice cs (fallible.DeleteContextOf on old) granted refused span holds fails = refl
asked_choice cs (fallible.InsertIo d) granted refused span holds fails = refl
asked_choice cs (fallible.RemoveNextIo o d) granted refused span holds fails = refl
asked_choice cs (fallible.QueueDeferredIoWorkItem r d) granted refused span holds fails = refl
asked_choice cs (fallible.QueueGenericWorkItem r d) granted refused span holds fails = refl

begins_by : (rest later : List Statement) (first : Statement) (text : Statement-F Statement) →
    rest ≡ first ∷ later → out-Statement first ≡ text →
    begins_with_choice rest ≡ leaves_choice_by text
begins_by rest later first text is same = ap begins_with_choice is ∙ ap (λ (s : Statement-F Statement). leaves_choice_by s) same

-- an instruction leaves a choice where the statement does
begins_is : (cs : List Callback) (s : Standing) (rest : List Statement) (i : Instruction) →
    Remains cs s rest i → leaves_choice_at i ≡ begins_with_choice rest
begins_is cs s rest (instruction.Act x on) r = sym (begins_by rest r.later r.first (Statement-F.Act r.span x) r.rest_is r.text)
begins_is cs s rest (instruction.Call made granted refused) (inl r) =
    ap (λ (k : ResolvedCall). leaves_choice_at (instruction.Call k granted refused)) r.made_is ∙ call_choice r.call granted refused ∙
    sym (begins_by rest r.later r.first (Statement-F.Call r.span r.call) r.rest_is r.text)
begins_is cs s rest (instruction.Call made granted refused) (inr r) =
    ap (λ (k : ResolvedCall). leaves_choice_at (instruction.Call k granted refused)) r.made_is ∙
    asked_choice cs r.call granted refused r.span r.granted_block r.refused_block ∙
    sym (begins_by rest r.later r.first
    (Statement-F.If r.span (condition.Succeeds r.call) r.granted_block r.refused_block) r.rest_is r.text)
begins_is cs s rest (instruction.Test x granted refused) r =
    sym (begins_by rest r.later r.first (Statement-F.If r.span (condition.Test x) r.granted_block r.refused_block) r.rest_is r.text)
begins_is cs s rest (instruction.Repeat turns body behind) r =
    sym (ap begins_with_choice r.rest_is ∙ ap (λ (x : Statement-F Statement). leaves_choice_by x) r.text)
begins_is cs s rest (instruction.Return st) r = sym (begins_by rest r.later r.first (Statement-F.Return r.span st) r.rest_is r.text)
begins_is cs s rest instruction.End r = sym (ap begins_with_choice r)

written_choice : (grant leaves : Bool) → (grant || not leaves) ≡ (if leaves then grant else true)
written_choice true true = refl
written_choice true false = refl
written_choice false true = refl
written_choice false false = refl

-- the choice that the code writes is the one that is written
pub choice_is : (cs : List Callback) (s : Standing) (rest : List Statement) (i : Instruction) (grant : Bool) →
    Remains cs s rest i → (grant || not (leaves_choice_at i)) ≡ choice_at rest grant
choice_is cs s rest i grant r =
    written_choice grant (leaves_choice_at i) ∙ ap (λ (b : Bool). if b then grant else true) (begins_is cs s rest i r)
