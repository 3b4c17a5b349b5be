-- What an instruction makes of facts.
use Rattle.std.proofs.Common.{◌≡◌, ◌==◌, ◌&&◌, ◌||◌, Bool, true, false, Option, Some, None, slice_index_or, ap, sym, refl, ◌∙◌}
use Rattle.std.specs.Prelude.{not}
use Rattle.std.proofs.lemmas.Bool.{and_parts, and_from, eqb-true}
use Rattle.flt_rules.specs.Held.{holds_lock}
use Rattle.flt_rules.specs.Place.{is_irp, same_mode}
use Rattle.flt_rules.specs.Table.{row}
use Rattle.flt_rules.specs.declared.call.LockNumber.{LockNumber}
use Rattle.flt_rules.specs.declared.columns.Change.{Change}
use Rattle.flt_rules.specs.declared.columns.Change.TheVariants as becomes
use Rattle.flt_rules.specs.declared.columns.Effects.{Effects}
use Rattle.flt_rules.specs.declared.columns.LockChange.{LockChange}
use Rattle.flt_rules.specs.declared.columns.LockChange.TheVariants as list
use Rattle.flt_rules.specs.declared.place.Mode.{Mode}
use Rattle.flt_rules.specs.declared.place.Mode.TheVariants.{Irp, Fast}
use Rattle.flt_tree.specs.Variable.{context_place, operation_place}
use Rattle.flt_tree.specs.declared.filter.Action.{Action}
use Rattle.flt_tree.specs.declared.filter.Action.TheVariants as action
use Rattle.flt_tree.specs.declared.filter.Test.{Test}
use Rattle.flt_tree.specs.declared.filter.Test.TheVariants as test
use Rattle.flt_tree.specs.declared.variable.ContextVariable.{ContextVariable}
use Rattle.flt_tree.specs.declared.variable.OperationVariable.{OperationVariable}
use Rattle.flt_tree.specs.declared.variable.OperationVariable.TheVariants.{Removed}
use Rattle.flt_graph.specs.Instruction.{roles}
use Rattle.flt_graph.specs.declared.instruction.Instruction.{Instruction}
use Rattle.flt_graph.specs.declared.instruction.Instruction.TheVariants as instruction
use Rattle.flt_graph.specs.declared.instruction.Invocation.{Invocation}
use Rattle.flt_abs.specs.Outcome.{context_now, operation_now, left, failed, acted, is_null, agrees, may_find, may_come_out, leaves}
use Rattle.flt_abs.specs.State.{Status, Null, Held, Stale, Situation}
use Rattle.flt_explain_origins.specs.Facts.{same_status, is_so, context_change, operation_change, lock_change, acted_context, acted_operation}
use Rattle.flt_explain_origins.specs.Facts.{failed_context, failed_operation, failed_lock, is_left, is_lock_left, stays, lock_stays}
use Rattle.flt_explain_origins.specs.Facts.{leaves_alone, is_null_status, finds, may_find_with, lets_pass, IsWhole, Made, Kept, MadeOrKept}
use Rattle.flt_explain_origins.specs.declared.facts.Fact.{Fact}
use Rattle.flt_explain_origins.specs.declared.facts.Fact.TheVariants as fact
use Rattle.flt_explain_origins.specs.declared.facts.VariableStatus.{VariableStatus}
use Rattle.flt_explain_origins.specs.declared.facts.VariableStatus.TheVariants as is
use Rattle.flt_explain_origins.proofs.HeldLocks.{held_after, holds_after}
use Rattle.flt_explain_origins.proofs.Situations.{status_from, context_at, contexts_at, operation_at, call_leaves}

-- ---- what is so behind an instruction

failed_context_now : (c : Invocation) (effects : Option Effects) (gives : Bool) (t : Situation) (v : ContextVariable) → IsWhole t →
    context_now (failed c effects gives t) v ≡ status_from (left (failed_context c effects v) gives) (context_now t v)
failed_context_now c (Some e) gives t v h =
    ap (λ x. context_now x v) (call_leaves c e gives t)
    ∙ contexts_at c.context c.output e.context e.output gives t.contexts v h.contexts
failed_context_now c None gives t v h = refl

acted_context_now : (a : Action) (gives : Bool) (t : Situation) (v : ContextVariable) → IsWhole t →
    context_now (acted a t) v ≡ status_from (left (acted_context a v) gives) (context_now t v)
acted_context_now (action.ClearContext c) gives t v h =
    context_at (Some c) becomes.Null gives t.contexts v h.contexts
acted_context_now (action.ClearOperation o) gives t v h = refl
acted_context_now (action.SetNumber n a) gives t v h = refl
acted_context_now (action.ReadValue n c) gives t v h = refl
acted_context_now (action.ReadFile n d) gives t v h = refl
acted_context_now (action.WriteValue c a) gives t v h = refl

-- what is so of a variable of contexts behind an instruction
context_behind : (i : Instruction) (outcome gives : Bool) (t : Situation) (v : ContextVariable) → IsWhole t →
    context_now (leaves i outcome gives t) v ≡ status_from (left (context_change i outcome v) gives) (context_now t v)
context_behind (instruction.Act a next) outcome gives t v h = acted_context_now a gives t v h
context_behind (instruction.Call c granted refused) true gives t v h =
    failed_context_now (roles c) (Some (row (roles c).call).on_ok) gives t v h
context_behind (instruction.Call c granted refused) false gives t v h =
    failed_context_now (roles c) (row (roles c).call).on_fail gives t v h
context_behind (instruction.Test q granted refused) outcome gives t v h = refl
context_behind (instruction.Repeat turns block next) outcome gives t v h = refl
context_behind (instruction.Return status) outcome gives t v h = refl
context_behind instruction.End outcome gives t v h = refl

failed_operation_now : (c : Invocation) (effects : Option Effects) (gives : Bool) (t : Situation) (v : OperationVariable) → IsWhole t →
    operation_now (failed c effects gives t) v ≡ status_from (left (failed_operation c effects v) gives) (operation_now t v)
failed_operation_now c (Some e) gives t v h =
    ap (λ x. operation_now x v) (call_leaves c e gives t)
    ∙ operation_at c.operation e.operation gives t.operations v h.operations
failed_operation_now c None gives t v h = refl

acted_operation_now : (a : Action) (gives : Bool) (t : Situation) (v : OperationVariable) → IsWhole t →
    operation_now (acted a t) v ≡ status_from (left (acted_operation a v) gives) (operation_now t v)
acted_operation_now (action.ClearOperation o) gives t v h =
    operation_at (Some (Removed o)) becomes.Null gives t.operations v h.operations
acted_operation_now (action.ClearContext c) gives t v h = refl
acted_operation_now (action.SetNumber n a) gives t v h = refl
acted_operation_now (action.ReadValue n c) gives t v h = refl
acted_operation_now (action.ReadFile n d) gives t v h = refl
acted_operation_now (action.WriteValue c a) gives t v h = refl

-- what is so of a variable of operations behind an instruction
operation_behind : (i : Instruction) (outcome gives : Bool) (t : Situation) (v : OperationVariable) → IsWhole t →
    operation_now (leaves i outcome gives t) v ≡ status_from (left (operation_change i outcome v) gives) (operation_now t v)
operation_behind (instruction.Act a next) outcome gives t v h = acted_operation_now a gives t v h
operation_behind (instruction.Call c granted refused) true gives t v h =
    failed_operation_now (roles c) (Some (row (roles c).call).on_ok) gives t v h
operation_behind (instruction.Call c granted refused) false gives t v h =
    failed_operation_now (roles c) (row (roles c).call).on_fail gives t v h
operation_behind (instruction.Test q granted refused) outcome gives t v h = refl
operation_behind (instruction.Repeat turns block next) outcome gives t v h = refl
operation_behind (instruction.Return status) outcome gives t v h = refl
operation_behind instruction.End outcome gives t v h = refl

failed_lock_now : (c : Invocation) (effects : Option Effects) (gives : Bool) (t : Situation) (l : LockNumber) → IsWhole t →
    holds_lock l (failed c effects gives t).locks ≡ held_after (failed_lock c effects l) (holds_lock l t.locks)
failed_lock_now c (Some e) gives t l h =
    ap (λ (x : Situation). holds_lock l x.locks) (call_leaves c e gives t) ∙ holds_after c.lock e.lock l t.locks h.locks
failed_lock_now c None gives t l h = refl

acted_locks : (a : Action) (t : Situation) → (acted a t).locks ≡ t.locks
acted_locks (action.ClearContext c) t = refl
acted_locks (action.ClearOperation o) t = refl
acted_locks (action.SetNumber n a) t = refl
acted_locks (action.ReadValue n c) t = refl
acted_locks (action.ReadFile n d) t = refl
acted_locks (action.WriteValue c a) t = refl

-- whether a lock is held behind an instruction
lock_behind : (i : Instruction) (outcome gives : Bool) (t : Situation) (l : LockNumber) → IsWhole t →
    holds_lock l (leaves i outcome gives t).locks ≡ held_after (lock_change i outcome l) (holds_lock l t.locks)
lock_behind (instruction.Act a next) outcome gives t l h = ap (holds_lock l) (acted_locks a t)
lock_behind (instruction.Call c granted refused) true gives t l h = failed_lock_now (roles c) (Some (row (roles c).call).on_ok) gives t l h
lock_behind (instruction.Call c granted refused) false gives t l h = failed_lock_now (roles c) (row (roles c).call).on_fail gives t l h
lock_behind (instruction.Test q granted refused) outcome gives t l h = refl
lock_behind (instruction.Repeat turns block next) outcome gives t l h = refl
lock_behind (instruction.Return status) outcome gives t l h = refl
lock_behind instruction.End outcome gives t l h = refl

failed_mode : (c : Invocation) (effects : Option Effects) (gives : Bool) (t : Situation) → (failed c effects gives t).mode ≡ t.mode
failed_mode c (Some e) gives t = ap (λ (x : Situation). x.mode) (call_leaves c e gives t)
failed_mode c None gives t = refl

acted_mode : (a : Action) (t : Situation) → (acted a t).mode ≡ t.mode
acted_mode (action.ClearContext c) t = refl
acted_mode (action.ClearOperation o) t = refl
acted_mode (action.SetNumber n a) t = refl
acted_mode (action.ReadValue n c) t = refl
acted_mode (action.ReadFile n d) t = refl
acted_mode (action.WriteValue c a) t = refl

-- the mode stays
mode_behind : (i : Instruction) (outcome gives : Bool) (t : Situation) → (leaves i outcome gives t).mode ≡ t.mode
mode_behind (instruction.Act a next) outcome gives t = acted_mode a t
mode_behind (instruction.Call c granted refused) true gives t = failed_mode (roles c) (Some (row (roles c).call).on_ok) gives t
mode_behind (instruction.Call c granted refused) false gives t = failed_mode (roles c) (row (roles c).call).on_fail gives t
mode_behind (instruction.Test q granted refused) outcome gives t = refl
mode_behind (instruction.Repeat turns block next) outcome gives t = refl
mode_behind (instruction.Return status) outcome gives t = refl
mode_behind instruction.End outcome gives t = refl

failed_draining : (c : Invocation) (effects : Option Effects) (gives : Bool) (t : Situation) →
    (failed c effects gives t).draining ≡ t.draining
failed_draining c (Some e) gives t = ap (λ (x : Situation). x.draining) (call_leaves c e gives t)
failed_draining c None gives t = refl

acted_draining : (a : Action) (t : Situation) → (acted a t).draining ≡ t.draining
acted_draining (action.ClearContext c) t = refl
acted_draining (action.ClearOperation o) t = refl
acted_draining (action.SetNumber n a) t = refl
acted_draining (action.ReadValue n c) t = refl
acted_draining (action.ReadFile n d) t = refl
acted_draining (action.WriteValue c a) t = refl

-- and so does draining
draining_behind : (i : Instruction) (outcome gives : Bool) (t : Situation) → (leaves i outcome gives t).draining ≡ t.draining
draining_behind (instruction.Act a next) outcome gives t = acted_draining a t
draining_behind (instruction.Call c granted refused) true gives t = failed_draining (roles c) (Some (row (roles c).call).on_ok) gives t
draining_behind (instruction.Call c granted refused) false gives t = failed_draining (roles c) (row (roles c).call).on_fail gives t
draining_behind (instruction.Test q granted refused) outcome gives t = refl
draining_behind (instruction.Repeat turns block next) outcome gives t = refl
draining_behind (instruction.Return status) outcome gives t = refl
draining_behind instruction.End outcome gives t = refl

-- ---- what is made

status_made : (change : Change) (gives : Bool) (s : VariableStatus) (u : Status) → is_left change gives s ≡ true →
    same_status s (status_from (left change gives) u) ≡ true
status_made becomes.Stays gives s u e = cc
status_made becomes.Null gives is.Null u e = refl
status_made becomes.Null gives is.Held u e = cc
status_made becomes.Null gives is.Stale u e = cc
status_made becomes.Held gives is.Null u e = cc
status_made becomes.Held gives is.Held u e = refl
status_made becomes.Held gives is.Stale u e = cc
status_made becomes.Stale gives is.Null u e = cc
status_made becomes.Stale gives is.Held u e = cc
status_made becomes.Stale gives is.Stale u e = refl
status_made becomes.NullOrHeld true is.Held u e = refl
status_made becomes.NullOrHeld false is.Held u e = cc
status_made becomes.NullOrHeld true is.Null u e = cc
status_made becomes.NullOrHeld false is.Null u e = refl
status_made becomes.NullOrHeld gives is.Stale u e = cc

lock_made : (change : LockChange) (b x : Bool) → is_lock_left change b ≡ true → agrees (held_after change x) b ≡ true
lock_made list.Stays b x e = cc
lock_made (list.Taken a) true x e = refl
lock_made (list.Taken a) false x e = cc
lock_made list.Released true x e = cc
lock_made list.Released false x e = refl

-- an instruction that makes a fact leaves it so, whatever was so before
pub made : Made
made i outcome gives (fact.Context v s) t h e =
    ap (same_status s) (context_behind i outcome gives t v h) ∙ status_made (context_change i outcome v) gives s (context_now t v) e
made i outcome gives (fact.Operation v s) t h e =
    ap (same_status s) (operation_behind i outcome gives t v h) ∙ status_made (operation_change i outcome v) gives s (operation_now t v) e
made i outcome gives (fact.Mode m) t h e = cc
made i outcome gives (fact.Draining b) t h e = cc
made i outcome gives (fact.Lock l b) t h e =
    ap (λ x. agrees x b) (lock_behind i outcome gives t l h) ∙ lock_made (lock_change i outcome l) b (holds_lock l t.locks) e

-- ---- what is kept

status_kept : (change : Change) (gives : Bool) (u : Status) → stays change ≡ true → status_from (left change gives) u ≡ u
status_kept becomes.Stays gives u e = refl
status_kept becomes.Null gives u e = cc
status_kept becomes.Held gives u e = cc
status_kept becomes.Stale gives u e = cc
status_kept becomes.NullOrHeld gives u e = cc

lock_kept : (change : LockChange) (x : Bool) → lock_stays change ≡ true → held_after change x ≡ x
lock_kept list.Stays x e = refl
lock_kept (list.Taken a) x e = cc
lock_kept list.Released x e = cc

alone_kept : (i : Instruction) (outcome gives : Bool) (f : Fact) (t : Situation) → IsWhole t → leaves_alone i outcome f ≡ true →
    is_so f (leaves i outcome gives t) ≡ is_so f t
alone_kept i outcome gives (fact.Context v s) t h e =
    ap (same_status s) (context_behind i outcome gives t v h ∙ status_kept (context_change i outcome v) gives (context_now t v) e)
alone_kept i outcome gives (fact.Operation v s) t h e =
    ap (same_status s) (operation_behind i outcome gives t v h ∙ status_kept (operation_change i outcome v) gives (operation_now t v) e)
alone_kept i outcome gives (fact.Mode m) t h e = ap (same_mode m) (mode_behind i outcome gives t)
alone_kept i outcome gives (fact.Draining b) t h e = ap (λ x. agrees x b) (draining_behind i outcome gives t)
alone_kept i outcome gives (fact.Lock l b) t h e =
    ap (λ x. agrees x b) (lock_behind i outcome gives t l h ∙ lock_kept (lock_change i outcome l) (holds_lock l t.locks) e)

-- an instruction that keeps a fact leaves it as it was
pub kept : Kept
kept i outcome gives f t h e = alone_kept i outcome gives f t h (and_parts (leaves_alone i outcome f) (lets_pass i outcome f) e).0

-- ---- what may come out

-- a status is NULL exactly where it is the same as one that is
null_alike : (s : VariableStatus) (u : Status) → same_status s u ≡ true → is_null_status s ≡ is_null u
null_alike is.Null Null e = refl
null_alike is.Null Held e = cc
null_alike is.Null Stale e = cc
null_alike is.Held Null e = cc
null_alike is.Held Held e = refl
null_alike is.Held Stale e = cc
null_alike is.Stale Null e = cc
null_alike is.Stale Held e = cc
null_alike is.Stale Stale e = refl

mode_alike : (m n : Mode) → same_mode m n ≡ true → is_irp m ≡ is_irp n
mode_alike Irp Irp e = refl
mode_alike Irp Fast e = cc
mode_alike Fast Irp e = cc
mode_alike Fast Fast e = refl

answer_alike : (x b : Bool) → agrees x b ≡ true → b ≡ x
answer_alike true true e = refl
answer_alike true false e = cc
answer_alike false true e = cc
answer_alike false false e = refl

-- a test of a variable finds what the fact says of it
found_context : (c v : ContextVariable) (s : VariableStatus) (t : Situation) (outcome b : Bool) → (context_place c == context_place v) ≡ b →
    same_status s (context_now t v) ≡ true → agrees (not (is_null (context_now t c))) outcome ≡ true → finds b s outcome ≡ true
found_context c v s t outcome true same so e =
    ap (λ x. agrees (not x) outcome) (null_alike s (context_now t v) so)
    ∙ sym (ap (λ p. agrees (not (is_null (slice_index_or t.contexts p Null))) outcome)
    (eqb-true (context_place c) (context_place v) same)) ∙ e
found_context c v s t outcome false same so e = refl

found_operation : (c v : OperationVariable) (s : VariableStatus) (t : Situation) (outcome b : Bool) →
    (operation_place c == operation_place v) ≡ b → same_status s (operation_now t v) ≡ true →
    agrees (not (is_null (operation_now t c))) outcome ≡ true → finds b s outcome ≡ true
found_operation c v s t outcome true same so e =
    ap (λ x. agrees (not x) outcome) (null_alike s (operation_now t v) so)
    ∙ sym (ap (λ p. agrees (not (is_null (slice_index_or t.operations p Null))) outcome)
    (eqb-true (operation_place c) (operation_place v) same)) ∙ e
found_operation c v s t outcome false same so e = refl

test_passes : (q : Test) (outcome : Bool) (f : Fact) (t : Situation) → is_so f t ≡ true → may_find q t outcome ≡ true →
    may_find_with q f outcome ≡ true
test_passes (test.ContextIsSome c) outcome (fact.Context v s) t so e =
    found_context c v s t outcome (context_place c == context_place v) refl so e
test_passes (test.ContextIsSome c) outcome (fact.Operation v s) t so e = refl
test_passes (test.ContextIsSome c) outcome (fact.Mode m) t so e = refl
test_passes (test.ContextIsSome c) outcome (fact.Draining b) t so e = refl
test_passes (test.ContextIsSome c) outcome (fact.Lock l b) t so e = refl
test_passes (test.OperationIsSome o) outcome (fact.Operation v s) t so e =
    found_operation (Removed o) v s t outcome (operation_place (Removed o) == operation_place v) refl so e
test_passes (test.OperationIsSome o) outcome (fact.Context v s) t so e = refl
test_passes (test.OperationIsSome o) outcome (fact.Mode m) t so e = refl
test_passes (test.OperationIsSome o) outcome (fact.Draining b) t so e = refl
test_passes (test.OperationIsSome o) outcome (fact.Lock l b) t so e = refl
test_passes test.IsIrp outcome (fact.Mode m) t so e = ap (λ x. agrees x outcome) (mode_alike m t.mode so) ∙ e
test_passes test.IsIrp outcome (fact.Context v s) t so e = refl
test_passes test.IsIrp outcome (fact.Operation v s) t so e = refl
test_passes test.IsIrp outcome (fact.Draining b) t so e = refl
test_passes test.IsIrp outcome (fact.Lock l b) t so e = refl
test_passes test.IsDraining outcome (fact.Draining b) t so e = ap (λ x. agrees x outcome) (answer_alike t.draining b so) ∙ e
test_passes test.IsDraining outcome (fact.Context v s) t so e = refl
test_passes test.IsDraining outcome (fact.Operation v s) t so e = refl
test_passes test.IsDraining outcome (fact.Mode m) t so e = refl
test_passes test.IsDraining outcome (fact.Lock l b) t so e = refl
test_passes (test.Equal x y) outcome f t so e = refl
test_passes (test.Less x y) outcome f t so e = refl

-- an instruction that comes out so where a fact is so may do so
passes : (i : Instruction) (outcome : Bool) (f : Fact) (t : Situation) → is_so f t ≡ true → may_come_out i t outcome ≡ true →
    lets_pass i outcome f ≡ true
passes (instruction.Act a next) outcome f t so e = e
passes (instruction.Call c granted refused) true f t so e = e
passes (instruction.Call c granted refused) false f t so e = e
passes (instruction.Test q granted refused) outcome f t so e = test_passes q outcome f t so e
passes (instruction.Repeat turns block next) outcome f t so e = e
passes (instruction.Return status) outcome f t so e = e
passes instruction.End outcome f t so e = e

-- ---- what was made or kept

or_left : (x y : Bool) → x ≡ true → (x || y) ≡ true
or_left true y e = refl
or_left false y e = cc

status_split : (change : Change) (gives : Bool) (s : VariableStatus) (u : Status) (p : Bool) →
    same_status s (status_from (left change gives) u) ≡ true → (same_status s u ≡ true → p ≡ true) →
    (is_left change gives s || ((stays change && p) && same_status s u)) ≡ true
status_split becomes.Stays gives s u p e q = and_from p (same_status s u) (q e) e
status_split becomes.Null gives is.Null u p e q = refl
status_split becomes.Null gives is.Held u p e q = cc
status_split becomes.Null gives is.Stale u p e q = cc
status_split becomes.Held gives is.Null u p e q = cc
status_split becomes.Held gives is.Held u p e q = refl
status_split becomes.Held gives is.Stale u p e q = cc
status_split becomes.Stale gives is.Null u p e q = cc
status_split becomes.Stale gives is.Held u p e q = cc
status_split becomes.Stale gives is.Stale u p e q = refl
status_split becomes.NullOrHeld true is.Null u p e q = cc
status_split becomes.NullOrHeld false is.Null u p e q = refl
status_split becomes.NullOrHeld true is.Held u p e q = refl
status_split becomes.NullOrHeld false is.Held u p e q = cc
status_split becomes.NullOrHeld true is.Stale u p e q = cc
status_split becomes.NullOrHeld false is.Stale u p e q = cc

lock_split : (change : LockChange) (b x p : Bool) → agrees (held_after change x) b ≡ true → (agrees x b ≡ true → p ≡ true) →
    (is_lock_left change b || ((lock_stays change && p) && agrees x b)) ≡ true
lock_split list.Stays b x p e q = and_from p (agrees x b) (q e) e
lock_split (list.Taken a) true x p e q = refl
lock_split (list.Taken a) false x p e q = cc
lock_split list.Released true x p e q = cc
lock_split list.Released false x p e q = refl

-- what is so after an instruction was made there, or was so before and is kept
pub made_or_kept : MadeOrKept
made_or_kept i outcome gives (fact.Context v s) t h come e =
    status_split (context_change i outcome v) gives s (context_now t v) (lets_pass i outcome (fact.Context v s))
    (sym (ap (same_status s) (context_behind i outcome gives t v h)) ∙ e) (λ so. passes i outcome (fact.Context v s) t so come)
made_or_kept i outcome gives (fact.Operation v s) t h come e =
    status_split (operation_change i outcome v) gives s (operation_now t v) (lets_pass i outcome (fact.Operation v s))
    (sym (ap (same_status s) (operation_behind i outcome gives t v h)) ∙ e) (λ so. passes i outcome (fact.Operation v s) t so come)
made_or_kept i outcome gives (fact.Mode m) t h come e =
    let so = sym (ap (same_mode m) (mode_behind i outcome gives t)) ∙ e in
    and_from (lets_pass i outcome (fact.Mode m)) (same_mode m t.mode) (passes i outcome (fact.Mode m) t so come) so
made_or_kept i outcome gives (fact.Draining b) t h come e =
    let so = sym (ap (λ x. agrees x b) (draining_behind i outcome gives t)) ∙ e in
    and_from (lets_pass i outcome (fact.Draining b)) (agrees t.draining b) (passes i outcome (fact.Draining b) t so come) so
made_or_kept i outcome gives (fact.Lock l b) t h come e =
    lock_split (lock_change i outcome l) b (holds_lock l t.locks) (lets_pass i outcome (fact.Lock l b))
    (sym (ap (λ x. agrees x b) (lock_behind i outcome gives t l h)) ∙ e) (λ so. passes i outcome (fact.Lock l b) t so come)
