-- Where no rule fires, a state without an empty set leads to states without one.
use Rattle.std.proofs.Common.{◌≡◌, ℕ, Bool, true, false, List, [], ◌∷◌, ◌++◌, length, Option, Some, None, Ok, refl, subst}
use Rattle.std.specs.Prelude.{◌&&◌, ◌==◌, if◌then◌else◌}
use Rattle.std.specs.List.{list_all}
use Rattle.std.proofs.lemmas.Bool.{and_parts, and_from}
use Rattle.flt_rules.specs.Held.{held, holds_lock}
use Rattle.flt_rules.specs.Table.{row}
use Rattle.flt_rules.specs.declared.call.LockNumber.{LockNumber}
use Rattle.flt_rules.specs.declared.columns.Change.{Change}
use Rattle.flt_rules.specs.declared.columns.Change.TheVariants as becomes
use Rattle.flt_rules.specs.declared.columns.Effects.{Effects}
use Rattle.flt_rules.specs.declared.columns.LockChange.{LockChange}
use Rattle.flt_rules.specs.declared.columns.LockChange.TheVariants as list
use Rattle.flt_rules.specs.declared.held.Access.{Access}
use Rattle.flt_rules.specs.declared.held.HeldLock.{HeldLock}
use Rattle.flt_rules.specs.declared.rule.Rule.{Rule}
use Rattle.flt_tree.specs.Variable.{context_place, operation_place}
use Rattle.flt_tree.specs.declared.filter.Action.{Action}
use Rattle.flt_tree.specs.declared.filter.Action.TheVariants as action
use Rattle.flt_tree.specs.declared.filter.Test.{Test}
use Rattle.flt_tree.specs.declared.filter.Test.TheVariants as test
use Rattle.flt_tree.specs.declared.variable.ContextVariable.{ContextVariable}
use Rattle.flt_tree.specs.declared.variable.OperationVariable.{OperationVariable}
use Rattle.flt_tree.specs.declared.variable.OperationVariable.TheVariants.{Removed}
use Rattle.flt_graph.specs.Graph.{instruction_at}
use Rattle.flt_graph.specs.Instruction.{roles}
use Rattle.flt_graph.specs.declared.graph.Graph.{Graph}
use Rattle.flt_graph.specs.declared.instruction.Instruction.{Instruction}
use Rattle.flt_graph.specs.declared.instruction.Instruction.TheVariants as instruction
use Rattle.flt_graph.specs.declared.instruction.Invocation.{Invocation}
use Rattle.flt_abs.specs.Breaks.{first_broken}
use Rattle.flt_abs.specs.Locks.{are_locks}
use Rattle.flt_abs.specs.Proper.{IsSuccessorProper, AreProper}
use Rattle.flt_abs.specs.Sets.{ModeSet, DrainingSet, null_alone, held_alone, stale_alone, null_or_held, without_null, is_possible}
use Rattle.flt_abs.specs.Sets.{is_mode_possible, is_draining_possible, irp_alone, fast_alone, no_alone, yes_alone}
use Rattle.flt_abs.specs.Setting.{setting_of}
use Rattle.flt_abs.specs.State.{State, is_proper}
use Rattle.flt_abs.specs.Step.{changed, set_context, set_operation, changed_locks, set_locks, after_call, after_action}
use Rattle.flt_abs.specs.Step.{where_true, where_false, at, after_failure, leads_to, unless_broken, transfer}
use Rattle.flt_abs.specs.Variables.{context_in, operation_in, with_context, with_operation}
use Rattle.flt_abs.specs.declared.step.Successors.{Successors}
use Rattle.flt_abs.proofs.LockLemmas.{are_locks_more, are_locks_without}
use Rattle.flt_abs.proofs.Stays.{proper_contexts, proper_operations}

-- ---- parts of a state

seven : (a b c d e f k : Bool) → (a && (b && (c && (d && (e && (f && k)))))) ≡ true →
    (a ≡ true) × (b ≡ true) × (c ≡ true) × (d ≡ true) × (e ≡ true) × (f ≡ true) × (k ≡ true)
seven a b c d e f k h =
    let first = and_parts a (b && (c && (d && (e && (f && k))))) h in
    let second = and_parts b (c && (d && (e && (f && k)))) first.1 in
    let third = and_parts c (d && (e && (f && k))) second.1 in
    let fourth = and_parts d (e && (f && k)) third.1 in
    let fifth = and_parts e (f && k) fourth.1 in
    let sixth = and_parts f k fifth.1 in
    (first.0, second.0, third.0, fourth.0, fifth.0, sixth.0, sixth.1)

all_seven : (a b c d e f k : Bool) → a ≡ true → b ≡ true → c ≡ true → d ≡ true → e ≡ true → f ≡ true → k ≡ true →
    (a && (b && (c && (d && (e && (f && k)))))) ≡ true
all_seven a b c d e f k p q r s t u v =
    and_from a (b && (c && (d && (e && (f && k))))) p
    (and_from b (c && (d && (e && (f && k)))) q
    (and_from c (d && (e && (f && k))) r
    (and_from d (e && (f && k)) s
    (and_from e (f && k) t
    (and_from f k u v)))))

abbrev AreParts : State → Type 0
AreParts x = ((length x.contexts == 9) ≡ true) × ((length x.operations == 5) ≡ true) × (list_all is_possible x.contexts ≡ true)
    × (list_all is_possible x.operations ≡ true) × (is_mode_possible x.modes ≡ true) × (is_draining_possible x.draining ≡ true)
    × (are_locks x.locks ≡ true)

parts_of : (x : State) → is_proper x ≡ true → AreParts x
parts_of x h =
    seven (length x.contexts == 9) (length x.operations == 5) (list_all is_possible x.contexts) (list_all is_possible x.operations)
    (is_mode_possible x.modes) (is_draining_possible x.draining) (are_locks x.locks) h

proper_locks : (x : State) (hs : List HeldLock) → is_proper x ≡ true → are_locks hs ≡ true → is_proper (record x { locks = hs }) ≡ true
proper_locks x hs h v =
    let p = parts_of x h in
    all_seven (length x.contexts == 9) (length x.operations == 5) (list_all is_possible x.contexts) (list_all is_possible x.operations)
    (is_mode_possible x.modes) (is_draining_possible x.draining) (are_locks hs) p.0 p.1 p.2 p.3 p.4 p.5 v

proper_modes : (x : State) (s : ModeSet) → is_proper x ≡ true → is_mode_possible s ≡ true → is_proper (record x { modes = s }) ≡ true
proper_modes x s h v =
    let p = parts_of x h in
    all_seven (length x.contexts == 9) (length x.operations == 5) (list_all is_possible x.contexts) (list_all is_possible x.operations)
    (is_mode_possible s) (is_draining_possible x.draining) (are_locks x.locks) p.0 p.1 p.2 p.3 v p.5 p.6

proper_draining : (x : State) (s : DrainingSet) → is_proper x ≡ true → is_draining_possible s ≡ true →
    is_proper (record x { draining = s }) ≡ true
proper_draining x s h v =
    let p = parts_of x h in
    all_seven (length x.contexts == 9) (length x.operations == 5) (list_all is_possible x.contexts) (list_all is_possible x.operations)
    (is_mode_possible x.modes) (is_draining_possible s) (are_locks x.locks) p.0 p.1 p.2 p.3 p.4 v p.6

-- ---- calls

proper-set_context : (x : State) (c : Option ContextVariable) (change : Change) → is_proper x ≡ true →
    is_proper (set_context c (changed change) x) ≡ true
proper-set_context x None change h = h
proper-set_context x (Some c) becomes.Stays h = h
proper-set_context x (Some c) becomes.Null h = proper_contexts x (context_place c) null_alone h refl
proper-set_context x (Some c) becomes.Held h = proper_contexts x (context_place c) held_alone h refl
proper-set_context x (Some c) becomes.Stale h = proper_contexts x (context_place c) stale_alone h refl
proper-set_context x (Some c) becomes.NullOrHeld h = proper_contexts x (context_place c) null_or_held h refl

proper-set_operation : (x : State) (d : Option OperationVariable) (change : Change) → is_proper x ≡ true →
    is_proper (set_operation d (changed change) x) ≡ true
proper-set_operation x None change h = h
proper-set_operation x (Some d) becomes.Stays h = h
proper-set_operation x (Some d) becomes.Null h = proper_operations x (operation_place d) null_alone h refl
proper-set_operation x (Some d) becomes.Held h = proper_operations x (operation_place d) held_alone h refl
proper-set_operation x (Some d) becomes.Stale h = proper_operations x (operation_place d) stale_alone h refl
proper-set_operation x (Some d) becomes.NullOrHeld h = proper_operations x (operation_place d) null_or_held h refl

taken : (hs : List HeldLock) (l : LockNumber) (a : Access) (b : Bool) → holds_lock l hs ≡ b → are_locks hs ≡ true →
    are_locks (if b then hs else hs ++ held l a ∷ []) ≡ true
taken hs l a true e h = h
taken hs l a false e h = are_locks_more hs l a h e

still_locks : (hs : List HeldLock) (l : LockNumber) (change : LockChange) →
    are_locks hs ≡ true → are_locks (changed_locks hs l change) ≡ true
still_locks hs l list.Stays h = h
still_locks hs l (list.Taken a) h = taken hs l a (holds_lock l hs) refl h
still_locks hs l list.Released h = are_locks_without l hs h

proper-set_locks : (x : State) (l : Option LockNumber) (change : LockChange) → is_proper x ≡ true → is_proper (set_locks l change x) ≡ true
proper-set_locks x (Some l) change h = proper_locks x (changed_locks x.locks l change) h (still_locks x.locks l change (parts_of x h).6)
proper-set_locks x None change h = h

proper-after_call : (x : State) (c : Invocation) (e : Effects) → is_proper x ≡ true → is_proper (after_call c e x) ≡ true
proper-after_call x c e h =
    proper-set_locks _ c.lock e.lock
    (proper-set_operation _ c.operation e.operation
    (proper-set_context _ c.output e.output
    (proper-set_context x c.context e.context h)))

-- ---- other instructions

proper-after_action : (x : State) (a : Action) → is_proper x ≡ true → is_proper (after_action x a) ≡ true
proper-after_action x (action.ClearContext c) h = proper_contexts x (context_place c) null_alone h refl
proper-after_action x (action.ClearOperation o) h = proper_operations x (operation_place (Removed o)) null_alone h refl
proper-after_action x a h = h

proper_if : (p : ℕ) (b : Bool) (x : State) → (b ≡ true → is_proper x ≡ true) → IsSuccessorProper (at p (if b then Some x else None))
proper_if p true x h = h refl
proper_if p false x h = tt

proper-where_true : (p : ℕ) (x : State) (t : Test) → is_proper x ≡ true → IsSuccessorProper (at p (where_true x t))
proper-where_true p x (test.ContextIsSome c) h =
    let some = without_null (context_in x c) in
    proper_if p (is_possible some) (with_context x c some) (λ e. proper_contexts x (context_place c) some h e)
proper-where_true p x (test.OperationIsSome o) h =
    let some = without_null (operation_in x (Removed o)) in
    proper_if p (is_possible some) (with_operation x (Removed o) some) (λ e. proper_operations x (operation_place (Removed o)) some h e)
proper-where_true p x test.IsIrp h = proper_if p _ _ (λ e. proper_modes x irp_alone h refl)
proper-where_true p x test.IsDraining h = proper_if p _ _ (λ e. proper_draining x yes_alone h refl)
proper-where_true p x t h = h

proper-where_false : (p : ℕ) (x : State) (t : Test) → is_proper x ≡ true → IsSuccessorProper (at p (where_false x t))
proper-where_false p x (test.ContextIsSome c) h = proper_if p _ _ (λ e. proper_contexts x (context_place c) null_alone h refl)
proper-where_false p x (test.OperationIsSome o) h =
    proper_if p _ _ (λ e. proper_operations x (operation_place (Removed o)) null_alone h refl)
proper-where_false p x test.IsIrp h = proper_if p _ _ (λ e. proper_modes x fast_alone h refl)
proper-where_false p x test.IsDraining h = proper_if p _ _ (λ e. proper_draining x no_alone h refl)
proper-where_false p x t h = h

proper-after_failure : (x : State) (c : Invocation) (e : Option Effects) (p : ℕ) → is_proper x ≡ true →
    IsSuccessorProper (after_failure x c e p)
proper-after_failure x c (Some e) p h = proper-after_call x c e h
proper-after_failure x c None p h = tt

proper-leads_to : (x : State) (i : Instruction) → is_proper x ≡ true → AreProper (leads_to x i)
proper-leads_to x (instruction.Act a next) h = record { first = proper-after_action x a h; second = tt }
proper-leads_to x (instruction.Call c granted failed) h =
    record {
      first = proper-after_call x (roles c) (row (roles c).call).on_ok h;
      second = proper-after_failure x (roles c) (row (roles c).call).on_fail failed h;
    }
proper-leads_to x (instruction.Test t granted refused) h =
    record { first = proper-where_true granted x t h; second = proper-where_false refused x t h }
proper-leads_to x (instruction.Repeat turns body next) h = record { first = h; second = h }
proper-leads_to x (instruction.Return st) h = record { first = tt; second = tt }
proper-leads_to x instruction.End h = record { first = tt; second = tt }

unbroken : (o : Option Rule) (m next : Successors) → unless_broken o m ≡ Ok next → m ≡ next
unbroken None m next e = cc
unbroken (Some r) m next e = cc

-- where a transfer from a proper state breaks no rule, the states to which it leads are proper
pub transfer_proper : (g : Graph) (callback point : ℕ) (x : State) (next : Successors) → is_proper x ≡ true →
    transfer g callback point x ≡ Ok next → AreProper next
transfer_proper g callback point x next h e =
    let i = instruction_at g callback point in
    subst (λ (m : Successors). AreProper m) (unbroken (first_broken (setting_of g callback x) x i) (leads_to x i) next e)
    (proper-leads_to x i h)
