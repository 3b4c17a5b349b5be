-- What an instruction makes of a situation lies where it leads.
use Rattle.std.proofs.Common.{◌≡◌, ℕ, zero, suc, Bool, true, false, List, [], ◌∷◌, Option}
use Rattle.std.proofs.Common.{Some, None, Ok, slice_index_or, ap, sym, subst, refl}
use Rattle.std.specs.Prelude.{slice_set, not, ◌||◌, if◌then◌else◌}
use Rattle.std.proofs.lemmas.Bool.{and_parts, and_from, not-true}
use Rattle.flt_rules.specs.Place.{is_irp}
use Rattle.flt_rules.specs.Table.{row}
use Rattle.flt_rules.specs.declared.call.LockNumber.{LockNumber}
use Rattle.flt_rules.specs.declared.columns.Change.{Change}
use Rattle.flt_rules.specs.declared.columns.Change.TheVariants as becomes
use Rattle.flt_rules.specs.declared.columns.Effects.{Effects}
use Rattle.flt_rules.specs.declared.columns.LockChange.{LockChange}
use Rattle.flt_rules.specs.declared.place.Mode.{Mode}
use Rattle.flt_rules.specs.declared.place.Mode.TheVariants.{Irp, Fast}
use Rattle.flt_rules.specs.declared.rule.Rule.{Rule}
use Rattle.flt_tree.specs.Variable.{context_place, operation_place}
use Rattle.flt_tree.specs.declared.filter.Action.{Action}
use Rattle.flt_tree.specs.declared.filter.Action.TheVariants as action
use Rattle.flt_tree.specs.declared.filter.Test.{Test}
use Rattle.flt_tree.specs.declared.filter.Test.TheVariants as test
use Rattle.flt_tree.specs.declared.variable.ContextVariable.{ContextVariable}
use Rattle.flt_tree.specs.declared.variable.OperationVariable.{OperationVariable}
use Rattle.flt_tree.specs.declared.variable.OperationVariable.TheVariants.{Removed}
use Rattle.flt_graph.specs.Graph.{instruction_at}
use Rattle.flt_graph.specs.Instruction.{roles}
use Rattle.flt_graph.specs.Points.{successor}
use Rattle.flt_graph.specs.declared.graph.Graph.{Graph}
use Rattle.flt_graph.specs.declared.instruction.Instruction.{Instruction}
use Rattle.flt_graph.specs.declared.instruction.Instruction.TheVariants as instruction
use Rattle.flt_graph.specs.declared.instruction.Invocation.{Invocation}
use Rattle.flt_abs.specs.Breaks.{first_broken}
use Rattle.flt_abs.specs.Outcome.{context_now, operation_now, put_context, put_operation, put_locks, left, called}
use Rattle.flt_abs.specs.Outcome.{failed, can_fail, acted, is_null, may_find, may_come_out, leaves, side, Reaches}
use Rattle.flt_abs.specs.Setting.{setting_of}
use Rattle.flt_abs.specs.Sets.{StatusSet, null_alone, without_null, is_possible, irp_alone, fast_alone, no_alone, yes_alone}
use Rattle.flt_abs.specs.State.{Status, Null, Held, Stale, Situation, State, Means, has_status, has_mode, has_draining, have_statuses}
use Rattle.flt_abs.specs.Step.{changed, set_context, set_operation, set_locks, changed_locks, after_call, after_failure}
use Rattle.flt_abs.specs.Step.{after_action, where_true, where_false, if_possible, leads_to, unless_broken, transfer}
use Rattle.flt_abs.specs.Step as step
use Rattle.flt_abs.specs.Variables.{context_in, operation_in, with_context, with_operation}
use Rattle.flt_abs.specs.declared.step.Successors.{Successors}

-- ---- one variable

-- what is so of a variable is in its set
pub have_at : (xs : List StatusSet) (ts : List Status) (i : ℕ) → have_statuses xs ts ≡ true →
    has_status (slice_index_or xs i null_alone) (slice_index_or ts i Null) ≡ true
have_at [] [] i h = refl
have_at [] (t ∷ ts) i h = cc
have_at (s ∷ xs) [] i h = cc
have_at (s ∷ xs) (t ∷ ts) zero h = (and_parts (has_status s t) (have_statuses xs ts) h).0
have_at (s ∷ xs) (t ∷ ts) (suc i) h = have_at xs ts i (and_parts (has_status s t) (have_statuses xs ts) h).1

-- a status that is put is in the set that is put
have_put : (xs : List StatusSet) (ts : List Status) (i : ℕ) (s : StatusSet) (t : Status) → have_statuses xs ts ≡ true →
    has_status s t ≡ true → have_statuses (slice_set xs i s) (slice_set ts i t) ≡ true
have_put [] [] i s t h e = refl
have_put [] (u ∷ ts) i s t h e = cc
have_put (r ∷ xs) [] i s t h e = cc
have_put (r ∷ xs) (u ∷ ts) zero s t h e = and_from _ _ e (and_parts (has_status r u) (have_statuses xs ts) h).1
have_put (r ∷ xs) (u ∷ ts) (suc i) s t h e =
    let parts = and_parts (has_status r u) (have_statuses xs ts) h in and_from _ _ parts.0 (have_put xs ts i s t parts.1 e)

-- a set that has what is so may be put
have_kept : (xs : List StatusSet) (ts : List Status) (i : ℕ) (s : StatusSet) → have_statuses xs ts ≡ true →
    has_status s (slice_index_or ts i Null) ≡ true → have_statuses (slice_set xs i s) ts ≡ true
have_kept [] [] i s h e = refl
have_kept [] (u ∷ ts) i s h e = cc
have_kept (r ∷ xs) [] i s h e = cc
have_kept (r ∷ xs) (u ∷ ts) zero s h e = and_from _ _ e (and_parts (has_status r u) (have_statuses xs ts) h).1
have_kept (r ∷ xs) (u ∷ ts) (suc i) s h e =
    let parts = and_parts (has_status r u) (have_statuses xs ts) h in and_from _ _ parts.0 (have_kept xs ts i s parts.1 e)

put_context_means : (x : State) (t : Situation) (c : ContextVariable) (s : StatusSet) (u : Status) → Means x t →
    has_status s u ≡ true → Means (with_context x c s) (put_context (Some c) (Some u) t)
put_context_means x t c s u m e =
    record {
      contexts = have_put x.contexts t.contexts (context_place c) s u m.contexts e;
      operations = m.operations;
      mode = m.mode;
      draining = m.draining;
      locks = m.locks;
    }

put_operation_means : (x : State) (t : Situation) (d : OperationVariable) (s : StatusSet) (u : Status) → Means x t →
    has_status s u ≡ true → Means (with_operation x d s) (put_operation (Some d) (Some u) t)
put_operation_means x t d s u m e =
    record {
      contexts = m.contexts;
      operations = have_put x.operations t.operations (operation_place d) s u m.operations e;
      mode = m.mode;
      draining = m.draining;
      locks = m.locks;
    }

-- ---- calls

context_change_means : (v : Option ContextVariable) (change : Change) (gives : Bool) (x : State) (t : Situation) → Means x t →
    Means (set_context v (changed change) x) (put_context v (left change gives) t)
context_change_means None change gives x t m = m
context_change_means (Some c) becomes.Stays gives x t m = m
context_change_means (Some c) becomes.Null gives x t m = put_context_means x t c _ _ m refl
context_change_means (Some c) becomes.Held gives x t m = put_context_means x t c _ _ m refl
context_change_means (Some c) becomes.Stale gives x t m = put_context_means x t c _ _ m refl
context_change_means (Some c) becomes.NullOrHeld true x t m = put_context_means x t c _ _ m refl
context_change_means (Some c) becomes.NullOrHeld false x t m = put_context_means x t c _ _ m refl

operation_change_means : (v : Option OperationVariable) (change : Change) (gives : Bool) (x : State) (t : Situation) → Means x t →
    Means (set_operation v (changed change) x) (put_operation v (left change gives) t)
operation_change_means None change gives x t m = m
operation_change_means (Some d) becomes.Stays gives x t m = m
operation_change_means (Some d) becomes.Null gives x t m = put_operation_means x t d _ _ m refl
operation_change_means (Some d) becomes.Held gives x t m = put_operation_means x t d _ _ m refl
operation_change_means (Some d) becomes.Stale gives x t m = put_operation_means x t d _ _ m refl
operation_change_means (Some d) becomes.NullOrHeld true x t m = put_operation_means x t d _ _ m refl
operation_change_means (Some d) becomes.NullOrHeld false x t m = put_operation_means x t d _ _ m refl

locks_change_means : (v : Option LockNumber) (change : LockChange) (x : State) (t : Situation) → Means x t →
    Means (set_locks v change x) (put_locks v change t)
locks_change_means None change x t m = m
locks_change_means (Some l) change x t m =
    record {
      contexts = m.contexts;
      operations = m.operations;
      mode = m.mode;
      draining = m.draining;
      locks = ap (λ locks. changed_locks locks l change) m.locks;
    }

called_means : (c : Invocation) (e : Effects) (gives : Bool) (x : State) (t : Situation) → Means x t →
    Means (after_call c e x) (called c e gives t)
called_means c e gives x t m =
    locks_change_means c.lock e.lock _ _ (operation_change_means c.operation e.operation gives _ _
    (context_change_means c.output e.output gives _ _ (context_change_means c.context e.context gives x t m)))

failure_reaches : (c : Invocation) (effects : Option Effects) (p : ℕ) (gives : Bool) (x : State) (t : Situation) → Means x t →
    can_fail effects ≡ true → Reaches (after_failure x c effects p) (Some p) (failed c effects gives t)
failure_reaches c (Some e) p gives x t m h = (refl, called_means c e gives x t m)
failure_reaches c None p gives x t m h = cc

-- ---- other instructions

acted_means : (a : Action) (x : State) (t : Situation) → Means x t → Means (after_action x a) (acted a t)
acted_means (action.ClearContext c) x t m = put_context_means x t c _ _ m refl
acted_means (action.ClearOperation o) x t m = put_operation_means x t (Removed o) _ _ m refl
acted_means (action.SetNumber n a) x t m = m
acted_means (action.ReadValue n c) x t m = m
acted_means (action.ReadFile n d) x t m = m
acted_means (action.WriteValue c a) x t m = m

-- ---- tests

has_some : (s : StatusSet) (u : Status) → has_status s u ≡ true → not (is_null u) ≡ true → has_status (without_null s) u ≡ true
has_some s Null h e = cc
has_some s Held h e = h
has_some s Stale h e = h

is_null_from : (u : Status) → is_null u ≡ true → u ≡ Null
is_null_from Null h = refl
is_null_from Held h = cc
is_null_from Stale h = cc

possible_from : (s : StatusSet) (u : Status) → has_status s u ≡ true → is_possible s ≡ true
possible_from s u h = from s.null s.held s.stale u h
  where
    from : (a b c : Bool) (u : Status) → has_status (record { null = a; held = b; stale = c }) u ≡ true → (a || (b || c)) ≡ true
    from true b c u h = refl
    from false true c u h = refl
    from false false true u h = refl
    from false false false Null h = cc
    from false false false Held h = cc
    from false false false Stale h = cc

irp_from : (k : Mode) → is_irp k ≡ true → k ≡ Irp
irp_from Irp h = refl
irp_from Fast h = cc

fast_from : (k : Mode) → not (is_irp k) ≡ true → k ≡ Fast
fast_from Irp h = cc
fast_from Fast h = refl

not_not : (b : Bool) → not (not b) ≡ true → b ≡ true
not_not true h = refl
not_not false h = cc

-- a side that is there where its set is possible
some_reaches : (s : StatusSet) (x : State) (p : ℕ) (t : Situation) → is_possible s ≡ true → Means x t →
    Reaches (step.at p (if_possible s x)) (Some p) t
some_reaches s x p t h m = rw h (refl, m)

-- a side that is there where its answer may be
answer_reaches : (b : Bool) (x : State) (p : ℕ) (t : Situation) → b ≡ true → Means x t →
    Reaches (step.at p (if b then Some x else None)) (Some p) t
answer_reaches true x p t h m = (refl, m)
answer_reaches false x p t h m = cc

true_reaches : (f : Test) (x : State) (p : ℕ) (t : Situation) → Means x t → may_find f t true ≡ true →
    Reaches (step.at p (where_true x f)) (Some p) t
true_reaches (test.ContextIsSome c) x p t m h =
    let here = has_some (context_in x c) (context_now t c) (have_at x.contexts t.contexts (context_place c) m.contexts) h in
    some_reaches (without_null (context_in x c)) _ p t (possible_from _ (context_now t c) here)
    (record {
      contexts = have_kept x.contexts t.contexts (context_place c) _ m.contexts here;
      operations = m.operations;
      mode = m.mode;
      draining = m.draining;
      locks = m.locks;
    })
true_reaches (test.OperationIsSome o) x p t m h =
    let here = has_some (operation_in x (Removed o)) (operation_now t (Removed o))
    (have_at x.operations t.operations (operation_place (Removed o)) m.operations) h in
    some_reaches (without_null (operation_in x (Removed o))) _ p t (possible_from _ (operation_now t (Removed o)) here)
    (record {
      contexts = m.contexts;
      operations =
          have_kept x.operations t.operations (operation_place (Removed o)) _ m.operations here;
      mode = m.mode;
      draining = m.draining;
      locks = m.locks;
    })
true_reaches test.IsIrp x p t m h =
    let irp : t.mode ≡ Irp = irp_from t.mode h in
    let may : x.modes.irp ≡ true = subst (λ k. has_mode x.modes k ≡ true) irp m.mode in
    answer_reaches x.modes.irp _ p t may
    (record {
      contexts = m.contexts;
      operations = m.operations;
      mode = subst (λ k. has_mode irp_alone k ≡ true) (sym irp) refl;
      draining = m.draining;
      locks = m.locks;
    })
true_reaches test.IsDraining x p t m h =
    let may : x.draining.yes ≡ true = subst (λ k. has_draining x.draining k ≡ true) h m.draining in
    answer_reaches x.draining.yes _ p t may
    (record {
      contexts = m.contexts;
      operations = m.operations;
      mode = m.mode;
      draining = subst (λ k. has_draining yes_alone k ≡ true) (sym h) refl;
      locks = m.locks;
    })
true_reaches (test.Equal n a) x p t m h = (refl, m)
true_reaches (test.Less n a) x p t m h = (refl, m)

false_reaches : (f : Test) (x : State) (p : ℕ) (t : Situation) → Means x t → may_find f t false ≡ true →
    Reaches (step.at p (where_false x f)) (Some p) t
false_reaches (test.ContextIsSome c) x p t m h =
    let null : context_now t c ≡ Null = is_null_from _ (not_not _ h) in
    let may : (context_in x c).null ≡ true =
    subst (λ u. has_status (context_in x c) u ≡ true) null (have_at x.contexts t.contexts (context_place c) m.contexts) in
    answer_reaches (context_in x c).null _ p t may
    (record {
      contexts = have_kept x.contexts t.contexts (context_place c) null_alone m.contexts
          (subst (λ u. has_status null_alone u ≡ true) (sym null) refl);
      operations = m.operations;
      mode = m.mode;
      draining =
          m.draining;
      locks = m.locks;
    })
false_reaches (test.OperationIsSome o) x p t m h =
    let null : operation_now t (Removed o) ≡ Null = is_null_from _ (not_not _ h) in
    let may : (operation_in x (Removed o)).null ≡ true =
    subst (λ u. has_status (operation_in x (Removed o)) u ≡ true) null
    (have_at x.operations t.operations (operation_place (Removed o)) m.operations) in
    answer_reaches (operation_in x (Removed o)).null _ p t may
    (record {
      contexts = m.contexts;
      operations =
          have_kept x.operations t.operations (operation_place (Removed o)) null_alone m.operations
          (subst (λ u. has_status null_alone u ≡ true) (sym null) refl);
      mode = m.mode;
      draining = m.draining;
      locks = m.locks;
    })
false_reaches test.IsIrp x p t m h =
    let fast : t.mode ≡ Fast = fast_from t.mode h in
    let may : x.modes.fast ≡ true = subst (λ k. has_mode x.modes k ≡ true) fast m.mode in
    answer_reaches x.modes.fast _ p t may
    (record {
      contexts = m.contexts;
      operations = m.operations;
      mode = subst (λ k. has_mode fast_alone k ≡ true) (sym fast) refl;
      draining = m.draining;
      locks = m.locks;
    })
false_reaches test.IsDraining x p t m h =
    let unset : t.draining ≡ false = not-true t.draining h in
    let may : x.draining.no ≡ true = subst (λ k. has_draining x.draining k ≡ true) unset m.draining in
    answer_reaches x.draining.no _ p t may
    (record {
      contexts = m.contexts;
      operations = m.operations;
      mode = m.mode;
      draining = subst (λ k. has_draining no_alone k ≡ true) (sym unset) refl;
      locks = m.locks;
    })
false_reaches (test.Equal n a) x p t m h = (refl, m)
false_reaches (test.Less n a) x p t m h = (refl, m)

-- ---- where an instruction leads

-- each outcome of a situation of a state lies where the state leads, whatever is broken
pub leads : (i : Instruction) (x : State) (t : Situation) (outcome gives : Bool) → Means x t → may_come_out i t outcome ≡ true →
    Reaches (side (leads_to x i) outcome) (successor i outcome) (leaves i outcome gives t)
leads (instruction.Act a next) x t true gives m h = (refl, acted_means a x t m)
leads (instruction.Act a next) x t false gives m h = cc
leads (instruction.Call c granted refused) x t true gives m h = (refl, called_means (roles c) (row (roles c).call).on_ok gives x t m)
leads (instruction.Call c granted refused) x t false gives m h =
    failure_reaches (roles c) (row (roles c).call).on_fail refused gives x t m h
leads (instruction.Test f granted refused) x t true gives m h = true_reaches f x granted t m h
leads (instruction.Test f granted refused) x t false gives m h = false_reaches f x refused t m h
leads (instruction.Repeat turns block next) x t true gives m h = (refl, m)
leads (instruction.Repeat turns block next) x t false gives m h = (refl, m)
leads (instruction.Return status) x t outcome gives m h = cc
leads instruction.End x t outcome gives m h = cc

-- what is reported where no rule is broken
unless_same : (b : Option Rule) (n m : Successors) → unless_broken b n ≡ Ok m → n ≡ m
unless_same (Some r) n m h = cc
unless_same None n m h = cc

-- a situation that a state means, and that an instruction leaves, is meant by the state to which the transfer leads
pub situations_followed : (g : Graph) (k p : ℕ) (x : State) (t : Situation) (next : Successors) (outcome gives : Bool) →
    transfer g k p x ≡ Ok next → Means x t → may_come_out (instruction_at g k p) t outcome ≡ true →
    Reaches (side next outcome) (successor (instruction_at g k p) outcome) (leaves (instruction_at g k p) outcome gives t)
situations_followed g k p x t next outcome gives e m h =
    let i = instruction_at g k p in
    let same : leads_to x i ≡ next = unless_same (first_broken (setting_of g k x) x i) (leads_to x i) next e in
    subst (λ n. Reaches (side n outcome) (successor i outcome) (leaves i outcome gives t)) same (leads i x t outcome gives m h)
