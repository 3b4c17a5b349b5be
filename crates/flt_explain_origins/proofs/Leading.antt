-- Where an instruction leads from a single situation.
use Rattle.std.proofs.Common.{◌≡◌, ℕ, zero, suc, Bool, true, false, List, [], ◌∷◌, Option}
use Rattle.std.proofs.Common.{Some, None, map, slice_index_or, ap, sym, subst, refl, ◌∙◌}
use Rattle.std.specs.Prelude.{slice_set, not, if◌then◌else◌}
use Rattle.flt_rules.specs.Place.{is_irp}
use Rattle.flt_rules.specs.Table.{row}
use Rattle.flt_rules.specs.declared.call.LockNumber.{LockNumber}
use Rattle.flt_rules.specs.declared.columns.Change.{Change}
use Rattle.flt_rules.specs.declared.columns.Change.TheVariants as becomes
use Rattle.flt_rules.specs.declared.columns.Effects.{Effects}
use Rattle.flt_rules.specs.declared.columns.LockChange.{LockChange}
use Rattle.flt_rules.specs.declared.place.Mode.{Mode}
use Rattle.flt_rules.specs.declared.place.Mode.TheVariants.{Irp, Fast}
use Rattle.flt_tree.specs.Variable.{context_place, operation_place}
use Rattle.flt_tree.specs.declared.filter.Action.{Action}
use Rattle.flt_tree.specs.declared.filter.Action.TheVariants as action
use Rattle.flt_tree.specs.declared.filter.Test.{Test}
use Rattle.flt_tree.specs.declared.filter.Test.TheVariants as test
use Rattle.flt_tree.specs.declared.variable.ContextVariable.{ContextVariable}
use Rattle.flt_tree.specs.declared.variable.OperationVariable.{OperationVariable}
use Rattle.flt_tree.specs.declared.variable.OperationVariable.TheVariants.{Removed}
use Rattle.flt_graph.specs.Instruction.{roles}
use Rattle.flt_graph.specs.Points.{successor}
use Rattle.flt_graph.specs.declared.instruction.Instruction.{Instruction}
use Rattle.flt_graph.specs.declared.instruction.Instruction.TheVariants as instruction
use Rattle.flt_graph.specs.declared.instruction.Invocation.{Invocation}
use Rattle.flt_abs.specs.Outcome.{context_now, operation_now, put_context, put_operation, put_locks, left, called}
use Rattle.flt_abs.specs.Outcome.{failed, can_fail, acted, is_null, agrees, may_find, may_come_out, leaves, side}
use Rattle.flt_abs.specs.Sets.{StatusSet, null_alone, without_null, irp_alone, fast_alone, no_alone, yes_alone}
use Rattle.flt_abs.specs.State.{Status, Null, Held, Stale, Situation, State, state_of}
use Rattle.flt_abs.specs.Step.{changed, set_context, set_operation, set_locks, changed_locks, after_call}
use Rattle.flt_abs.specs.Step.{after_failure, after_action, where_true, where_false, if_possible, leads_to}
use Rattle.flt_abs.specs.Step as step
use Rattle.flt_abs.specs.Variables.{with_context, with_operation}
use Rattle.flt_abs.specs.declared.step.Successor.{Successor}
use Rattle.flt_explain_origins.specs.Alone.{status_alone, mode_alone, draining_alone, alone, one_of, where_given}
use Rattle.flt_explain_origins.specs.Ways.{moment, or_zero, next_point}
use Rattle.flt_explain_origins.proofs.Singles.{same_alone}

-- ---- lists of sets

map_set : {A B : Type 0} (f : A → B) (xs : List A) (i : ℕ) (x : A) → map f (slice_set xs i x) ≡ slice_set (map f xs) i (f x)
map_set f [] i x = refl
map_set f (y ∷ xs) zero x = refl
map_set f (y ∷ xs) (suc i) x = λ k. f y ∷ map_set f xs i x k

map_get : {A B : Type 0} (f : A → B) (xs : List A) (i : ℕ) (d : A) → slice_index_or (map f xs) i (f d) ≡ f (slice_index_or xs i d)
map_get f [] i d = refl
map_get f (x ∷ xs) zero d = refl
map_get f (x ∷ xs) (suc i) d = map_get f xs i d

set_same : {A : Type 0} (xs : List A) (i : ℕ) (d : A) → slice_set xs i (slice_index_or xs i d) ≡ xs
set_same [] i d = refl
set_same (x ∷ xs) zero d = refl
set_same (x ∷ xs) (suc i) d = λ k. x ∷ set_same xs i d k

one_alone : (gives : Bool) (s : Status) → one_of gives (status_alone s) ≡ status_alone s
one_alone gives Null = refl
one_alone gives Held = refl
one_alone gives Stale = refl

all_alone : (gives : Bool) (ts : List Status) → map (one_of gives) (map status_alone ts) ≡ map status_alone ts
all_alone gives [] = refl
all_alone gives (t ∷ ts) = λ k. one_alone gives t k ∷ all_alone gives ts k

-- sets with one more that is put, where both are known
put_at : (gives : Bool) (xs : List StatusSet) (ts : List Status) (i : ℕ) (s : StatusSet) (u : Status) →
    map (one_of gives) xs ≡ map status_alone ts → one_of gives s ≡ status_alone u →
    map (one_of gives) (slice_set xs i s) ≡ map status_alone (slice_set ts i u)
put_at gives xs ts i s u h e = map_set (one_of gives) xs i s ∙ (λ k. slice_set (h k) i (e k)) ∙ sym (map_set status_alone ts i u)

-- ---- a state is that of one situation, once it is known what a call gave

record Is (gives : Bool) (x : State) (t : Situation) : Type 0 where
  contexts : map (one_of gives) x.contexts ≡ map status_alone t.contexts
  operations : map (one_of gives) x.operations ≡ map status_alone t.operations
  modes : x.modes ≡ mode_alone t.mode
  draining : x.draining ≡ draining_alone t.draining
  locks : x.locks ≡ t.locks

is_alone : (gives : Bool) (t : Situation) → Is gives (alone t) t
is_alone gives t = record {
  contexts = all_alone gives t.contexts;
  operations = all_alone gives t.operations;
  modes = refl;
  draining = refl;
  locks = refl;
}

is_given : (gives : Bool) (x : State) (t : Situation) → Is gives x t → where_given gives x ≡ alone t
is_given gives x t h = λ k. state_of (h.contexts k) (h.operations k) (h.modes k) (h.draining k) (h.locks k)

with_context_is : (gives : Bool) (x : State) (t : Situation) (c : ContextVariable) (s : StatusSet) (u : Status) → Is gives x t →
    one_of gives s ≡ status_alone u → Is gives (with_context x c s) (put_context (Some c) (Some u) t)
with_context_is gives x t c s u h e = record {
  contexts = put_at gives x.contexts t.contexts (context_place c) s u h.contexts e;
  operations = h.operations;
  modes = h.modes;
  draining = h.draining;
  locks = h.locks;
}

with_operation_is : (gives : Bool) (x : State) (t : Situation) (d : OperationVariable) (s : StatusSet) (u : Status) → Is gives x t →
    one_of gives s ≡ status_alone u → Is gives (with_operation x d s) (put_operation (Some d) (Some u) t)
with_operation_is gives x t d s u h e = record {
  contexts = h.contexts;
  operations = put_at gives x.operations t.operations (operation_place d) s u h.operations e;
  modes = h.modes;
  draining = h.draining;
  locks = h.locks;
}

-- ---- calls

context_change_is : (v : Option ContextVariable) (change : Change) (gives : Bool) (x : State) (t : Situation) → Is gives x t →
    Is gives (set_context v (changed change) x) (put_context v (left change gives) t)
context_change_is None change gives x t h = h
context_change_is (Some c) becomes.Stays gives x t h = h
context_change_is (Some c) becomes.Null gives x t h = with_context_is gives x t c _ _ h refl
context_change_is (Some c) becomes.Held gives x t h = with_context_is gives x t c _ _ h refl
context_change_is (Some c) becomes.Stale gives x t h = with_context_is gives x t c _ _ h refl
context_change_is (Some c) becomes.NullOrHeld true x t h = with_context_is true x t c _ _ h refl
context_change_is (Some c) becomes.NullOrHeld false x t h = with_context_is false x t c _ _ h refl

operation_change_is : (v : Option OperationVariable) (change : Change) (gives : Bool) (x : State) (t : Situation) → Is gives x t →
    Is gives (set_operation v (changed change) x) (put_operation v (left change gives) t)
operation_change_is None change gives x t h = h
operation_change_is (Some d) becomes.Stays gives x t h = h
operation_change_is (Some d) becomes.Null gives x t h = with_operation_is gives x t d _ _ h refl
operation_change_is (Some d) becomes.Held gives x t h = with_operation_is gives x t d _ _ h refl
operation_change_is (Some d) becomes.Stale gives x t h = with_operation_is gives x t d _ _ h refl
operation_change_is (Some d) becomes.NullOrHeld true x t h = with_operation_is true x t d _ _ h refl
operation_change_is (Some d) becomes.NullOrHeld false x t h = with_operation_is false x t d _ _ h refl

locks_change_is : (v : Option LockNumber) (change : LockChange) (gives : Bool) (x : State) (t : Situation) → Is gives x t →
    Is gives (set_locks v change x) (put_locks v change t)
locks_change_is None change gives x t h = h
locks_change_is (Some l) change gives x t h = record {
  contexts = h.contexts;
  operations = h.operations;
  modes = h.modes;
  draining = h.draining;
  locks = ap (λ locks. changed_locks locks l change) h.locks;
}

called_is : (c : Invocation) (e : Effects) (gives : Bool) (x : State) (t : Situation) → Is gives x t →
    Is gives (after_call c e x) (called c e gives t)
called_is c e gives x t h =
    locks_change_is c.lock e.lock gives _ _ (operation_change_is c.operation e.operation gives _ _
    (context_change_is c.output e.output gives _ _ (context_change_is c.context e.context gives x t h)))

-- ---- where it leads

-- a side that is there may come about, leads to the point, and its state is that of the situation; one that isn't there may not
abbrev Leads : Bool → Option Successor → Bool → Option ℕ → Situation → Type 0
Leads gives (Some s) may p t = (may ≡ true) × ((p ≡ Some s.point) × Is gives s.state t)
Leads gives None may p t = may ≡ false

failure_leads : (c : Invocation) (effects : Option Effects) (p : ℕ) (gives : Bool) (t : Situation) →
    Leads gives (after_failure (alone t) c effects p) (can_fail effects) (Some p) (failed c effects gives t)
failure_leads c (Some e) p gives t = (refl, (refl, called_is c e gives (alone t) t (is_alone gives t)))
failure_leads c None p gives t = refl

acted_is : (a : Action) (gives : Bool) (t : Situation) → Is gives (after_action (alone t) a) (acted a t)
acted_is (action.ClearContext c) gives t = with_context_is gives (alone t) t c _ _ (is_alone gives t) refl
acted_is (action.ClearOperation o) gives t = with_operation_is gives (alone t) t (Removed o) _ _ (is_alone gives t) refl
acted_is (action.SetNumber n a) gives t = is_alone gives t
acted_is (action.ReadValue n c) gives t = is_alone gives t
acted_is (action.ReadFile n d) gives t = is_alone gives t
acted_is (action.WriteValue c a) gives t = is_alone gives t

-- ---- tests

-- a status that is put where it is changes nothing
same_context : (gives : Bool) (t : Situation) (c : ContextVariable) (u : Status) → u ≡ context_now t c →
    Is gives (with_context (alone t) c (status_alone u)) t
same_context gives t c u e = record {
  contexts = put_at gives _ t.contexts (context_place c) (status_alone u) u (all_alone gives t.contexts) (one_alone gives u)
      ∙ ap (map status_alone) (ap (slice_set t.contexts (context_place c)) e ∙ set_same t.contexts (context_place c) Null);
  operations = all_alone gives t.operations;
  modes = refl;
  draining = refl;
  locks = refl;
}

same_operation : (gives : Bool) (t : Situation) (d : OperationVariable) (u : Status) → u ≡ operation_now t d →
    Is gives (with_operation (alone t) d (status_alone u)) t
same_operation gives t d u e = record {
  contexts = all_alone gives t.contexts;
  operations = put_at gives _ t.operations (operation_place d) (status_alone u) u (all_alone gives t.operations) (one_alone gives u)
      ∙ ap (map status_alone) (ap (slice_set t.operations (operation_place d)) e ∙ set_same t.operations (operation_place d) Null);
  modes = refl;
  draining = refl;
  locks = refl;
}

some_context : (gives : Bool) (t : Situation) (c : ContextVariable) (p : ℕ) (u : Status) → u ≡ context_now t c →
    Leads gives (step.at p (if_possible (without_null (status_alone u)) (with_context (alone t) c (without_null (status_alone u)))))
    (agrees (not (is_null u)) true) (Some p) t
some_context gives t c p Null e = refl
some_context gives t c p Held e = (refl, (refl, same_context gives t c Held e))
some_context gives t c p Stale e = (refl, (refl, same_context gives t c Stale e))

no_context : (gives : Bool) (t : Situation) (c : ContextVariable) (p : ℕ) (u : Status) → u ≡ context_now t c →
    Leads gives (step.at p (if (status_alone u).null then Some (with_context (alone t) c null_alone) else None))
    (agrees (not (is_null u)) false) (Some p) t
no_context gives t c p Null e = (refl, (refl, same_context gives t c Null e))
no_context gives t c p Held e = refl
no_context gives t c p Stale e = refl

some_operation : (gives : Bool) (t : Situation) (d : OperationVariable) (p : ℕ) (u : Status) → u ≡ operation_now t d →
    Leads gives (step.at p (if_possible (without_null (status_alone u)) (with_operation (alone t) d (without_null (status_alone u)))))
    (agrees (not (is_null u)) true) (Some p) t
some_operation gives t d p Null e = refl
some_operation gives t d p Held e = (refl, (refl, same_operation gives t d Held e))
some_operation gives t d p Stale e = (refl, (refl, same_operation gives t d Stale e))

no_operation : (gives : Bool) (t : Situation) (d : OperationVariable) (p : ℕ) (u : Status) → u ≡ operation_now t d →
    Leads gives (step.at p (if (status_alone u).null then Some (with_operation (alone t) d null_alone) else None))
    (agrees (not (is_null u)) false) (Some p) t
no_operation gives t d p Null e = (refl, (refl, same_operation gives t d Null e))
no_operation gives t d p Held e = refl
no_operation gives t d p Stale e = refl

-- the situation's state with its mode, and with its answer to the draining test
mode_is : (gives : Bool) (t : Situation) (m : Mode) → m ≡ t.mode → Is gives (record (alone t) { modes = mode_alone m }) t
mode_is gives t m e = record {
  contexts = all_alone gives t.contexts;
  operations = all_alone gives t.operations;
  modes = ap mode_alone e;
  draining = refl;
  locks = refl;
}

draining_is : (gives : Bool) (t : Situation) (b : Bool) → b ≡ t.draining → Is gives (record (alone t) { draining = draining_alone b }) t
draining_is gives t b e = record {
  contexts = all_alone gives t.contexts;
  operations = all_alone gives t.operations;
  modes = refl;
  draining = ap draining_alone e;
  locks = refl;
}

irp_leads : (gives : Bool) (t : Situation) (p : ℕ) (m : Mode) → m ≡ t.mode →
    Leads gives (step.at p (if (mode_alone m).irp then Some (record (alone t) { modes = irp_alone }) else None)) (agrees (is_irp m) true)
    (Some p) t
irp_leads gives t p Irp e = (refl, (refl, mode_is gives t Irp e))
irp_leads gives t p Fast e = refl

fast_leads : (gives : Bool) (t : Situation) (p : ℕ) (m : Mode) → m ≡ t.mode →
    Leads gives (step.at p (if (mode_alone m).fast then Some (record (alone t) { modes = fast_alone }) else None)) (agrees (is_irp m) false)
    (Some p) t
fast_leads gives t p Irp e = refl
fast_leads gives t p Fast e = (refl, (refl, mode_is gives t Fast e))

yes_leads : (gives : Bool) (t : Situation) (p : ℕ) (b : Bool) → b ≡ t.draining →
    Leads gives (step.at p (if (draining_alone b).yes then Some (record (alone t) { draining = yes_alone }) else None)) (agrees b true)
    (Some p) t
yes_leads gives t p true e = (refl, (refl, draining_is gives t true e))
yes_leads gives t p false e = refl

no_leads : (gives : Bool) (t : Situation) (p : ℕ) (b : Bool) → b ≡ t.draining →
    Leads gives (step.at p (if (draining_alone b).no then Some (record (alone t) { draining = no_alone }) else None)) (agrees b false)
    (Some p) t
no_leads gives t p true e = refl
no_leads gives t p false e = (refl, (refl, draining_is gives t false e))

true_leads : (f : Test) (gives : Bool) (t : Situation) (p : ℕ) →
    Leads gives (step.at p (where_true (alone t) f)) (may_find f t true) (Some p) t
true_leads (test.ContextIsSome c) gives t p =
    subst
    (λ s. Leads gives (step.at p (if_possible (without_null s) (with_context (alone t) c (without_null s))))
    (agrees (not (is_null (context_now t c))) true) (Some p) t)
    (sym (map_get status_alone t.contexts (context_place c) Null))
    (some_context gives t c p (context_now t c) refl)
true_leads (test.OperationIsSome o) gives t p =
    subst
    (λ s. Leads gives (step.at p (if_possible (without_null s) (with_operation (alone t) (Removed o) (without_null s))))
    (agrees (not (is_null (operation_now t (Removed o)))) true) (Some p) t)
    (sym (map_get status_alone t.operations (operation_place (Removed o)) Null))
    (some_operation gives t (Removed o) p (operation_now t (Removed o)) refl)
true_leads test.IsIrp gives t p = irp_leads gives t p t.mode refl
true_leads test.IsDraining gives t p = yes_leads gives t p t.draining refl
true_leads (test.Equal n a) gives t p = (refl, (refl, is_alone gives t))
true_leads (test.Less n a) gives t p = (refl, (refl, is_alone gives t))

false_leads : (f : Test) (gives : Bool) (t : Situation) (p : ℕ) →
    Leads gives (step.at p (where_false (alone t) f)) (may_find f t false) (Some p) t
false_leads (test.ContextIsSome c) gives t p =
    subst
    (λ s. Leads gives (step.at p (if s.null then Some (with_context (alone t) c null_alone) else None))
    (agrees (not (is_null (context_now t c))) false) (Some p) t)
    (sym (map_get status_alone t.contexts (context_place c) Null))
    (no_context gives t c p (context_now t c) refl)
false_leads (test.OperationIsSome o) gives t p =
    subst
    (λ s. Leads gives (step.at p (if s.null then Some (with_operation (alone t) (Removed o) null_alone) else None))
    (agrees (not (is_null (operation_now t (Removed o)))) false) (Some p) t)
    (sym (map_get status_alone t.operations (operation_place (Removed o)) Null))
    (no_operation gives t (Removed o) p (operation_now t (Removed o)) refl)
false_leads test.IsIrp gives t p = fast_leads gives t p t.mode refl
false_leads test.IsDraining gives t p = no_leads gives t p t.draining refl
false_leads (test.Equal n a) gives t p = (refl, (refl, is_alone gives t))
false_leads (test.Less n a) gives t p = (refl, (refl, is_alone gives t))

-- ---- instructions

leads : (i : Instruction) (t : Situation) (outcome gives : Bool) →
    Leads gives (side (leads_to (alone t) i) outcome) (may_come_out i t outcome) (successor i outcome) (leaves i outcome gives t)
leads (instruction.Act a next) t true gives = (refl, (refl, acted_is a gives t))
leads (instruction.Act a next) t false gives = refl
leads (instruction.Call c granted refused) t true gives =
    (refl, (refl, called_is (roles c) (row (roles c).call).on_ok gives (alone t) t (is_alone gives t)))
leads (instruction.Call c granted refused) t false gives = failure_leads (roles c) (row (roles c).call).on_fail refused gives t
leads (instruction.Test f granted refused) t true gives = true_leads f gives t granted
leads (instruction.Test f granted refused) t false gives = false_leads f gives t refused
leads (instruction.Repeat turns block next) t true gives = (refl, (refl, is_alone gives t))
leads (instruction.Repeat turns block next) t false gives = (refl, (refl, is_alone gives t))
leads (instruction.Return status) t true gives = refl
leads (instruction.Return status) t false gives = refl
leads instruction.End t true gives = refl
leads instruction.End t false gives = refl

-- the situation on a side, once it is known what a call gave, is what the instruction leaves
pub comes_to : (i : Instruction) (t : Situation) (outcome gives : Bool) (s : Successor) (m : Situation) →
    side (leads_to (alone t) i) outcome ≡ Some s → alone m ≡ where_given gives s.state →
    (may_come_out i t outcome ≡ true) × (moment s.point m ≡ moment (next_point i outcome) (leaves i outcome gives t))
comes_to i t outcome gives s m e is =
    let l : Leads gives (Some s) (may_come_out i t outcome) (successor i outcome) (leaves i outcome gives t) =
    subst (λ o. Leads gives o (may_come_out i t outcome) (successor i outcome) (leaves i outcome gives t)) e (leads i t outcome gives) in
    let there : s.point ≡ next_point i outcome = sym (ap or_zero l.1.0) in
    let same : m ≡ leaves i outcome gives t = same_alone _ _ (is ∙ is_given gives s.state _ l.1.1) in
    (l.0, λ k. moment (there k) (same k))

-- a single situation's state is the same, whatever a call gave
pub same_given : (gives : Bool) (t u : Situation) → alone u ≡ where_given gives (alone t) → u ≡ t
same_given gives t u e = same_alone u t (e ∙ is_given gives (alone t) t (is_alone gives t))
