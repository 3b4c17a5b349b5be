-- What is spelled is well-formed: tokens, statuses, calls, tests and statements without blocks. A derivation also hands on
-- that what is left are tokens of the text.
use Rattle.std.proofs.Common.{◌≡◌, ℕ, ◌<◌, ◌^◌, Bool, true, false, List, slice_get, get_or, refl, ap, sym, ◌∙◌}
use Rattle.std.proofs.lemmas.Bool.{eqb-true, and_parts}
use Rattle.std.proofs.lemmas.List.Quantifiers.{position-Some}
use Rattle.std.proofs.lemmas.Option.{slice_get-get_or}
use Rattle.std.proofs.lemmas.Slice.Eq.{bytes_eq-Decides}
use Rattle.std.specs.Prelude.{◌==◌, ◌&&◌, if◌then◌else◌, Option, Some, None}
use Rattle.std.specs.Str.{bytes_eq}
use Rattle.flt_rules.specs.Call.{place_of, lock_at}
use Rattle.flt_rules.specs.declared.call.LockKind.{LockKind}
use Rattle.flt_rules.specs.declared.call.LockNumber.{LockNumber}
use Rattle.flt_rules.specs.declared.call.LockNumber.TheVariants.{L0, L1, L2, L3, L4, L5, L6, L7}
use Rattle.flt_syntax.specs.ActionGrammar as actions
use Rattle.flt_syntax.specs.ActionGrammar.{AtomAt, ExpressionAt, ActionAt, TestAt, ConditionAt}
use Rattle.flt_syntax.specs.CallGrammar as calls
use Rattle.flt_syntax.specs.CallGrammar.{StatusAt, OptionalStatusAt, RoutineAt, LockAt, SlotAt, SlotsAt, TailAt, FallibleAt, PlainAt}
use Rattle.flt_tree.specs.Declarations.{name_of, lock_name, same_lock_kind, lock_place, lock_at_place, lock_number}
use Rattle.flt_syntax.specs.Cursor.{Input}
use Rattle.flt_tree.specs.Names.{Text, is_name}
use Rattle.flt_syntax.specs.Scope.{Scope}
use Rattle.flt_syntax.specs.Shape.{obtaining, ending, lock_kind, locking, unfilled, fallible_slots, fallible_tail, fallible_of, is_known}
use Rattle.flt_syntax.specs.Shape.{plain_slots, plain_tail, plain_of}
use Rattle.flt_tree.specs.WellFormed.{IsAtom, IsExpression, IsAction, IsTest, IsFallible, IsCondition, IsLock, IsPlain}
use Rattle.flt_syntax.specs.Words as words
use Rattle.flt_syntax.specs.Words.{Next, Meant, NameAt, NumberAt, OptionalAt}
use Rattle.flt_tree.specs.declared.filter.Action.{Action}
use Rattle.flt_tree.specs.declared.filter.Condition.{Condition}
use Rattle.flt_tree.specs.declared.filter.FallibleCall.{FallibleCall}
use Rattle.flt_tree.specs.declared.filter.Lock.{Lock}
use Rattle.flt_tree.specs.declared.filter.PlainCall.{PlainCall}
use Rattle.flt_tree.specs.declared.filter.Routine.{Routine}
use Rattle.flt_tree.specs.declared.filter.Status.{Status}
use Rattle.flt_tree.specs.declared.filter.Test.{Test}
use Rattle.flt_syntax.specs.declared.shape.ContextEnd.{ContextEnd}
use Rattle.flt_syntax.specs.declared.shape.ContextEnd.TheVariants as ends
use Rattle.flt_syntax.specs.declared.shape.ContextSource.{ContextSource}
use Rattle.flt_syntax.specs.declared.shape.ContextSource.TheVariants as sources
use Rattle.flt_syntax.specs.declared.shape.FallibleShape.{FallibleShape}
use Rattle.flt_syntax.specs.declared.shape.FallibleShape.TheVariants as shapes
use Rattle.flt_syntax.specs.declared.shape.LockCall.{LockCall}
use Rattle.flt_syntax.specs.declared.shape.LockCall.TheVariants as does
use Rattle.flt_syntax.specs.declared.shape.Operands.{Operands}
use Rattle.flt_syntax.specs.declared.shape.PlainShape.{PlainShape}
use Rattle.flt_syntax.specs.declared.shape.PlainShape.TheVariants as plain_shapes
use Rattle.flt_syntax.specs.declared.shape.QueueCall.TheVariants as queued
use Rattle.flt_syntax.specs.declared.shape.Slot.{Slot}
use Rattle.flt_syntax.specs.declared.shape.Tail.{Tail}
use Rattle.flt_syntax.specs.declared.token.Kind.{Kind}
use Rattle.flt_tree.specs.declared.variable.Atom.{Atom}
use Rattle.flt_tree.specs.declared.variable.ContextVariable.{ContextVariable}
use Rattle.flt_tree.specs.declared.variable.Expression.{Expression}
use Rattle.flt_syntax.proofs.TokenKinds.{none_some}
use Rattle.flt_syntax.proofs.TokenBytes.{AreTokens, more}

-- ---- tokens

-- the tokens after one of a kind are tokens of the text
pub next_on : {text : Text} {kd : Kind} {i o : Input} → Next kd i o → AreTokens text i → AreTokens text o
next_on (words.next e) (more t h) = h

-- the tokens after a word of a table are tokens of the text
pub meant_on : {A : Type 0} {text : Text} {table : Kind → Option A} {i o : Input} {a : A} → Meant table i a o → AreTokens text i →
    AreTokens text o
meant_on (words.meant e) (more t h) = h

-- a name that is spelled is one, and the tokens after it are tokens of the text
pub fine_name : {text name : Text} {i o : Input} → NameAt text i name o → AreTokens text i → (is_name name ≡ true) × AreTokens text o
fine_name (words.name e) (more t h) = (t.named e, h)

-- a number that is spelled is below 2^64, and the tokens after it are tokens of the text
pub fine_number : {text : Text} {n : ℕ} {i o : Input} → NumberAt i n o → AreTokens text i → (n < 2 ^ 64) × AreTokens text o
fine_number (words.number e) (more t h) = (t.fits, h)

optional_on : {text : Text} {kd : Kind} {i o : Input} {c : Option ContextVariable} → OptionalAt kd i c o → AreTokens text i →
    AreTokens text o
optional_on words.without h = h
optional_on (words.behind n p) h = meant_on p (next_on n h)

-- ---- statuses

status_on : {text : Text} {i o : Input} {s : Status} → StatusAt i s o → AreTokens text i → AreTokens text o
status_on (calls.with_callback n p) h = optional_on p (next_on n h)
status_on (calls.synchronize n p) h = optional_on p (next_on n h)
status_on (calls.complete n p) h = meant_on p (next_on n h)
status_on (calls.bare p) h = meant_on p h

-- the tokens after a status, or after none, are tokens of the text
pub optional_status_on : {text : Text} {i o : Input} {s : Option Status} → OptionalStatusAt i s o → AreTokens text i → AreTokens text o
optional_status_on calls.no_status h = h
optional_status_on (calls.some_status p) h = status_on p h

-- ---- the lock of a number

place_if : (c : Bool) (n m : ℕ) (a l : LockNumber) (rest : Option LockNumber) → (n == m) ≡ c → place_of a ≡ m →
    (rest ≡ Some l → place_of l ≡ n) → (if c then Some a else rest) ≡ Some l → place_of l ≡ n
place_if true n m a l rest e h f s = let same : a ≡ l = cc in sym (ap place_of same) ∙ h ∙ sym (eqb-true n m e)
place_if false n m a l rest e h f s = f s

-- the place of the lock at a place
place_back : (n : ℕ) (l : LockNumber) → lock_at n ≡ Some l → place_of l ≡ n
place_back n l =
    place_if (n == 0) n 0 L0 l _ refl refl (place_if (n == 1) n 1 L1 l _ refl refl (place_if (n == 2) n 2 L2 l _ refl refl
    (place_if (n == 3) n 3 L3 l _ refl refl (place_if (n == 4) n 4 L4 l _ refl refl (place_if (n == 5) n 5 L5 l _ refl refl
    (place_if (n == 6) n 6 L6 l _ refl refl (place_if (n == 7) n 7 L7 l None refl refl (λ e. elim (none_some l e) [ ]))))))))

name_at : (kind : LockKind) (name : Text) (locks : List Lock) (l : LockNumber) (place : Option ℕ) → lock_place kind name locks ≡ place →
    lock_at_place place ≡ Some l → lock_name locks l ≡ name
name_at kind name locks l None e h = elim (none_some l h) [ ]
name_at kind name locks l (Some n) e h =
    let d : Lock = record { kind = kind; name = name } in
    let x : Lock = get_or locks n d in
    let p = position-Some (λ y. same_lock_kind y.kind kind && bytes_eq y.name name) locks n d e in
    ap (λ m. name_of (slice_get locks m)) (place_back n l h)
    ∙ ap name_of (slice_get-get_or locks n d p.0)
    ∙ (bytes_eq-Decides x.name name).0 (and_parts (same_lock_kind x.kind kind) (bytes_eq x.name name) p.1).1

-- the lock that is found by a name has that name
name_back : (kind : LockKind) (name : Text) (locks : List Lock) (l : LockNumber) → lock_number kind name locks ≡ Some l →
    lock_name locks l ≡ name
name_back kind name locks l e = name_at kind name locks l (lock_place kind name locks) refl e

fine_lock : {scope : Scope} {kind : LockKind} {i o : Input} {l : LockNumber} → LockAt scope kind i l o → AreTokens scope.text i →
    IsLock scope.locks kind l × AreTokens scope.text o
fine_lock {scope = scope} {kind = kind} {l = l} (calls.lock {name = name} p e) h =
    let n = fine_name p h in
    let s = name_back kind name scope.locks l e in
    ((ap is_name s ∙ n.0, ap (λ w. lock_number kind w scope.locks) s ∙ e), n.1)

-- ---- calls

fine_routine : {text : Text} {i o : Input} {r : Routine} → RoutineAt text i r o → AreTokens text i → (is_name r.name ≡ true)
    × AreTokens text o
fine_routine (calls.routine p) h = fine_name p h

-- the tokens after slots are tokens of the text
slot_on : {scope : Scope} {s : Slot} {x y : Operands} {i o : Input} → SlotAt scope s x i y o → AreTokens scope.text i →
    AreTokens scope.text o
slot_on (calls.data_word n) h = next_on n h
slot_on (calls.as_word n) h = next_on n h
slot_on (calls.context_word n) h = next_on n h
slot_on (calls.operation p) h = meant_on p h
slot_on (calls.removed p) h = meant_on p h
slot_on (calls.existing p) h = meant_on p h
slot_on (calls.context p) h = meant_on p h
slot_on (calls.other p e) h = meant_on p h
slot_on (calls.routine_name p) h = (fine_routine p h).1
slot_on (calls.lock_name p) h = (fine_lock p h).1

slots_on : {scope : Scope} {ss : List Slot} {x y : Operands} {i o : Input} → SlotsAt scope ss x i y o → AreTokens scope.text i →
    AreTokens scope.text o
slots_on calls.no_slots h = h
slots_on (calls.slot p q) h = slots_on q (slot_on p h)

tail_on : {text : Text} {t : Tail} {x y : Operands} {i o : Input} → TailAt t x i y o → AreTokens text i → AreTokens text o
tail_on calls.nothing h = h
tail_on (calls.with_context p) h = optional_on p h
tail_on (calls.old p) h = optional_on p h
tail_on (calls.other_old p e) h = optional_on p h
tail_on (calls.status p) h = status_on p h

fine_obtained : (queue : Bool) (s : ContextSource) (c : ContextVariable) → IsFallible queue (obtaining s c)
fine_obtained queue sources.Allocate c = tt
fine_obtained queue (sources.Get anchor) c = tt

-- a call that is made of what its slots and its tail read is well-formed
fine_fallible : {scope : Scope} (s : FallibleShape) {x y : Operands} {a b o : Input} → is_known scope.queue s ≡ true →
    SlotsAt scope (fallible_slots s) unfilled a x b → TailAt (fallible_tail s) x b y o → AreTokens scope.text a →
    IsFallible scope.queue (fallible_of s y)
fine_fallible {scope = scope} (shapes.Obtain source) {y = y} q p t h = fine_obtained scope.queue source y.context
fine_fallible (shapes.Set anchor) q p (calls.other_old r e) h = e
fine_fallible (shapes.Delete anchor) q p t h = tt
fine_fallible (shapes.Queue queued.Insert) q p t h = q
fine_fallible (shapes.Queue queued.RemoveNext) q p t h = q
fine_fallible shapes.QueueDeferred q (calls.slot n (calls.slot (calls.routine_name r) calls.no_slots)) (calls.with_context t) h =
    (fine_routine r (slot_on n h)).0
fine_fallible shapes.QueueGeneric q (calls.slot (calls.routine_name r) calls.no_slots) (calls.with_context t) h = (fine_routine r h).0

fine_call : {scope : Scope} {i o : Input} {c : FallibleCall Routine} → FallibleAt scope i c o → AreTokens scope.text i →
    IsFallible scope.queue c × AreTokens scope.text o
fine_call (calls.fallible {s = s} n q p t) h =
    let a = meant_on n h in (fine_fallible s q p t a, tail_on t (slots_on p a))

fine_ended : (locks : List Lock) (e : ContextEnd) (c : ContextVariable) → IsPlain locks (ending e c)
fine_ended locks ends.Delete c = tt
fine_ended locks ends.Release c = tt

fine_locked : (locks : List Lock) (x : LockCall) (l : LockNumber) → IsLock locks (lock_kind x) l → IsPlain locks (locking x l)
fine_locked locks (does.Acquire kind) l h = h
fine_locked locks does.AcquireShared l h = h
fine_locked locks (does.Release kind) l h = h

-- the same of a plain call
fine_made : {scope : Scope} (s : PlainShape) {x y : Operands} {a b o : Input} → SlotsAt scope (plain_slots s) unfilled a x b →
    TailAt (plain_tail s) x b y o → AreTokens scope.text a → IsPlain scope.locks (plain_of s y)
fine_made {scope = scope} (plain_shapes.End how) {y = y} p t h = fine_ended scope.locks how y.context
fine_made plain_shapes.Reference
    (calls.slot (calls.context p) (calls.slot (calls.as_word n) (calls.slot (calls.other q e) calls.no_slots))) calls.nothing h = e
fine_made {scope = scope} (plain_shapes.Lock call) (calls.slot (calls.lock_name {l = l} p) calls.no_slots) calls.nothing h =
    fine_locked scope.locks call l (fine_lock p h).0
fine_made plain_shapes.CompletePre p t h = tt
fine_made plain_shapes.CompletePost p t h = tt

-- a plain call that is spelled is well-formed, and the tokens after it are tokens of the text
pub fine_plain : {scope : Scope} {i o : Input} {c : PlainCall} → PlainAt scope i c o → AreTokens scope.text i →
    IsPlain scope.locks c × AreTokens scope.text o
fine_plain (calls.plain {s = s} n p t) h =
    let a = meant_on n h in (fine_made s p t a, tail_on t (slots_on p a))

-- ---- actions and tests

fine_atom : {text : Text} {i o : Input} {x : Atom} → AtomAt i x o → AreTokens text i → IsAtom x × AreTokens text o
fine_atom (actions.number p) h = fine_number p h
fine_atom (actions.variable p) h = (tt, meant_on p h)

fine_expression : {text : Text} {i o : Input} {e : Expression} → ExpressionAt i e o → AreTokens text i → IsExpression e × AreTokens text o
fine_expression (actions.one p) h = fine_atom p h
fine_expression (actions.sum p n q) h = let x = fine_atom p h in let y = fine_atom q (next_on n x.1) in ((x.0, y.0), y.1)
fine_expression (actions.difference p n q) h = let x = fine_atom p h in let y = fine_atom q (next_on n x.1) in ((x.0, y.0), y.1)

-- an action that is spelled is well-formed, and the tokens after it are tokens of the text
pub fine_action : {text : Text} {i o : Input} {a : Action} → ActionAt i a o → AreTokens text i → IsAction a × AreTokens text o
fine_action (actions.set_number p n q) h = fine_expression q (next_on n (meant_on p h))
fine_action (actions.read_value p n m q) h = (tt, meant_on q (next_on m (next_on n (meant_on p h))))
fine_action (actions.read_file p n m q) h = (tt, meant_on q (next_on m (next_on n (meant_on p h))))
fine_action (actions.write_value n p m q) h = fine_atom q (next_on m (meant_on p (next_on n h)))
fine_action (actions.clear_context p n m) h = (tt, next_on m (next_on n (meant_on p h)))
fine_action (actions.clear_operation p n m) h = (tt, next_on m (next_on n (meant_on p h)))

fine_test : {text : Text} {i o : Input} {t : Test} → TestAt i t o → AreTokens text i → IsTest t × AreTokens text o
fine_test (actions.context_is_some p n m) h = (tt, next_on m (next_on n (meant_on p h)))
fine_test (actions.operation_is_some p n m) h = (tt, next_on m (next_on n (meant_on p h)))
fine_test (actions.equal p n q) h = fine_atom q (next_on n (meant_on p h))
fine_test (actions.less p n q) h = fine_atom q (next_on n (meant_on p h))
fine_test (actions.is_irp n m) h = (tt, next_on m (next_on n h))
fine_test (actions.is_draining n) h = (tt, next_on n h)

-- a condition that is spelled is well-formed, and the tokens after it are tokens of the text
pub fine_condition : {scope : Scope} {i o : Input} {c : Condition} → ConditionAt scope i c o → AreTokens scope.text i →
    IsCondition scope.queue c × AreTokens scope.text o
fine_condition (actions.test p) h = fine_test p h
fine_condition (actions.succeeds p) h = fine_call p h
