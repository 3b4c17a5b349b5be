-- Texts with the same tokens apart from places spell the same, apart from lines and columns.
use Rattle.std.proofs.Common.{◌≡◌, ℕ, ◌≤◌, Bool, true, false, List, [], ◌∷◌, length, map, refl, sym, ap, subst, ◌∙◌}
use Rattle.std.proofs.lemmas.Bool.{false≢true}
use Rattle.std.specs.Prelude.{Option, Some, None, is_some, IsTrue}
use Rattle.flt_rules.specs.declared.call.LockKind.{LockKind}
use Rattle.flt_rules.specs.declared.call.LockNumber.{LockNumber}
use Rattle.flt_syntax.specs.ActionGrammar as a
use Rattle.flt_syntax.specs.ActionGrammar.{AtomAt, ExpressionAt, ActionAt, TestAt, ConditionAt}
use Rattle.flt_syntax.specs.CallGrammar as c
use Rattle.flt_syntax.specs.CallGrammar.{StatusAt, OptionalStatusAt, RoutineAt, LockAt, SlotAt, SlotsAt, TailAt, FallibleAt, PlainAt}
use Rattle.flt_syntax.specs.Cursor.{Input, kind, position, span, bytes_of, is_word}
use Rattle.flt_syntax.specs.Grammar as g
use Rattle.flt_syntax.specs.Grammar.{line, StatementAt, ElseAt, BlockAt, StatementsAt, HeadAt}
use Rattle.flt_syntax.specs.Grammar.{CallbackAt, CallbacksAt, LocksAt, QueueAt, FileAt}
use Rattle.flt_syntax.specs.Lex.{tokens}
use Rattle.flt_syntax.specs.Scope.{Scope}
use Rattle.flt_syntax.specs.Shape.{unfilled, fallible_of, plain_of}
use Rattle.flt_syntax.specs.Spelling.{Spells}
use Rattle.flt_syntax.specs.Words as w
use Rattle.flt_syntax.specs.Words.{Next, Meant, NameAt, NumberAt, ContextAt, OptionalAt}
use Rattle.flt_syntax.specs.declared.shape.FallibleShape.{FallibleShape}
use Rattle.flt_syntax.specs.declared.shape.FallibleShape.TheVariants as shapes
use Rattle.flt_syntax.specs.declared.shape.Operands.{Operands}
use Rattle.flt_syntax.specs.declared.shape.PlainShape.{PlainShape}
use Rattle.flt_syntax.specs.declared.shape.PlainShape.TheVariants as plain_shapes
use Rattle.flt_syntax.specs.declared.shape.QueueCall.TheVariants as queued
use Rattle.flt_syntax.specs.declared.shape.Slot.{Slot}
use Rattle.flt_syntax.specs.declared.shape.Tail.{Tail}
use Rattle.flt_syntax.specs.declared.token.Kind.{Kind}
use Rattle.flt_syntax.specs.declared.token.Token.{Token}
use Rattle.flt_syntax.specs.declared.token.Word.{Word}
use Rattle.flt_tree.specs.Declarations.{AreNewLocks}
use Rattle.flt_rules.specs.Limits.{max_text, max_altitude, max_locks, max_callbacks}
use Rattle.flt_tree.specs.Names.{Text}
use Rattle.flt_tree.specs.declared.filter.Action.{Action}
use Rattle.flt_tree.specs.declared.filter.Callback.{Callback}
use Rattle.flt_tree.specs.declared.filter.Condition.{Condition}
use Rattle.flt_tree.specs.declared.filter.FallibleCall.{FallibleCall}
use Rattle.flt_tree.specs.declared.filter.Filter.{Filter}
use Rattle.flt_tree.specs.declared.filter.Head.{Head}
use Rattle.flt_tree.specs.declared.filter.Lock.{Lock}
use Rattle.flt_tree.specs.declared.filter.PlainCall.{PlainCall}
use Rattle.flt_tree.specs.declared.filter.Position.{Position}
use Rattle.flt_tree.specs.declared.filter.Routine.{Routine}
use Rattle.flt_tree.specs.declared.filter.Statement.{Statement}
use Rattle.flt_tree.specs.declared.filter.Statement.TheVariants.{Act, Call, Return, If, Repeat}
use Rattle.flt_tree.specs.declared.filter.Condition.TheVariants as made
use Rattle.flt_tree.specs.declared.filter.Status.{Status}
use Rattle.flt_tree.specs.declared.filter.Test.{Test}
use Rattle.flt_tree.specs.declared.variable.Atom.{Atom}
use Rattle.flt_tree.specs.declared.variable.ContextVariable.{ContextVariable}
use Rattle.flt_tree.specs.declared.variable.Expression.{Expression}
use Rattle.flt_layout.specs.Laws.{word_and_bytes, KeepsTokens, KeepsTree}
use Rattle.flt_layout.specs.Layout.{laid_out}
use Rattle.flt_print.proofs.Alike as l
use Rattle.flt_print.proofs.Alike.{AlikeCall, AlikeCondition, Alike, AlikeAll, AlikeCallback, AlikeCallbacks, AlikeFilter, no_callback}
use Rattle.flt_print.proofs.SameMeaning.{small_callbacks, new_alike, length_alike, served_alike, whole_alike, places_alike}

-- tokens that are the same apart from where they stand in their texts
pub data Same (x y : Text) : Input → Input → Type 0 where
  none : Same x y [] []
  more : {t u : Token} {i j : Input} → t.word ≡ u.word → bytes_of x t ≡ bytes_of y u → Same x y i j → Same x y (t ∷ i) (u ∷ j)

abbrev scope : Text → List Lock → Bool → Scope
scope z locks queue = record { text = z; locks = locks; queue = queue }

-- ---- single tokens

next : {x y : Text} {kd : Kind} {i o j : Input} → Next kd i o → Same x y i j → (p : Input) × Next kd j p × Same x y o p
next (w.next e) (more {j = j} q b s) = (j, w.next (ap (λ (v : Word). v.kind) (sym q) ∙ e), s)

meant : {x y : Text} {A : Type 0} {table : Kind → Option A} {i o j : Input} {m : A} → Meant table i m o → Same x y i j →
    (p : Input) × Meant table j m p × Same x y o p
meant {table = table} (w.meant e) (more {j = j} q b s) = (j, w.meant (ap (λ (v : Word). table v.kind) (sym q) ∙ e), s)

name : {x y : Text} {n : Text} {i o j : Input} → NameAt x i n o → Same x y i j → (p : Input) × NameAt y j n p × Same x y o p
name {y = y} (w.name e) (more {u = u} {j = j} q b s) =
    (j, subst (λ n. NameAt y (u ∷ j) n j) (sym b) (w.name (ap (λ (v : Word). is_word v.kind) (sym q) ∙ e)), s)

number : {x y : Text} {n : ℕ} {i o j : Input} → NumberAt i n o → Same x y i j → (p : Input) × NumberAt j n p × Same x y o p
number (w.number e) (more {u = u} {j = j} q b s) =
    (j, subst (λ n. NumberAt (u ∷ j) n j) (sym (ap (λ (v : Word). v.value) q)) (w.number (ap (λ (v : Word). v.kind) (sym q) ∙ e)), s)

optional : {x y : Text} {kd : Kind} {m : Option ContextVariable} {i o j : Input} → OptionalAt kd i m o → Same x y i j →
    (p : Input) × OptionalAt kd j m p × Same x y o p
optional {j = j} w.without s = (j, w.without, s)
optional (w.behind a b) s = let r1 = next a s in let r2 = meant b r1.2 in (r2.0, w.behind r1.1 r2.1, r2.2)

kind_same : {x y : Text} {i j : Input} → Same x y i j → kind i ≡ kind j
kind_same none = refl
kind_same (more q b s) = ap (λ (v : Word). v.kind) q

-- ---- statements that neither call nor branch, and tests

atom : {x y : Text} {m : Atom} {i o j : Input} → AtomAt i m o → Same x y i j → (p : Input) × AtomAt j m p × Same x y o p
atom (a.number a0) s = let r1 = number a0 s in (r1.0, a.number r1.1, r1.2)
atom (a.variable a0) s = let r1 = meant a0 s in (r1.0, a.variable r1.1, r1.2)

expression : {x y : Text} {m : Expression} {i o j : Input} → ExpressionAt i m o → Same x y i j →
    (p : Input) × ExpressionAt j m p × Same x y o p
expression (a.one a0) s = let r1 = atom a0 s in (r1.0, a.one r1.1, r1.2)
expression (a.sum a0 a1 a2) s = let r1 = atom a0 s in let r2 = next a1 r1.2 in let r3 = atom a2 r2.2 in (r3.0, a.sum r1.1 r2.1 r3.1, r3.2)
expression (a.difference a0 a1 a2) s = let r1 = atom a0 s in let r2 = next a1 r1.2 in
    let r3 = atom a2 r2.2 in (r3.0, a.difference r1.1 r2.1 r3.1, r3.2)

action : {x y : Text} {m : Action} {i o j : Input} → ActionAt i m o → Same x y i j → (p : Input) × ActionAt j m p × Same x y o p
action (a.set_number a0 a1 a2) s = let r1 = meant a0 s in let r2 = next a1 r1.2 in
    let r3 = expression a2 r2.2 in (r3.0, a.set_number r1.1 r2.1 r3.1, r3.2)
action (a.read_value a0 a1 a2 a3) s = let r1 = meant a0 s in let r2 = next a1 r1.2 in let r3 = next a2 r2.2 in
    let r4 = meant a3 r3.2 in (r4.0, a.read_value r1.1 r2.1 r3.1 r4.1, r4.2)
action (a.read_file a0 a1 a2 a3) s = let r1 = meant a0 s in let r2 = next a1 r1.2 in let r3 = next a2 r2.2 in
    let r4 = meant a3 r3.2 in (r4.0, a.read_file r1.1 r2.1 r3.1 r4.1, r4.2)
action (a.write_value a0 a1 a2 a3) s = let r1 = next a0 s in let r2 = meant a1 r1.2 in let r3 = next a2 r2.2 in
    let r4 = atom a3 r3.2 in (r4.0, a.write_value r1.1 r2.1 r3.1 r4.1, r4.2)
action (a.clear_context a0 a1 a2) s = let r1 = meant a0 s in let r2 = next a1 r1.2 in
    let r3 = next a2 r2.2 in (r3.0, a.clear_context r1.1 r2.1 r3.1, r3.2)
action (a.clear_operation a0 a1 a2) s = let r1 = meant a0 s in let r2 = next a1 r1.2 in
    let r3 = next a2 r2.2 in (r3.0, a.clear_operation r1.1 r2.1 r3.1, r3.2)

test : {x y : Text} {m : Test} {i o j : Input} → TestAt i m o → Same x y i j → (p : Input) × TestAt j m p × Same x y o p
test (a.context_is_some a0 a1 a2) s = let r1 = meant a0 s in let r2 = next a1 r1.2 in
    let r3 = next a2 r2.2 in (r3.0, a.context_is_some r1.1 r2.1 r3.1, r3.2)
test (a.operation_is_some a0 a1 a2) s = let r1 = meant a0 s in let r2 = next a1 r1.2 in
    let r3 = next a2 r2.2 in (r3.0, a.operation_is_some r1.1 r2.1 r3.1, r3.2)
test (a.equal a0 a1 a2) s = let r1 = meant a0 s in let r2 = next a1 r1.2 in let r3 = atom a2 r2.2 in (r3.0, a.equal r1.1 r2.1 r3.1, r3.2)
test (a.less a0 a1 a2) s = let r1 = meant a0 s in let r2 = next a1 r1.2 in let r3 = atom a2 r2.2 in (r3.0, a.less r1.1 r2.1 r3.1, r3.2)
test (a.is_irp a0 a1) s = let r1 = next a0 s in let r2 = next a1 r1.2 in (r2.0, a.is_irp r1.1 r2.1, r2.2)
test (a.is_draining a0) s = let r1 = next a0 s in (r1.0, a.is_draining r1.1, r1.2)

-- ---- calls

status : {x y : Text} {m : Status} {i o j : Input} → StatusAt i m o → Same x y i j → (p : Input) × StatusAt j m p × Same x y o p
status (c.with_callback a0 a1) s = let r1 = next a0 s in let r2 = optional a1 r1.2 in (r2.0, c.with_callback r1.1 r2.1, r2.2)
status (c.synchronize a0 a1) s = let r1 = next a0 s in let r2 = optional a1 r1.2 in (r2.0, c.synchronize r1.1 r2.1, r2.2)
status (c.complete a0 a1) s = let r1 = next a0 s in let r2 = meant a1 r1.2 in (r2.0, c.complete r1.1 r2.1, r2.2)
status (c.bare a0) s = let r1 = meant a0 s in (r1.0, c.bare r1.1, r1.2)

optional_status : {x y : Text} {m : Option Status} {i o j : Input} → OptionalStatusAt i m o → Same x y i j →
    (p : Input) × OptionalStatusAt j m p × Same x y o p
optional_status {j = j} c.no_status s = (j, c.no_status, s)
optional_status (c.some_status a) s = let r = status a s in (r.0, c.some_status r.1, r.2)

routine : {x y : Text} {m : Routine} {i o j : Input} → RoutineAt x i m o → Same x y i j →
    (n : Routine) × (p : Input) × RoutineAt y j n p × Same x y o p × (m.name ≡ n.name)
routine {j = j} (c.routine {name = n} a) s =
    let r = name a s in (record { name = n; position = position j }, r.0, c.routine r.1, r.2, refl)

lock : {x y : Text} {locks : List Lock} {queue : Bool} {kd : LockKind} {m : LockNumber} {i o j : Input} →
    LockAt (scope x locks queue) kd i m o → Same x y i j → (p : Input) × LockAt (scope y locks queue) kd j m p × Same x y o p
lock (c.lock a0 a1) s = let r1 = name a0 s in (r1.0, c.lock r1.1 a1, r1.2)

-- operands that differ in where a routine's name stands alone
data AlikeOperands : Operands → Operands → Type 0 where
  alike : {u : Operands} {r : Routine} → u.routine.name ≡ r.name → AlikeOperands u (record u { routine = r })

slot : {x y : Text} {locks : List Lock} {queue : Bool} {t : Slot} {u v m : Operands} {i o j : Input} →
    SlotAt (scope x locks queue) t u i m o → AlikeOperands u v → Same x y i j →
    (n : Operands) × (p : Input) × SlotAt (scope y locks queue) t v j n p × Same x y o p × AlikeOperands m n
slot {v = v} (c.data_word b) h s = let r1 = next b s in (v, r1.0, c.data_word r1.1, r1.2, h)
slot {v = v} (c.as_word b) h s = let r1 = next b s in (v, r1.0, c.as_word r1.1, r1.2, h)
slot {v = v} (c.context_word b) h s = let r1 = next b s in (v, r1.0, c.context_word r1.1, r1.2, h)
slot {v = v} (c.operation {d = d} b) (alike h) s = let r1 = meant b s in
    (record v { operation = d }, r1.0, c.operation r1.1, r1.2, alike h)
slot {v = v} (c.removed {v = d} b) (alike h) s = let r1 = meant b s in (record v { removed = d }, r1.0, c.removed r1.1, r1.2, alike h)
slot {v = v} (c.existing {e = d} b) (alike h) s = let r1 = meant b s in (record v { existing = d }, r1.0, c.existing r1.1, r1.2, alike h)
slot {v = v} (c.context {c = d} b) (alike h) s = let r1 = meant b s in (record v { context = d }, r1.0, c.context r1.1, r1.2, alike h)
slot {v = v} (c.other {d = d} b q) (alike h) s = let r1 = meant b s in (record v { other = d }, r1.0, c.other r1.1 q, r1.2, alike h)
slot {v = v} (c.routine_name b) (alike h) s = let r1 = routine b s in
    (record v { routine = r1.0 }, r1.1, c.routine_name r1.2, r1.3, alike r1.4)
slot {v = v} (c.lock_name {l = d} b) (alike h) s = let r1 = lock b s in (record v { lock = d }, r1.0, c.lock_name r1.1, r1.2, alike h)

slots : {x y : Text} {locks : List Lock} {queue : Bool} {ts : List Slot} {u v m : Operands} {i o j : Input} →
    SlotsAt (scope x locks queue) ts u i m o → AlikeOperands u v → Same x y i j →
    (n : Operands) × (p : Input) × SlotsAt (scope y locks queue) ts v j n p × Same x y o p × AlikeOperands m n
slots {v = v} {j = j} c.no_slots h s = (v, j, c.no_slots, s, h)
slots (c.slot b0 b1) h s = let r1 = slot b0 h s in let r2 = slots b1 r1.4 r1.3 in (r2.0, r2.1, c.slot r1.2 r2.2, r2.3, r2.4)

tail : {x y : Text} {t : Tail} {u v m : Operands} {i o j : Input} → TailAt t u i m o → AlikeOperands u v → Same x y i j →
    (n : Operands) × (p : Input) × TailAt t v j n p × Same x y o p × AlikeOperands m n
tail {v = v} {j = j} c.nothing h s = (v, j, c.nothing, s, h)
tail {v = v} (c.with_context {c = d} b) (alike h) s = let r1 = optional b s in
    (record v { optional = d }, r1.0, c.with_context r1.1, r1.2, alike h)
tail {v = v} (c.old {c = d} b) (alike h) s = let r1 = optional b s in (record v { optional = d }, r1.0, c.old r1.1, r1.2, alike h)
tail {v = v} (c.other_old {c = d} b q) (alike h) s = let r1 = optional b s in
    (record v { optional = d }, r1.0, c.other_old r1.1 q, r1.2, alike h)
tail {v = v} (c.status {s = d} b) (alike h) s = let r1 = status b s in (record v { status = d }, r1.0, c.status r1.1, r1.2, alike h)

same_plain : (t : PlainShape) {u v : Operands} → AlikeOperands u v → plain_of t v ≡ plain_of t u
same_plain (plain_shapes.End how) (alike h) = refl
same_plain plain_shapes.Reference (alike h) = refl
same_plain (plain_shapes.Lock call) (alike h) = refl
same_plain plain_shapes.CompletePre (alike h) = refl
same_plain plain_shapes.CompletePost (alike h) = refl

plain : {x y : Text} {locks : List Lock} {queue : Bool} {m : PlainCall} {i o j : Input} → PlainAt (scope x locks queue) i m o →
    Same x y i j → (p : Input) × PlainAt (scope y locks queue) j m p × Same x y o p
plain {y = y} {locks = locks} {queue = queue} {j = j} (c.plain {s = t} a0 a1 a2) s =
    let r1 = meant a0 s in let r2 = slots a1 (alike {u = unfilled} {r = unfilled.routine} refl) r1.2 in
    let r3 = tail a2 r2.4 r2.3 in
    (r3.1, subst (λ m. PlainAt (scope y locks queue) j m r3.1) (same_plain t r3.4) (c.plain r1.1 r2.2 r3.2), r3.3)

alike_fallible : (t : FallibleShape) {u v : Operands} → AlikeOperands u v → AlikeCall (fallible_of t u) (fallible_of t v)
alike_fallible (shapes.Obtain source) (alike h) = l.same
alike_fallible (shapes.Set anchor) (alike h) = l.same
alike_fallible (shapes.Delete anchor) (alike h) = l.same
alike_fallible (shapes.Queue queued.Insert) (alike h) = l.same
alike_fallible (shapes.Queue queued.RemoveNext) (alike h) = l.same
alike_fallible shapes.QueueDeferred (alike h) = l.deferred h
alike_fallible shapes.QueueGeneric (alike h) = l.generic h

fallible : {x y : Text} {locks : List Lock} {queue : Bool} {m : FallibleCall Routine} {i o j : Input} →
    FallibleAt (scope x locks queue) i m o → Same x y i j →
    (n : FallibleCall Routine) × (p : Input) × FallibleAt (scope y locks queue) j n p × Same x y o p × AlikeCall m n
fallible (c.fallible {s = t} a0 q a1 a2) s =
    let r1 = meant a0 s in let r2 = slots a1 (alike {u = unfilled} {r = unfilled.routine} refl) r1.2 in
    let r3 = tail a2 r2.4 r2.3 in
    (fallible_of t r3.0, r3.1, c.fallible r1.1 q r2.2 r3.2, r3.3, alike_fallible t r3.4)

condition : {x y : Text} {locks : List Lock} {queue : Bool} {m : Condition} {i o j : Input} →
    ConditionAt (scope x locks queue) i m o → Same x y i j →
    (n : Condition) × (p : Input) × ConditionAt (scope y locks queue) j n p × Same x y o p × AlikeCondition m n
condition {m = m} (a.test b) s = let r = test b s in (m, r.0, a.test r.1, r.2, l.a_test)
condition (a.succeeds b) s = let r = fallible b s in (made.Succeeds r.0, r.1, a.succeeds r.2, r.3, l.a_call r.4)

-- ---- statements

module _ (x y : Text) (locks : List Lock) (queue : Bool) where
  mutual
    statement : {d r : ℕ} {m : Statement} {i o j : Input} →
        StatementAt (scope x locks queue) d r i m o → Same x y i j →
        (n : Statement) × (p : Input) × StatementAt (scope y locks queue) d r j n p × Same x y o p × Alike m n
    statement {j = j} (g.act {a = v} b) s = let r1 = action b s in (Act (span j r1.0) v, r1.0, g.act r1.1, r1.2, l.act)
    statement {j = j} (g.call {c = v} b) s = let r1 = plain b s in (Call (span j r1.0) v, r1.0, g.call r1.1, r1.2, l.call)
    statement {j = j} (g.return {s = v} b0 b1) s =
        let r1 = next b0 s in let r2 = optional_status b1 r1.2 in (Return (span j r2.0) v, r2.0, g.return r1.1 r2.1, r2.2, l.return)
    statement {j = j} (g.choice b0 b1 b2 b3) s =
        let r1 = next b0 s in let r2 = condition b1 r1.2 in let r3 = block b2 r2.3 in let r4 = otherwise b3 r3.3 in
        (If (record (span r1.0 r2.1) { line = line j }) r2.0 r3.0 r4.0, r4.1, g.choice r1.1 r2.2 r3.2 r4.2, r4.3, l.choice r2.4 r3.4 r4.4)
    statement {j = j} (g.repeat {n = v} b0 b1 b2 b3) s =
        let r1 = next b0 s in let r2 = number b1 r1.2 in let r3 = block b3 r2.2 in
        (Repeat (span j r2.0) v r3.0, r3.1, g.repeat r1.1 r2.1 b2 r3.2, r3.3, l.repeat r3.4)

    otherwise : {d r : ℕ} {m : List Statement} {i o j : Input} →
        ElseAt (scope x locks queue) d r i m o → Same x y i j →
        (n : List Statement) × (p : Input) × ElseAt (scope y locks queue) d r j n p × Same x y o p × AlikeAll m n
    otherwise {j = j} g.no_else s = ([], j, g.no_else, s, l.empty)
    otherwise (g.some_else b0 b1) s =
        let r1 = next b0 s in let r2 = block b1 r1.2 in (r2.0, r2.1, g.some_else r1.1 r2.2, r2.3, r2.4)

    block : {d r : ℕ} {m : List Statement} {i o j : Input} →
        BlockAt (scope x locks queue) d r i m o → Same x y i j →
        (n : List Statement) × (p : Input) × BlockAt (scope y locks queue) d r j n p × Same x y o p × AlikeAll m n
    block (g.block b0 b1 b2) s =
        let r1 = next b0 s in let r2 = statements b1 r1.2 in let r3 = next b2 r2.3 in (r2.0, r3.0, g.block r1.1 r2.2 r3.1, r3.2, r2.4)

    statements : {d r : ℕ} {m : List Statement} {i o j : Input} →
        StatementsAt (scope x locks queue) d r i m o → Same x y i j →
        (n : List Statement) × (p : Input) × StatementsAt (scope y locks queue) d r j n p × Same x y o p × AlikeAll m n
    statements {j = j} g.empty s = ([], j, g.empty, s, l.empty)
    statements (g.go_on b0 b1) s =
        let r1 = statement b0 s in let r2 = statements b1 r1.3 in (r1.0 ∷ r2.0, r2.1, g.go_on r1.2 r2.2, r2.3, l.go_on r1.4 r2.4)

-- ---- callbacks and files

head : {x y : Text} {m : Head} {i o j : Input} → HeadAt x i m o → Same x y i j → (p : Input) × HeadAt y j m p × Same x y o p
head (g.pre a0 a1) s = let r1 = next a0 s in let r2 = meant a1 r1.2 in (r2.0, g.pre r1.1 r2.1, r2.2)
head (g.post a0 a1) s = let r1 = next a0 s in let r2 = meant a1 r1.2 in (r2.0, g.post r1.1 r2.1, r2.2)
head (g.canceled a0) s = let r1 = next a0 s in (r1.0, g.canceled r1.1, r1.2)
head (g.deferred_pre a0 a1) s = let r1 = next a0 s in let r2 = name a1 r1.2 in (r2.0, g.deferred_pre r1.1 r2.1, r2.2)
head (g.deferred_post a0 a1) s = let r1 = next a0 s in let r2 = name a1 r1.2 in (r2.0, g.deferred_post r1.1 r2.1, r2.2)
head (g.generic a0 a1) s = let r1 = next a0 s in let r2 = name a1 r1.2 in (r2.0, g.generic r1.1 r2.1, r2.2)

callback : {x y : Text} {locks : List Lock} {queue : Bool} {m : Callback} {i o j : Input} →
    CallbackAt (scope x locks queue) i m o → Same x y i j →
    (n : Callback) × (p : Input) × CallbackAt (scope y locks queue) j n p × Same x y o p × AlikeCallback m n
callback {x} {y} {locks} {queue} {j = j} (g.callback {h = h} b0 b1 b2 b3) s =
    let r1 = head b0 s in let r2 = next b1 r1.2 in let r3 = statements x y locks queue b2 r2.2 in let r4 = next b3 r3.3 in (
      record { head = h; position = position j; span = span j r1.0; body = r3.0; end = span r3.1 r4.0 },
      r4.0,
      g.callback r1.1 r2.1 r3.2 r4.1,
      r4.2,
      record { head = refl; body = r3.4 },
    )

callbacks : {x y : Text} {locks : List Lock} {queue : Bool} {m : List Callback} {i o j : Input} →
    CallbacksAt (scope x locks queue) i m o → Same x y i j →
    (n : List Callback) × (p : Input) × CallbacksAt (scope y locks queue) j n p × Same x y o p × AlikeCallbacks m n
callbacks (g.last b) s = let r = callback b s in (r.0 ∷ [], r.1, g.last r.2, r.3, l.one_callback r.4 l.no_callback)
callbacks (g.more b0 b1) s =
    let r1 = callback b0 s in let r2 = callbacks b1 r1.3 in (r1.0 ∷ r2.0, r2.1, g.more r1.2 r2.2, r2.3, l.one_callback r1.4 r2.4)

locks_at : {x y : Text} {m : List Lock} {i o j : Input} → LocksAt x i m o → Same x y i j → (p : Input) × LocksAt y j m p × Same x y o p
locks_at {j = j} g.no_lock s = (j, g.no_lock, s)
locks_at (g.one_lock b0 b1 b2 b3) s =
    let r1 = next b0 s in let r2 = meant b1 r1.2 in let r3 = name b2 r2.2 in let r4 = locks_at b3 r3.2 in
    (r4.0, g.one_lock r1.1 r2.1 r3.1 r4.1, r4.2)

queue_at : {x y : Text} {m : Option Position} {i o j : Input} → QueueAt i m o → Same x y i j →
    (n : Option Position) × (p : Input) × QueueAt j n p × Same x y o p × (is_some m ≡ is_some n)
queue_at {j = j} g.no_queue s = (None, j, g.no_queue, s, refl)
queue_at {j = j} (g.some_queue b) s = let r = next b s in (Some (position j), r.0, g.some_queue r.1, r.2, refl)

file : {x y : Text} {f : Filter} {i j : Input} → FileAt x i f → Same x y i j → (h : Filter) × FileAt y j h × AlikeFilter f h
file {x} {y} (g.file {name = v} {n = n} {ls = ls} {q = q} {cs = cs} b0 b1 b2 b3 b4 b5 b6 e) s =
    let r1 = next b0 s in
    let r2 = name b1 r1.2 in
    let r3 = next b2 r2.2 in
    let r4 = number b3 r3.2 in
    let r5 = locks_at b4 r4.2 in
    let r6 = queue_at b5 r5.2 in
    let r7 = callbacks {locks = ls} {queue = is_some q} b6 r6.3 in (
      record { name = v; altitude = n; locks = ls; queue = r6.0; callbacks = r7.0 },
      g.file r1.1 r2.1 r3.1 r4.1 r5.1 r6.2 (subst (λ b. CallbacksAt (scope y ls b) r6.1 r7.0 r7.1) r6.4 r7.2) (sym (kind_same r7.3) ∙ e),
      record { name = refl; altitude = refl; locks = refl; queue = r6.4; callbacks = r7.4 },
    )

-- ---- a whole text

spells : (x y : Text) (f h : Filter) → Spells x f → length y ≤ max_text → FileAt y (tokens y) h → AlikeFilter f h → Spells y h
spells x y f h w short read a =
    record {
      short = short;
      grammar = read;
      low = subst (λ n. 1 ≤ n) a.altitude w.low;
      high = subst (λ n. n ≤ max_altitude) a.altitude w.high;
      few_locks = subst (λ ls. length ls ≤ max_locks) a.locks w.few_locks;
      new_locks = subst (AreNewLocks []) a.locks w.new_locks;
      few_callbacks = subst (λ n. n ≤ max_callbacks) (length_alike a.callbacks) w.few_callbacks;
      new_callbacks = new_alike [] [] f.callbacks h.callbacks no_callback a.callbacks w.new_callbacks;
      small = subst IsTrue (small_callbacks f.callbacks h.callbacks a.callbacks) w.small;
      served = served_alike f.queue h.queue f.callbacks h.callbacks a.queue a.callbacks w.served;
      whole = whole_alike f.callbacks h.callbacks f.callbacks h.callbacks a.callbacks a.callbacks w.whole;
    }

-- lists of pairs
front : Word × Text → List (Word × Text) → Word × Text
front p [] = p
front p (q ∷ qs) = q

behind : List (Word × Text) → List (Word × Text)
behind [] = []
behind (q ∷ qs) = qs

is_nil : List (Word × Text) → Bool
is_nil [] = true
is_nil (q ∷ qs) = false

same_from : (x y : Text) (i j : Input) → map (word_and_bytes x) i ≡ map (word_and_bytes y) j → Same x y i j
unfolding front behind is_nil
same_from x y [] [] e = none
same_from x y [] (u ∷ j) e = absurd (false≢true (sym (ap is_nil e)))
same_from x y (t ∷ i) [] e = absurd (false≢true (ap is_nil e))
same_from x y (t ∷ i) (u ∷ j) e =
    let p = ap (front (word_and_bytes x t)) e in
    more (ap (λ (q : Word × Text). q.0) p) (ap (λ (q : Word × Text). q.1) p) (same_from x y i j (ap behind e))

-- where the layout keeps a text's tokens, it keeps the tree
pub keeps_tree : KeepsTokens → KeepsTree
keeps_tree same z f s short =
    let r = file s.grammar (same_from z (laid_out z) (tokens z) (tokens (laid_out z)) (sym (same z))) in
    (r.0, spells z (laid_out z) f r.0 s short r.1 r.2, sym (places_alike f r.0 r.2))
