-- What is spelled spells the same before any other tokens: words, calls, statements and blocks.
use Rattle.std.proofs.Common.{◌≡◌, ◌≢◌, ◌-◌, ℕ, suc, List, [], ◌∷◌, ◌++◌, length, refl, sym, ap, subst, ◌∙◌, append_assoc, arith}
use Rattle.std.proofs.Math.Seq.{take-append_seam}
use Rattle.std.proofs.lemmas.List.{length-append}
use Rattle.std.specs.Prelude.{Bool, true, false, Option, Some, None}
use Rattle.flt_rules.specs.declared.call.LockKind.{LockKind}
use Rattle.flt_rules.specs.declared.call.LockNumber.{LockNumber}
use Rattle.flt_syntax.specs.declared.shape.Operands.{Operands}
use Rattle.flt_syntax.specs.declared.shape.Slot.{Slot}
use Rattle.flt_syntax.specs.declared.shape.Tail.{Tail}
use Rattle.flt_syntax.specs.declared.token.Kind.{Kind}
use Rattle.flt_syntax.specs.declared.token.Kind.TheVariants as k
use Rattle.flt_syntax.specs.declared.token.Token.{Token}
use Rattle.flt_tree.specs.Names.{Text}
use Rattle.flt_tree.specs.declared.filter.Action.{Action}
use Rattle.flt_tree.specs.declared.filter.Condition.{Condition}
use Rattle.flt_tree.specs.declared.filter.FallibleCall.{FallibleCall}
use Rattle.flt_tree.specs.declared.filter.PlainCall.{PlainCall}
use Rattle.flt_tree.specs.declared.filter.Routine.{Routine}
use Rattle.flt_tree.specs.declared.filter.Span.{Span}
use Rattle.flt_tree.specs.declared.filter.Statement.{Statement}
use Rattle.flt_tree.specs.declared.filter.Statement.TheVariants.{Act, Call, Return, If, Repeat}
use Rattle.flt_tree.specs.declared.filter.Status.{Status}
use Rattle.flt_tree.specs.declared.filter.Test.{Test}
use Rattle.flt_tree.specs.declared.variable.Atom.{Atom}
use Rattle.flt_tree.specs.declared.variable.ContextVariable.{ContextVariable}
use Rattle.flt_tree.specs.declared.variable.Expression.{Expression}
use Rattle.flt_syntax.specs.ActionGrammar as acting
use Rattle.flt_syntax.specs.ActionGrammar.{AtomAt, ExpressionAt, ActionAt, TestAt, ConditionAt}
use Rattle.flt_syntax.specs.CallGrammar as calling
use Rattle.flt_syntax.specs.CallGrammar.{StatusAt, OptionalStatusAt, RoutineAt, LockAt, SlotAt, SlotsAt, TailAt, FallibleAt, PlainAt}
use Rattle.flt_syntax.specs.Grammar as grammar
use Rattle.flt_syntax.specs.Grammar.{StatementAt, ElseAt, BlockAt, StatementsAt}
use Rattle.flt_syntax.specs.Words as words
use Rattle.flt_syntax.specs.Words.{Next, Meant, NameAt, NumberAt, OptionalAt}
use Rattle.flt_syntax.specs.Scope.{Scope}
use Rattle.flt_syntax.specs.FirstWords.{begins_status}
use Rattle.flt_syntax.specs.Cursor.{Input, front, kind, is_word, span_of, span}
use Rattle.flt_syntax.specs.Over.{OptionalOver, StatusOver, OptionalStatusOver, FallibleOver, PlainOver, ExpressionOver, ActionOver}
use Rattle.flt_syntax.specs.Over.{ConditionOver, ElseOver, StatementOver, TailOver}

-- the kinds of token that productions take: not the end, nor what is no token
abbrev pub passable : Kind → Bool
passable k.End = false
passable k.Stray = false
passable k.Malformed = false
passable _ = true

abbrev pub AllPassed : Input → Type 0
AllPassed [] = Unit {0}
AllPassed (t ∷ i) = (passable t.word.kind ≡ true) × AllPassed i

-- what was taken in two parts
pub passed_both : (i j : Input) → AllPassed i → AllPassed j → AllPassed (i ++ j)
passed_both [] j h l = l
passed_both (t ∷ i) j h l = (h.0, passed_both i j h.1 l)

-- spelled by the tokens that were taken, whatever stands behind them
pub record Detached {A : Type 0} (R : Input → A → Input → Type 0) (i : Input) (x : A) (o : Input) : Type 0 where
  pub taken : Input
  pub parts : i ≡ taken ++ o
  pub passed : AllPassed taken
  pub again : (z : Input) → R (taken ++ z) x z

-- what is spelled behind something
pub shift : {A B : Type 0} {P : Input → B → Input → Type 0} {R : Input → A → Input → Type 0} {i a o : Input} {x : A} {y : B}
    (p : Detached P i y a) → Detached (λ j x z. R (p.taken ++ j) x z) a x o → Detached R i x o
shift {R = R} {x = x} p d = record {
  taken = p.taken ++ d.taken;
  parts = p.parts ∙ (ap (λ z. p.taken ++ z) d.parts ∙ sym (append_assoc p.taken d.taken _));
  passed = passed_both p.taken d.taken p.passed d.passed;
  again = λ z. subst (λ j. R j x z) (sym (append_assoc p.taken d.taken z)) (d.again z);
}

-- the same behind a token
shift_token : {A : Type 0} {R : Input → A → Input → Type 0} {a o : Input} {x : A} {kd : Kind} (t : Token) → t.word.kind ≡ kd →
    passable kd ≡ true → Detached (λ j x z. R (t ∷ j) x z) a x o → Detached R (t ∷ a) x o
shift_token t e h d = record {
  taken = t ∷ d.taken;
  parts = ap (λ z. t ∷ z) d.parts;
  passed = (ap passable e ∙ h, d.passed);
  again = d.again;
}

-- what is made of it
pub made : {A B : Type 0} {P : Input → A → Input → Type 0} {R : Input → B → Input → Type 0} {i o : Input} {x : A} {y : B} →
    Detached P i x o → ((j z : Input) → P j x z → R j y z) → Detached R i y o
made d h = record { taken = d.taken; parts = d.parts; passed = d.passed; again = λ z. h _ z (d.again z) }

-- a part that is left out
pub left_out : {A : Type 0} {R : Input → A → Input → Type 0} {i : Input} {x : A} → ((z : Input) → R z x z) → Detached R i x i
left_out h = record { taken = []; parts = refl; passed = tt; again = h }

-- a token of a kind
abbrev NextAt : Kind → Input → Unit {0} → Input → Type 0
NextAt kd i u o = Next kd i o

-- a token of a kind
pub next_free : {kd : Kind} {i o : Input} → passable kd ≡ true → Next kd i o → Detached (NextAt kd) i tt o
next_free h (words.next {t = t} e) = record { taken = t ∷ []; parts = refl; passed = (ap passable e ∙ h, tt); again = λ z. words.next e }

differ : false ≡ true → ⊥
differ e = cc

none_some : {A : Type 0} (a : A) → None ≡ Some a → ⊥
none_some a e = cc

-- a table has nothing for the other kinds
abbrev pub Skips : {A : Type 0} → (Kind → Option A) → Type 0
Skips table = (table k.End ≡ None) × (table k.Stray ≡ None) × (table k.Malformed ≡ None)

by_table : {A : Type 0} (table : Kind → Option A) (x : A) (a : Kind) → Skips table → table a ≡ Some x → passable a ≡ true
by_table table x k.End h e = elim (none_some x (sym h.0 ∙ e)) [ ]
by_table table x k.Stray h e = elim (none_some x (sym h.1 ∙ e)) [ ]
by_table table x k.Malformed h e = elim (none_some x (sym h.2 ∙ e)) [ ]
by_table table x _ h e = refl

-- a word of a table
pub meant_free : {A : Type 0} {table : Kind → Option A} {i o : Input} {a : A} → Skips table → Meant table i a o →
    Detached (Meant table) i a o
meant_free {table = table} {a = a} h (words.meant {t = t} e) =
    record { taken = t ∷ []; parts = refl; passed = (by_table table a t.word.kind h e, tt); again = λ z. words.meant e }

word_passes : (a : Kind) → is_word a ≡ true → passable a ≡ true
word_passes k.End e = elim (differ e) [ ]
word_passes k.Stray e = elim (differ e) [ ]
word_passes k.Malformed e = elim (differ e) [ ]
word_passes _ e = refl

-- NAME
pub name_free : {text name : Text} {i o : Input} → NameAt text i name o → Detached (NameAt text) i name o
name_free (words.name {t = t} e) =
    record { taken = t ∷ []; parts = refl; passed = (word_passes t.word.kind e, tt); again = λ z. words.name e }

-- NUMBER
pub number_free : {i o : Input} {n : ℕ} → NumberAt i n o → Detached NumberAt i n o
number_free (words.number {t = t} e) = record { taken = t ∷ []; parts = refl; passed = (ap passable e, tt); again = λ z. words.number e }

-- where the next token is the same, it is over too
abbrev Stays : Type 0 → Input → Type 0 → Input → Type 0
Stays over o over_again z = over → front z ≡ front o → over_again

-- a token of another kind stays one
pub other_kind : (kd : Kind) (i z : Input) → kind i ≢ kd → front z ≡ front i → kind z ≢ kd
other_kind kd i z n same e = n (sym (ap (λ (t : Token). t.word.kind) same) ∙ e)

-- NAME of a routine
pub routine_free : {text : Text} {i o : Input} {x : Routine} → RoutineAt text i x o → Detached (RoutineAt text) i x o
routine_free (calling.routine (words.name {t = t} e)) = record {
  taken = t ∷ [];
  parts = refl;
  passed = (word_passes t.word.kind e, tt);
  again = λ z. calling.routine (words.name e);
}

lock_free : {scope : Scope} {lk : LockKind} {i o : Input} {l : LockNumber} → LockAt scope lk i l o → Detached (LockAt scope lk) i l o
lock_free (calling.lock p e) = made (name_free p) (λ j z q. calling.lock q e)

-- [ "context" C ] or [ "old" C ], which stays over where the next token is the same
pub optional_free : {kd : Kind} {i o : Input} {c : Option ContextVariable} → passable kd ≡ true → (p : OptionalAt kd i c o) →
    Detached (λ j c z. (q : OptionalAt kd j c z) × (OptionalOver p → front z ≡ front o → OptionalOver q)) i c o
optional_free {kd = kd} h (words.without {i = i}) = left_out (λ z. (words.without, λ over same. other_kind kd i z over same))
optional_free h (words.behind n p) =
    let dn = next_free h n in
    shift dn (made (meant_free (refl, refl, refl) p) (λ j z y. (words.behind (dn.again j) y, λ over same. tt)))

status_free : {i o : Input} {s : Status} (p : StatusAt i s o) →
    Detached (λ j s z. (q : StatusAt j s z) × (StatusOver p → front z ≡ front o → StatusOver q)) i s o
status_free (calling.with_callback n p) =
    let dn = next_free refl n in shift dn (made (optional_free refl p) (λ j z y. (calling.with_callback (dn.again j) y.0, y.1)))
status_free (calling.synchronize n p) =
    let dn = next_free refl n in shift dn (made (optional_free refl p) (λ j z y. (calling.synchronize (dn.again j) y.0, y.1)))
status_free (calling.complete n p) =
    let dn = next_free refl n in shift dn (made (meant_free (refl, refl, refl) p)
    (λ j z y. (calling.complete (dn.again j) y, λ over same. tt)))
status_free (calling.bare p) =
    made (meant_free (refl, refl, refl) p) (λ j z y. (calling.bare y, λ over same. tt))

optional_status_free : {i o : Input} {s : Option Status} (p : OptionalStatusAt i s o) →
    Detached (λ j s z. (q : OptionalStatusAt j s z) × (OptionalStatusOver p → front z ≡ front o → OptionalStatusOver q)) i s o
optional_status_free (calling.no_status {i = i}) =
    left_out (λ z. (calling.no_status, λ over same. ap (λ (t : Token). begins_status t.word.kind) same ∙ over))
optional_status_free (calling.some_status p) =
    made (status_free p) (λ j z y. (calling.some_status y.0, y.1))

-- a slot
pub slot_free : {scope : Scope} {s : Slot} {x y : Operands} {i o : Input} → SlotAt scope s x i y o →
    Detached (λ j y z. SlotAt scope s x j y z) i y o
slot_free (calling.data_word n) = made (next_free refl n) (λ j z q. calling.data_word q)
slot_free (calling.as_word n) = made (next_free refl n) (λ j z q. calling.as_word q)
slot_free (calling.context_word n) = made (next_free refl n) (λ j z q. calling.context_word q)
slot_free (calling.operation p) = made (meant_free (refl, refl, refl) p) (λ j z q. calling.operation q)
slot_free (calling.removed p) = made (meant_free (refl, refl, refl) p) (λ j z q. calling.removed q)
slot_free (calling.existing p) = made (meant_free (refl, refl, refl) p) (λ j z q. calling.existing q)
slot_free (calling.context p) = made (meant_free (refl, refl, refl) p) (λ j z q. calling.context q)
slot_free (calling.other p h) = made (meant_free (refl, refl, refl) p) (λ j z q. calling.other q h)
slot_free (calling.routine_name p) = made (routine_free p) (λ j z q. calling.routine_name q)
slot_free (calling.lock_name p) = made (lock_free p) (λ j z q. calling.lock_name q)

-- slots
pub slots_free : {scope : Scope} {ss : List Slot} {x y : Operands} {i o : Input} → SlotsAt scope ss x i y o →
    Detached (λ j y z. SlotsAt scope ss x j y z) i y o
slots_free calling.no_slots = left_out (λ z. calling.no_slots)
slots_free (calling.slot p q) = let dp = slot_free p in shift dp (made (slots_free q) (λ j z y. calling.slot (dp.again j) y))

-- what ends a call, which stays over where the next token is the same
tail_free : {t : Tail} {x y : Operands} {i o : Input} (p : TailAt t x i y o) →
    Detached (λ j y z. (q : TailAt t x j y z) × (TailOver p → front z ≡ front o → TailOver q)) i y o
tail_free calling.nothing = left_out (λ z. (calling.nothing, λ over same. tt))
tail_free (calling.with_context p) = made (optional_free refl p) (λ j z y. (calling.with_context y.0, y.1))
tail_free (calling.old p) = made (optional_free refl p) (λ j z y. (calling.old y.0, y.1))
tail_free (calling.other_old p h) = made (optional_free refl p) (λ j z y. (calling.other_old y.0 h, y.1))
tail_free (calling.status p) = made (status_free p) (λ j z y. (calling.status y.0, y.1))

-- fallible, which stays over where the next token is the same
pub fallible_free : {scope : Scope} {i o : Input} {c : FallibleCall Routine} (p : FallibleAt scope i c o) →
    Detached (λ j c z. (q : FallibleAt scope j c z) × (FallibleOver p → front z ≡ front o → FallibleOver q)) i c o
fallible_free (calling.fallible n q p t) =
    let dn = meant_free (refl, refl, refl) n in let dp = slots_free p in
    shift dn (shift dp (made (tail_free t) (λ j z y. (calling.fallible (dn.again (dp.taken ++ j)) q (dp.again j) y.0, y.1))))

plain_free : {scope : Scope} {i o : Input} {c : PlainCall} (p : PlainAt scope i c o) →
    Detached (λ j c z. (q : PlainAt scope j c z) × (PlainOver p → front z ≡ front o → PlainOver q)) i c o
plain_free (calling.plain n p t) =
    let dn = meant_free (refl, refl, refl) n in let dp = slots_free p in
    shift dn (shift dp (made (tail_free t) (λ j z y. (calling.plain (dn.again (dp.taken ++ j)) (dp.again j) y.0, y.1))))

-- atom
pub atom_free : {i o : Input} {x : Atom} → AtomAt i x o → Detached AtomAt i x o
atom_free (acting.number p) = made (number_free p) (λ j z q. acting.number q)
atom_free (acting.variable p) = made (meant_free (refl, refl, refl) p) (λ j z q. acting.variable q)

expression_free : {i o : Input} {x : Expression} (p : ExpressionAt i x o) →
    Detached (λ j x z. (q : ExpressionAt j x z) × (ExpressionOver p → front z ≡ front o → ExpressionOver q)) i x o
expression_free (acting.one {o = o} p) =
    made (atom_free p) (λ j z q. (acting.one q, λ over same. (other_kind k.Plus o z over.0 same, other_kind k.Minus o z over.1 same)))
expression_free (acting.sum p n q) =
    let dp = atom_free p in let dn = next_free refl n in shift dp (shift dn (made (atom_free q)
    (λ j z y. (acting.sum (dp.again (dn.taken ++ j)) (dn.again j) y, λ over same. tt))))
expression_free (acting.difference p n q) =
    let dp = atom_free p in let dn = next_free refl n in shift dp (shift dn (made (atom_free q)
    (λ j z y. (acting.difference (dp.again (dn.taken ++ j)) (dn.again j) y, λ over same. tt))))

action_free : {i o : Input} {a : Action} (p : ActionAt i a o) →
    Detached (λ j a z. (q : ActionAt j a z) × (ActionOver p → front z ≡ front o → ActionOver q)) i a o
action_free (acting.set_number p m q) =
    let dp = meant_free (refl, refl, refl) p in let dm = next_free refl m in shift dp (shift dm (made (expression_free q)
    (λ j z y. (acting.set_number (dp.again (dm.taken ++ j)) (dm.again j) y.0, y.1))))
action_free (acting.read_value p m w q) =
    let dp = meant_free (refl, refl, refl) p in let dm = next_free refl m in let dw = next_free refl w in
    shift dp (shift dm (shift dw (made (meant_free (refl, refl, refl) q)
    (λ j z y. (acting.read_value (dp.again (dm.taken ++ (dw.taken ++ j))) (dm.again (dw.taken ++ j)) (dw.again j) y, λ over same. tt)))))
action_free (acting.read_file p m w q) =
    let dp = meant_free (refl, refl, refl) p in let dm = next_free refl m in let dw = next_free refl w in
    shift dp (shift dm (shift dw (made (meant_free (refl, refl, refl) q)
    (λ j z y. (acting.read_file (dp.again (dm.taken ++ (dw.taken ++ j))) (dm.again (dw.taken ++ j)) (dw.again j) y, λ over same. tt)))))
action_free (acting.write_value n p m q) =
    let dn = next_free refl n in let dp = meant_free (refl, refl, refl) p in let dm = next_free refl m in
    shift dn (shift dp (shift dm (made (atom_free q)
    (λ j z y. (acting.write_value (dn.again (dp.taken ++ (dm.taken ++ j))) (dp.again (dm.taken ++ j)) (dm.again j) y, λ over same. tt)))))
action_free (acting.clear_context p m n) =
    let dp = meant_free (refl, refl, refl) p in let dm = next_free refl m in shift dp (shift dm (made (next_free refl n)
    (λ j z y. (acting.clear_context (dp.again (dm.taken ++ j)) (dm.again j) y, λ over same. tt))))
action_free (acting.clear_operation p m n) =
    let dp = meant_free (refl, refl, refl) p in let dm = next_free refl m in shift dp (shift dm (made (next_free refl n)
    (λ j z y. (acting.clear_operation (dp.again (dm.taken ++ j)) (dm.again j) y, λ over same. tt))))

test_free : {i o : Input} {t : Test} → TestAt i t o → Detached TestAt i t o
test_free (acting.context_is_some p m n) =
    let dp = meant_free (refl, refl, refl) p in let dm = next_free refl m in shift dp (shift dm (made (next_free refl n)
    (λ j z y. acting.context_is_some (dp.again (dm.taken ++ j)) (dm.again j) y)))
test_free (acting.operation_is_some p m n) =
    let dp = meant_free (refl, refl, refl) p in let dm = next_free refl m in shift dp (shift dm (made (next_free refl n)
    (λ j z y. acting.operation_is_some (dp.again (dm.taken ++ j)) (dm.again j) y)))
test_free (acting.equal p m q) =
    let dp = meant_free (refl, refl, refl) p in let dm = next_free refl m in shift dp (shift dm (made (atom_free q)
    (λ j z y. acting.equal (dp.again (dm.taken ++ j)) (dm.again j) y)))
test_free (acting.less p m q) =
    let dp = meant_free (refl, refl, refl) p in let dm = next_free refl m in shift dp (shift dm (made (atom_free q)
    (λ j z y. acting.less (dp.again (dm.taken ++ j)) (dm.again j) y)))
test_free (acting.is_irp n m) =
    let dn = next_free refl n in shift dn (made (next_free refl m) (λ j z y. acting.is_irp (dn.again j) y))
test_free (acting.is_draining n) =
    made (next_free refl n) (λ j z y. acting.is_draining y)

-- cond, which stays over where the next token is the same
pub condition_free : {scope : Scope} {i o : Input} {c : Condition} (p : ConditionAt scope i c o) →
    Detached (λ j c z. (q : ConditionAt scope j c z) × (ConditionOver p → front z ≡ front o → ConditionOver q)) i c o
condition_free (acting.test p) =
    made (test_free p) (λ j z y. (acting.test y, λ over same. tt))
condition_free (acting.succeeds p) =
    made (fallible_free p) (λ j z y. (acting.succeeds y.0, y.1))

-- ---- statements, which have the line of their first token

-- no token spells nothing
no_token : (t : Token) (o : Input) → t ∷ o ≡ [] → ⊥
no_token t o e = cc

-- a token is no end
pub next_some : {kd : Kind} {i o : Input} → Next kd i o → i ≡ [] → ⊥
next_some (words.next {t = t} {o = o} e) h = no_token t o h

meant_some : {A : Type 0} {table : Kind → Option A} {i o : Input} {a : A} → Meant table i a o → i ≡ [] → ⊥
meant_some (words.meant {t = t} {o = o} e) h = no_token t o h

action_some : {i o : Input} {a : Action} → ActionAt i a o → i ≡ [] → ⊥
action_some (acting.set_number p m q) h = meant_some p h
action_some (acting.read_value p m w q) h = meant_some p h
action_some (acting.read_file p m w q) h = meant_some p h
action_some (acting.write_value n p m q) h = next_some n h
action_some (acting.clear_context p m n) h = meant_some p h
action_some (acting.clear_operation p m n) h = meant_some p h

plain_some : {scope : Scope} {i o : Input} {c : PlainCall} → PlainAt scope i c o → i ≡ [] → ⊥
plain_some (calling.plain n p t) h = meant_some n h

-- what takes a token keeps its first one
pub same_token : (taken z i o : Input) → i ≡ taken ++ o → (taken ≡ [] → ⊥) → front (taken ++ z) ≡ front i
same_token [] z i o e some = elim (some refl) [ ]
same_token (t ∷ taken) z i o e some = sym (ap front e)

-- what was taken stands at the same place, whatever is behind it
pub taken_span : (taken z : Input) → span (taken ++ z) z ≡ span_of taken
unfolding span
taken_span taken z =
    let all : length (taken ++ z) - length z ≡ length taken = omega (arith, length-append taken z) in
    rw (all, take-append_seam taken z) refl

-- a part that is read before other tokens has the same place in the text
pub same_span : {A : Type 0} {R : Input → A → Input → Type 0} {i o : Input} {x : A} (d : Detached R i x o) (z : Input) →
    span (d.taken ++ z) z ≡ span i o
same_span {o = o} d z = taken_span d.taken z ∙ sym (ap (λ j. span j o) d.parts ∙ taken_span d.taken o)

-- the same of a token and what was taken behind it
behind_span : {A : Type 0} {R : Input → A → Input → Type 0} {a o : Input} {x : A} (t : Token) (d : Detached R a x o) (z : Input) →
    span (t ∷ (d.taken ++ z)) z ≡ span (t ∷ a) o
behind_span {o = o} t d z = taken_span (t ∷ d.taken) z ∙ sym (ap (λ j. span (t ∷ j) o) d.parts ∙ taken_span (t ∷ d.taken) o)

-- a statement is made of what was taken, with where that stands
spanned : {A : Type 0} {P : Input → A → Input → Type 0} {R : Input → Statement → Input → Type 0} {i o : Input} {x : A}
    (s : Span → Statement) → Detached P i x o → ((j z : Input) → P j x z → R j (s (span j z)) z) → Detached R i (s (span i o)) o
spanned {R = R} s d h = record {
  taken = d.taken;
  parts = d.parts;
  passed = d.passed;
  again = λ z. subst (λ p. R (d.taken ++ z) (s p) z) (same_span d z) (h (d.taken ++ z) z (d.again z));
}

-- "return" [ status ]
abbrev Returned : {i o : Input} {s : Option Status} → OptionalStatusAt i s o → Input → Option Status → Input → Type 0
Returned {o = o} p j s z =
    (b : Input) × Next k.Return j b × ((q : OptionalStatusAt b s z) × (OptionalStatusOver p → front z ≡ front o → OptionalStatusOver q))

mutual
  -- stmt, which stays over where the next token is the same
  pub statement_free : {scope : Scope} {d r : ℕ} {i o : Input} {s : Statement} (p : StatementAt scope d r i s o) →
      Detached (λ j s z. (q : StatementAt scope d r j s z) × (StatementOver p → front z ≡ front o → StatementOver q)) i s o
  statement_free (grammar.act {a = a} p) =
      spanned (λ l. Act l a) (action_free p) (λ j z y. (grammar.act y.0, y.1))
  statement_free (grammar.call {c = c} p) =
      spanned (λ l. Call l c) (plain_free p) (λ j z y. (grammar.call y.0, y.1))
  statement_free {scope = scope} {d = d} {r = r} (grammar.return {o = o} {s = s} (words.next {t = t} e) p) =
      spanned (λ l. Return l s) (shift_token {R = Returned p} t e refl (made (optional_status_free p) (λ j z y. (j, words.next e, y))))
      (λ j z y. (grammar.return y.1 y.2.0, y.2.1))
  statement_free {scope = scope} {d = d} {r = r} {o = o} (grammar.choice {c = c} {granted = g} {refused = f} (words.next {t = t} e) p q x) =
      let dp = condition_free p in let dq = block_free q in
      shift_token t e refl (shift dp (shift dq (made (else_free x) (λ j z y.
      subst (λ l. (s : StatementAt scope d r (t ∷ (dp.taken ++ (dq.taken ++ j))) (If (record l { line = t.position.line }) c g f) z)
      × (ElseOver x → front z ≡ front o → StatementOver s)) (same_span dp (dq.taken ++ j))
      (grammar.choice (words.next e) (dp.again (dq.taken ++ j)).0 (dq.again j) y.0, y.1)))))
  statement_free {scope = scope} {d = d} {o = o} (grammar.repeat {r = r} {n = n} {body = body} (words.next {t = t} e) p h q) =
      let dp = number_free p in
      shift_token t e refl (shift dp (made (block_free q) (λ j z y.
      subst (λ l. (s : StatementAt scope d (suc r) (t ∷ (dp.taken ++ j)) (Repeat l n body) z) ×
      (Unit {0} → front z ≡ front o → StatementOver s))
      (behind_span t dp j) (grammar.repeat (words.next e) (dp.again j) h y, λ over same. tt))))

  else_free : {scope : Scope} {d r : ℕ} {i o : Input} {ss : List Statement} (p : ElseAt scope d r i ss o) →
      Detached (λ j ss z. (q : ElseAt scope d r j ss z) × (ElseOver p → front z ≡ front o → ElseOver q)) i ss o
  else_free (grammar.no_else {i = i}) = left_out (λ z. (grammar.no_else, λ over same. other_kind k.Else i z over same))
  else_free (grammar.some_else n p) =
      let dn = next_free refl n in
      shift dn (made (block_free p) (λ j z y. (grammar.some_else (dn.again j) y, λ over same. tt)))

  -- block
  pub block_free : {scope : Scope} {d r : ℕ} {i o : Input} {ss : List Statement} → BlockAt scope d r i ss o →
      Detached (BlockAt scope d r) i ss o
  block_free (grammar.block n p m) =
      let dn = next_free refl n in let dp = statements_free p in
      shift dn (shift dp (made (next_free refl m)
      (λ j z y. grammar.block (dn.again (dp.taken ++ j)) (dp.again j) y)))

  -- { stmt }
  pub statements_free : {scope : Scope} {d r : ℕ} {i o : Input} {ss : List Statement} → StatementsAt scope d r i ss o →
      Detached (StatementsAt scope d r) i ss o
  statements_free grammar.empty = left_out (λ z. grammar.empty)
  statements_free (grammar.go_on p q) =
      let dp = statement_free p in
      shift dp (made (statements_free q) (λ j z y. grammar.go_on (dp.again j).0 y))
