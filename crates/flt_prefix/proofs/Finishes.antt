-- The tokens before an E03 begin what spells, unless a lock's name must stand there, and the depth of blocks aside.
use Rattle.std.proofs.Common.{◌≡◌, ◌≢◌, true, ℕ, zero, suc, ◌+◌, ◌≤◌, List, [], ◌∷◌, ◌++◌, refl, sym, ap, subst, ◌∙◌, append_assoc, arith}
use Rattle.std.proofs.lemmas.Bool.{and_parts}
use Rattle.std.specs.Prelude.{Bool, false, ◌&&◌, Option, Some, None}
use Rattle.flt_rules.specs.declared.call.Existing.TheVariants as kept
use Rattle.flt_rules.specs.declared.call.LockKind.{LockKind}
use Rattle.flt_rules.specs.declared.status.FinalStatus.TheVariants as finals
use Rattle.flt_syntax.specs.declared.fault.FaultKind.TheVariants.{E01, E02, E03, E04, E05, E06, E08}
use Rattle.flt_syntax.specs.declared.fault.SyntaxFault.{SyntaxFault}
use Rattle.flt_syntax.specs.declared.shape.ContextEnd.TheVariants as ends
use Rattle.flt_syntax.specs.declared.shape.ContextSource.TheVariants as sources
use Rattle.flt_syntax.specs.declared.shape.FallibleShape.{FallibleShape}
use Rattle.flt_syntax.specs.declared.shape.FallibleShape.TheVariants as shapes
use Rattle.flt_syntax.specs.declared.shape.Operands.{Operands}
use Rattle.flt_syntax.specs.declared.shape.PlainShape.{PlainShape}
use Rattle.flt_syntax.specs.declared.shape.PlainShape.TheVariants as plain_shapes
use Rattle.flt_syntax.specs.declared.shape.QueueCall.TheVariants as queued
use Rattle.flt_syntax.specs.declared.shape.Slot.{Slot}
use Rattle.flt_syntax.specs.declared.shape.Slot.TheVariants as part
use Rattle.flt_syntax.specs.declared.shape.Tail.{Tail}
use Rattle.flt_syntax.specs.declared.shape.Tail.TheVariants as last
use Rattle.flt_syntax.specs.declared.token.Kind.{Kind}
use Rattle.flt_syntax.specs.declared.token.Kind.TheVariants as k
use Rattle.flt_syntax.specs.declared.token.Token.{Token}
use Rattle.flt_rules.specs.Limits.{max_turns}
use Rattle.flt_tree.specs.declared.filter.Action.TheVariants as actions
use Rattle.flt_tree.specs.declared.filter.Condition.TheVariants as conditions
use Rattle.flt_tree.specs.declared.filter.Statement.{Statement}
use Rattle.flt_tree.specs.declared.filter.Statement.TheVariants as statements
use Rattle.flt_tree.specs.declared.filter.Status.TheVariants as statuses
use Rattle.flt_tree.specs.declared.variable.Atom.TheVariants as atoms
use Rattle.flt_tree.specs.declared.variable.ContextVariable.{ContextVariable}
use Rattle.flt_tree.specs.declared.variable.ContextVariable.TheVariants as contexts
use Rattle.flt_tree.specs.declared.variable.Expression.TheVariants as expressions
use Rattle.flt_tree.specs.declared.variable.OperationVariable.TheVariants as operations
use Rattle.flt_tree.specs.declared.variable.RemovedVariable.TheVariants as removed
use Rattle.flt_tree.specs.Names.{Text}
use Rattle.flt_syntax.specs.ActionGrammar as acting
use Rattle.flt_syntax.specs.ActionGrammar.{AtomAt, ExpressionAt, ActionAt, ConditionAt}
use Rattle.flt_syntax.specs.CallGrammar as calling
use Rattle.flt_syntax.specs.CallGrammar.{StatusAt, OptionalStatusAt, SlotAt, SlotsAt, TailAt, FallibleAt, PlainAt}
use Rattle.flt_syntax.specs.Grammar as grammar
use Rattle.flt_syntax.specs.Grammar.{StatementAt, ElseAt, BlockAt, StatementsAt}
use Rattle.flt_syntax.specs.Words as words
use Rattle.flt_syntax.specs.Words.{Next, Meant, NameAt, NumberAt, ContextAt, OptionalAt}
use Rattle.flt_syntax.specs.Scope.{Scope}
use Rattle.flt_syntax.specs.Shape.{unfilled, fallible_slots, fallible_tail, fallible_of, plain_shape_of, plain_slots, plain_tail, plain_of}
use Rattle.flt_syntax.specs.Cursor.{span, Input, bytes_of, fault_at}
use Rattle.flt_prefix.proofs.Detached.{passable, AllPassed, passed_both, Detached, next_free, meant_free, number_free, atom_free}
use Rattle.flt_prefix.proofs.Detached.{condition_free, statement_free, block_free, slot_free, slots_free}
use Rattle.flt_prefix.proofs.DetachedFiles.{head_free, callback_free}
use Rattle.flt_syntax.specs.WordFails as word_fails
use Rattle.flt_syntax.specs.WordFails.{Refused, Unknown, NextFails, MeantFails, KnownFails, NameFails, NumberFails}
use Rattle.flt_syntax.specs.WordFails.{ContextFails, OtherFails, OptionalFails, OtherOldFails}
use Rattle.flt_syntax.specs.CallFails as call_fails
use Rattle.flt_syntax.specs.CallFails.{StatusFails, OptionalStatusFails, LockFails, SlotFails, SlotsFail, TailFails, FallibleFails, PlainFails}
use Rattle.flt_syntax.specs.ActionFails as bad
use Rattle.flt_syntax.specs.ActionFails.{AtomFails, LeadingFails, ExpressionFails, ActionFails, ConditionFails}
use Rattle.flt_syntax.specs.StatementFails as statement_fails
use Rattle.flt_syntax.specs.StatementFails.{StatementFails, ElseFails, BlockFails, StatementsFails}
use Rattle.flt_syntax.specs.FileFails as file
use Rattle.flt_syntax.specs.FileFails.{NewNameFails, HeadFails, CallbackFails, CallbacksFails}
use Rattle.flt_prefix.specs.Prefix as prefix
use Rattle.flt_prefix.specs.Prefix.{names_lock, AsksNoLock, AnyCallbackAt, AnyCallbacksAt, CallbacksBegin}
use Rattle.flt_rules.specs.declared.place.Operation.TheVariants as operating
use Rattle.flt_syntax.specs.Grammar.{HeadAt, CallbackAt}
use Rattle.flt_tree.specs.declared.filter.Callback.{Callback}

-- ---- which faults are an E03

not_one : E01 ≡ E03 → ⊥
not_one e = cc

not_two : E02 ≡ E03 → ⊥
not_two e = cc

not_four : E04 ≡ E03 → ⊥
not_four e = cc

-- an E05 is no E03
pub not_five : E05 ≡ E03 → ⊥
not_five e = cc

-- an E06 is no E03
pub not_six : E06 ≡ E03 → ⊥
not_six e = cc

not_eight : E08 ≡ E03 → ⊥
not_eight e = cc

-- where a token that can't stand there is an E03
pub refused_at : {i : Input} {f : SyntaxFault} → Refused i f → f.kind ≡ E03 → f ≡ fault_at E03 i
refused_at (word_fails.stray e) h = elim (not_one h) [ ]
refused_at (word_fails.malformed e) h = elim (not_two h) [ ]
refused_at (word_fails.other e) h = refl

unknown_at : {i : Input} {f : SyntaxFault} → Unknown i f → f.kind ≡ E03 → f ≡ fault_at E03 i
unknown_at (word_fails.unknown e) h = elim (not_four h) [ ]
unknown_at (word_fails.no_word e r) h = refused_at r h

-- ---- what finishes

-- the tokens before the fault, and others that finish what they begin
pub record Finishes {A : Type 0} (R : Input → A → Input → Type 0) (i : Input) (f : SyntaxFault) : Type 0 where
  pub before : Input
  pub rest : Input
  pub parts : i ≡ before ++ rest
  pub passed : AllPassed before
  pub place : f ≡ fault_at E03 rest
  pub finish : Input
  pub spells : (o : Input) → (x : A) × R (before ++ (finish ++ o)) x o

-- a token of a kind, at no place
abbrev pub a_token : Kind → Token
a_token kind = record { word = record { kind = kind; value = 0 }; position = record { line = 1; column = 1 }; start = 0; end = 0 }

-- what finishes behind something
pub fin_shift : {A B : Type 0} {P : Input → B → Input → Type 0} {R : Input → A → Input → Type 0} {i a : Input} {y : B} {f : SyntaxFault}
    (d : Detached P i y a) → Finishes (λ j x o. R (d.taken ++ j) x o) a f → Finishes R i f
fin_shift {A = A} {R = R} d v = record {
  before = d.taken ++ v.before;
  rest = v.rest;
  parts = d.parts ∙ (ap (λ z. d.taken ++ z) v.parts ∙ sym (append_assoc d.taken v.before v.rest));
  passed = passed_both d.taken v.before d.passed v.passed;
  place = v.place;
  finish = v.finish;
  spells = λ o. subst (λ j. (x : A) × R j x o) (sym (append_assoc d.taken v.before (v.finish ++ o))) (v.spells o);
}

-- what finishes with more tokens
pub fin_more : {A B : Type 0} {Q : Input → A → Input → Type 0} {R : Input → B → Input → Type 0} {i : Input} {f : SyntaxFault}
    (more : Input) →
    Finishes Q i f → ((j o : Input) (u : A) → Q j u (more ++ o) → (x : B) × R j x o) → Finishes R i f
fin_more {B = B} {R = R} more v h = record {
  before = v.before;
  rest = v.rest;
  parts = v.parts;
  passed = v.passed;
  place = v.place;
  finish = v.finish ++ more;
  spells = λ o.
      let s = v.spells (more ++ o) in
      subst (λ j. (x : B) × R (v.before ++ j) x o) (sym (append_assoc v.finish more o)) (h _ o s.0 s.1);
}

-- what is finished with it
pub fin_by : {A B : Type 0} {Q : Input → A → Input → Type 0} {R : Input → B → Input → Type 0} {i : Input} {f : SyntaxFault} →
    Finishes Q i f → ((j o : Input) (u : A) → Q j u o → (x : B) × R j x o) → Finishes R i f
fin_by v h = record {
  before = v.before;
  rest = v.rest;
  parts = v.parts;
  passed = v.passed;
  place = v.place;
  finish = v.finish;
  spells = λ o. let s = v.spells o in h _ o s.0 s.1;
}

-- what finishes from the token at fault on
pub fin_at : {A : Type 0} {R : Input → A → Input → Type 0} {f : SyntaxFault} (i finish : Input) → f ≡ fault_at E03 i →
    ((o : Input) → (x : A) × R (finish ++ o) x o) → Finishes R i f
fin_at i finish e spells = record { before = []; rest = i; parts = refl; passed = tt; place = e; finish = finish; spells = spells }

abbrev pub NextAt : Kind → Input → Unit {0} → Input → Type 0
NextAt kd i u o = Next kd i o

-- a token of a kind
pub next_fin : {kd : Kind} {i : Input} {f : SyntaxFault} → NextFails kd i f → f.kind ≡ E03 → Finishes (NextAt kd) i f
next_fin {kd = kd} (word_fails.missing {i = i} n r) e = fin_at i (a_token kd ∷ []) (refused_at r e) (λ o. (tt, words.next refl))

-- a word of a table
pub meant_fin : {A : Type 0} {table : Kind → Option A} {i : Input} {f : SyntaxFault} (kd : Kind) (a : A) → table kd ≡ Some a →
    MeantFails table i f → f.kind ≡ E03 → Finishes (Meant table) i f
meant_fin kd a h (word_fails.unmeant {i = i} n r) e = fin_at i (a_token kd ∷ []) (refused_at r e) (λ o. (a, words.meant h))

known_fin : {A : Type 0} {table : Kind → Option A} {i : Input} {f : SyntaxFault} (kd : Kind) (a : A) → table kd ≡ Some a →
    KnownFails table i f → f.kind ≡ E03 → Finishes (Meant table) i f
known_fin kd a h (word_fails.unnamed {i = i} n r) e = fin_at i (a_token kd ∷ []) (unknown_at r e) (λ o. (a, words.meant h))

context_fin : {i : Input} {f : SyntaxFault} → ContextFails i f → f.kind ≡ E03 → Finishes ContextAt i f
context_fin h e = known_fin k.C0 contexts.C0 refl h e

-- NAME
pub name_fin : {text : Text} {i : Input} {f : SyntaxFault} → NameFails i f → f.kind ≡ E03 → Finishes (NameAt text) i f
name_fin {text = text} (word_fails.no_name {i = i} n r) e =
    fin_at i (a_token k.Name ∷ []) (refused_at r e) (λ o. (bytes_of text (a_token k.Name), words.name refl))

number_fin : {low high : ℕ} {i : Input} {f : SyntaxFault} → NumberFails low high i f → f.kind ≡ E03 →
    Finishes (λ j n o. NumberAt j n o × (n ≡ 0)) i f
number_fin (word_fails.no_number {i = i} n r) e = fin_at i (a_token k.Number ∷ []) (refused_at r e) (λ o. (0, (words.number refl, refl)))
number_fin (word_fails.too_low p l) e = elim (not_six e) [ ]
number_fin (word_fails.too_high p l) e = elim (not_six e) [ ]

-- another context than one
another : (c : ContextVariable) → (d : ContextVariable) × (kd : Kind) × ((j : Input) → ContextAt (a_token kd ∷ j) d j) × (d ≢ c)
another contexts.C0 = (contexts.C1, k.C1, (λ j. words.meant refl), λ e. one_zero e)
  where
    one_zero : contexts.C1 ≡ contexts.C0 → ⊥
    one_zero e = cc
another c = (contexts.C0, k.C0, (λ j. words.meant refl), λ e. zero_other e)
  where
    zero_other : contexts.C0 ≡ c → ⊥
    zero_other e = cc

other_fin : {first : ContextVariable} {i : Input} {f : SyntaxFault} → OtherFails first i f → f.kind ≡ E03 →
    Finishes (λ j d o. ContextAt j d o × (d ≢ first)) i f
other_fin {first = first} (word_fails.no_context (word_fails.unnamed {i = i} n r)) e =
    let a = another first in fin_at i (a_token a.1 ∷ []) (unknown_at r e) (λ o. (a.0, (a.2 o, a.3)))
other_fin (word_fails.twice p) e = elim (not_eight e) [ ]

some_same : (a b : ContextVariable) → Some a ≡ Some b → a ≡ b
some_same a b e = cc

none_some : (a : ContextVariable) → None ≡ Some a → ⊥
none_some a e = cc

optional_fin : {kd : Kind} {i : Input} {f : SyntaxFault} → passable kd ≡ true → OptionalFails kd i f → f.kind ≡ E03 →
    Finishes (OptionalAt kd) i f
optional_fin g (word_fails.behind n h) e =
    let dn = next_free g n in fin_shift dn (fin_by (context_fin h e) (λ j o u y. (Some u, words.behind (dn.again j) y)))

other_old_fin : {first : ContextVariable} {i : Input} {f : SyntaxFault} → OtherOldFails first i f → f.kind ≡ E03 →
    Finishes (λ j d o. OptionalAt k.Old j d o × (d ≢ Some first)) i f
other_old_fin {first = first} (word_fails.behind_old n h) e =
    let dn = next_free refl n in fin_shift dn (fin_by (other_fin h e)
    (λ j o u y. (Some u, (words.behind (dn.again j) y.0, λ x. y.1 (some_same u first x)))))

status_fin : {i : Input} {f : SyntaxFault} → StatusFails i f → f.kind ≡ E03 → Finishes StatusAt i f
status_fin (call_fails.no_status {i = i} b r) e =
    fin_at i (a_token k.Pending ∷ []) (refused_at r e) (λ o. (statuses.Pending, calling.bare (words.meant refl)))
status_fin (call_fails.with_callback n h) e =
    let dn = next_free refl n in fin_shift dn (fin_by (optional_fin refl h e)
    (λ j o u y. (statuses.WithCallback u, calling.with_callback (dn.again j) y)))
status_fin (call_fails.synchronize n h) e =
    let dn = next_free refl n in fin_shift dn (fin_by (optional_fin refl h e)
    (λ j o u y. (statuses.Synchronize u, calling.synchronize (dn.again j) y)))
status_fin (call_fails.complete n h) e =
    let dn = next_free refl n in fin_shift dn (fin_by (meant_fin k.StatusSuccess finals.Success refl h e)
    (λ j o u y. (statuses.Complete u, calling.complete (dn.again j) y)))

-- where a lock's name must stand
lock_asked : {scope : Scope} {lk : LockKind} {i : Input} {f : SyntaxFault} → LockFails scope lk i f → f.kind ≡ E03 → f ≡ fault_at E03 i
lock_asked (call_fails.no_name (word_fails.no_name n r)) e = refused_at r e
lock_asked (call_fails.unknown_lock p n) e = elim (not_four e) [ ]

-- ---- slots, which any of some tokens fills, but for a lock's name

abbrev is_free : Slot → Bool
is_free (part.Lock kind) = false
is_free _ = true

abbrev are_free : List Slot → Bool
are_free [] = true
are_free (s ∷ ss) = is_free s && are_free ss

-- a token that fills a slot
record Filled (scope : Scope) (s : Slot) (x : Operands) : Type 0 where
  kind : Kind
  now : Operands
  spells : (o : Input) → SlotAt scope s x (a_token kind ∷ o) now o

no_lock : false ≡ true → ⊥
no_lock e = cc

fill : (scope : Scope) (s : Slot) (x : Operands) → is_free s ≡ true → Filled scope s x
fill scope part.Data x e = record { kind = k.Data; now = x; spells = λ o. calling.data_word (words.next refl) }
fill scope part.As x e = record { kind = k.As; now = x; spells = λ o. calling.as_word (words.next refl) }
fill scope part.With x e = record { kind = k.Context; now = x; spells = λ o. calling.context_word (words.next refl) }
fill scope part.Operation x e =
    record { kind = k.Data; now = record x { operation = operations.Data }; spells = λ o. calling.operation (words.meant refl) }
fill scope part.Removed x e =
    record { kind = k.O0; now = record x { removed = removed.O0 }; spells = λ o. calling.removed (words.meant refl) }
fill scope part.Existing x e =
    record { kind = k.KeepIfExists; now = record x { existing = kept.Keep }; spells = λ o. calling.existing (words.meant refl) }
fill scope part.Context x e =
    record { kind = k.C0; now = record x { context = contexts.C0 }; spells = λ o. calling.context (words.meant refl) }
fill scope part.Other x e =
    let a = another x.context in record { kind = a.1; now = record x { other = a.0 }; spells = λ o. calling.other (a.2 o) a.3 }
fill scope part.Routine x e =
    let t = a_token k.Name in record {
      kind = k.Name;
      now = record x { routine = record { name = bytes_of scope.text t; position = t.position } };
      spells = λ o. calling.routine_name (calling.routine (words.name refl));
    }
fill scope (part.Lock kind) x e = elim (no_lock e) [ ]

-- tokens that fill slots
record AllFilled (scope : Scope) (ss : List Slot) (x : Operands) : Type 0 where
  tokens : Input
  now : Operands
  spells : (o : Input) → SlotsAt scope ss x (tokens ++ o) now o

fill_all : (scope : Scope) (ss : List Slot) (x : Operands) → are_free ss ≡ true → AllFilled scope ss x
fill_all scope [] x e = record { tokens = []; now = x; spells = λ o. calling.no_slots }
fill_all scope (s ∷ ss) x e =
    let h = and_parts (is_free s) (are_free ss) e in
    let one = fill scope s x h.0 in
    let more = fill_all scope ss one.now h.1 in record {
      tokens = a_token one.kind ∷ more.tokens;
      now = more.now;
      spells = λ o. calling.slot (one.spells (more.tokens ++ o)) (more.spells o);
    }

-- tokens that end a call
record Ended (t : Tail) (x : Operands) : Type 0 where
  tokens : Input
  now : Operands
  spells : (o : Input) → TailAt t x (tokens ++ o) now o

end_by : (t : Tail) (x : Operands) → Ended t x
end_by last.Nothing x = record { tokens = []; now = x; spells = λ o. calling.nothing }
end_by last.With x = record { tokens = []; now = record x { optional = None }; spells = λ o. calling.with_context words.without }
end_by last.Old x = record { tokens = []; now = record x { optional = None }; spells = λ o. calling.old words.without }
end_by last.OtherOld x = record {
  tokens = [];
  now = record x { optional = None };
  spells = λ o. calling.other_old words.without (λ e. none_some x.context e);
}
end_by last.Status x = record {
  tokens = a_token k.Pending ∷ [];
  now = record x { status = statuses.Pending };
  spells = λ o. calling.status (calling.bare (words.meant refl));
}

-- a slot fails at its own token
slot_place : {scope : Scope} {s : Slot} {x : Operands} {i : Input} {f : SyntaxFault} → SlotFails scope s x i f → f.kind ≡ E03 →
    f ≡ fault_at E03 i
slot_place (call_fails.data_word (word_fails.missing n r)) e = refused_at r e
slot_place (call_fails.as_word (word_fails.missing n r)) e = refused_at r e
slot_place (call_fails.context_word (word_fails.missing n r)) e = refused_at r e
slot_place (call_fails.operation (word_fails.unnamed n r)) e = unknown_at r e
slot_place (call_fails.removed (word_fails.unnamed n r)) e = unknown_at r e
slot_place (call_fails.existing (word_fails.unmeant n r)) e = refused_at r e
slot_place (call_fails.context (word_fails.unnamed n r)) e = unknown_at r e
slot_place (call_fails.other (word_fails.no_context (word_fails.unnamed n r))) e = unknown_at r e
slot_place (call_fails.other (word_fails.twice p)) e = elim (not_eight e) [ ]
slot_place (call_fails.routine_name (word_fails.no_name n r)) e = refused_at r e
slot_place (call_fails.lock_name h) e = lock_asked h e

-- what finishes slots, and the operands that it leaves
record SlotsFinish (scope : Scope) (ss : List Slot) (x : Operands) (i : Input) (f : SyntaxFault) : Type 0 where
  now : Operands
  finishes : Finishes (λ j (u : Unit {0}) o. SlotsAt scope ss x j now o) i f

slots_fin : {scope : Scope} {ss : List Slot} {x : Operands} {i : Input} {f : SyntaxFault} → SlotsFail scope ss x i f → f.kind ≡ E03 →
    are_free ss ≡ true → SlotsFinish scope ss x i f
slots_fin {scope = scope} (call_fails.here {x = x} {i = i} {s = s} {ss = ss} h) e free =
    let b = and_parts (is_free s) (are_free ss) free in
    let one = fill scope s x b.0 in
    let more = fill_all scope ss one.now b.1 in record {
      now = more.now;
      finishes = fin_at i (a_token one.kind ∷ more.tokens) (slot_place h e)
          (λ o. (tt, calling.slot (one.spells (more.tokens ++ o)) (more.spells o)));
    }
slots_fin (call_fails.later {s = s} {ss = ss} p h) e free =
    let d = slot_free p in
    let v = slots_fin h e (and_parts (is_free s) (are_free ss) free).1 in
    record { now = v.now; finishes = fin_shift d (fin_by v.finishes (λ j o u y. (tt, calling.slot (d.again j) y))) }

tail_fin : {t : Tail} {x : Operands} {i : Input} {f : SyntaxFault} → TailFails t x i f → f.kind ≡ E03 → Finishes (TailAt t x) i f
tail_fin {x = x} (call_fails.with_context h) e =
    fin_by (optional_fin refl h e) (λ j o u y. (record x { optional = u }, calling.with_context y))
tail_fin {x = x} (call_fails.old h) e = fin_by (optional_fin refl h e) (λ j o u y. (record x { optional = u }, calling.old y))
tail_fin {x = x} (call_fails.other_old h) e =
    fin_by (other_old_fin h e) (λ j o u y. (record x { optional = u }, calling.other_old y.0 y.1))
tail_fin {x = x} (call_fails.status h) e = fin_by (status_fin h e) (λ j o u y. (record x { status = u }, calling.status y))

-- ---- calls that can fail

free_slots : (s : FallibleShape) → are_free (fallible_slots s) ≡ true
free_slots (shapes.Obtain source) = refl
free_slots (shapes.Set anchor) = refl
free_slots (shapes.Delete anchor) = refl
free_slots (shapes.Queue queued.Insert) = refl
free_slots (shapes.Queue queued.RemoveNext) = refl
free_slots shapes.QueueDeferred = refl
free_slots shapes.QueueGeneric = refl

fallible_fin : {scope : Scope} {i : Input} {f : SyntaxFault} → FallibleFails scope i f → f.kind ≡ E03 → Finishes (FallibleAt scope) i f
fallible_fin (call_fails.no_fallible {i = i} b r) e =
    fin_at i (a_token k.AllocateContext ∷ (a_token k.C0 ∷ [])) (refused_at r e)
    (λ o. (
      _,
      calling.fallible {s = shapes.Obtain sources.Allocate} (words.meant refl) refl
          (calling.slot (calling.context {c = contexts.C0} (words.meant refl)) calling.no_slots) calling.nothing,
    ))
fallible_fin (call_fails.unknown_call n q) e = elim (not_four e) [ ]
fallible_fin (call_fails.fallible_slot {s = s} n q h) e =
    let dn = meant_free (refl, refl, refl) n in
    let v = slots_fin h e (free_slots s) in
    let ended = end_by (fallible_tail s) v.now in
    fin_shift dn (fin_more ended.tokens v.finishes
    (λ j o u y. (fallible_of s ended.now, calling.fallible (dn.again j) q y (ended.spells o))))
fallible_fin (call_fails.fallible_end {s = s} n q p h) e =
    let dn = meant_free (refl, refl, refl) n in let dp = slots_free p in
    fin_shift dn (fin_shift dp (fin_by (tail_fin h e)
    (λ j o u y. (fallible_of s u, calling.fallible (dn.again (dp.taken ++ j)) q (dp.again j) y))))

few_turns : (n : ℕ) → n ≡ 0 → n ≤ max_turns
few_turns n e = omega (arith, e)

new_name_fin : {text : Text} {found : List Callback} {i : Input} {f : SyntaxFault} → NewNameFails text found i f → f.kind ≡ E03 →
    Finishes (NameAt text) i f
new_name_fin (file.no_name h) e = name_fin h e
new_name_fin (file.name_twice p t) e = elim (not_five e) [ ]

-- what is left to read has no lock's name at its fault either
pub below : {i a : Input} {f : SyntaxFault} (taken : Input) → i ≡ taken ++ a → AsksNoLock i f → AsksNoLock a f
below taken e g b t rest p l q = g (taken ++ b) t rest (e ∙ (ap (λ z. taken ++ z) p ∙ sym (append_assoc taken b (t ∷ rest)))) l q

-- ---- where no lock's name must stand

module _ (scope : Scope) where
  -- a lock's name is missing where it must stand
  lock_place : {kind : LockKind} {x : Operands} {i : Input} {f : SyntaxFault} → SlotsFail scope (part.Lock kind ∷ []) x i f →
      f.kind ≡ E03 → f ≡ fault_at E03 i
  lock_place (call_fails.here h) e = slot_place h e
  lock_place (call_fails.later p h) e = elim h [ ]

  free_fin : (s : PlainShape) → are_free (plain_slots s) ≡ true → {i a : Input} {f : SyntaxFault} → Meant plain_shape_of i s a →
      SlotsFail scope (plain_slots s) unfilled a f → f.kind ≡ E03 → Finishes (PlainAt scope) i f
  free_fin s free n h e =
      let dn = meant_free (refl, refl, refl) n in
      let v = slots_fin h e free in
      let ended = end_by (plain_tail s) v.now in
      fin_shift dn (fin_more ended.tokens v.finishes
      (λ j o u y. (plain_of s ended.now, calling.plain (dn.again j) y (ended.spells o))))

  slot_fin : (s : PlainShape) {i a : Input} {f : SyntaxFault} → AsksNoLock i f → Meant plain_shape_of i s a →
      SlotsFail scope (plain_slots s) unfilled a f → f.kind ≡ E03 → Finishes (PlainAt scope) i f
  slot_fin (plain_shapes.End how) g n h e = free_fin (plain_shapes.End how) refl n h e
  slot_fin plain_shapes.Reference g n h e = free_fin plain_shapes.Reference refl n h e
  slot_fin (plain_shapes.Lock call) g (words.meant {t = t} {o = o} q) h e =
      elim (g [] t o refl (ap names_lock q) (lock_place h e)) [ ]
  slot_fin plain_shapes.CompletePre g n h e = free_fin plain_shapes.CompletePre refl n h e
  slot_fin plain_shapes.CompletePost g n h e = free_fin plain_shapes.CompletePost refl n h e

  plain_fin : {i : Input} {f : SyntaxFault} → AsksNoLock i f → PlainFails scope i f → f.kind ≡ E03 → Finishes (PlainAt scope) i f
  plain_fin g (call_fails.no_plain {i = i} b r) e =
      fin_at i (a_token k.DeleteContext ∷ (a_token k.C0 ∷ [])) (refused_at r e)
      (λ o. (
        _,
        calling.plain {s = plain_shapes.End ends.Delete} (words.meant refl)
            (calling.slot (calling.context {c = contexts.C0} (words.meant refl)) calling.no_slots) calling.nothing,
      ))
  plain_fin g (call_fails.plain_slot {s = s} n h) e = slot_fin s g n h e
  plain_fin g (call_fails.plain_end {s = s} n p h) e =
      let dn = meant_free (refl, refl, refl) n in let dp = slots_free p in
      fin_shift dn (fin_shift dp (fin_by (tail_fin h e)
      (λ j o u y. (plain_of s u, calling.plain (dn.again (dp.taken ++ j)) (dp.again j) y))))

optional_status_fin : {i : Input} {f : SyntaxFault} → OptionalStatusFails i f → f.kind ≡ E03 → Finishes OptionalStatusAt i f
optional_status_fin (call_fails.some b h) e = fin_by (status_fin h e) (λ j o u y. (Some u, calling.some_status y))

-- ---- atoms, actions, tests

atom_fin : {i : Input} {f : SyntaxFault} → AtomFails i f → f.kind ≡ E03 → Finishes AtomAt i f
atom_fin (bad.no_atom {i = i} b n r) e =
    fin_at i (a_token k.Number ∷ []) (unknown_at r e) (λ o. (atoms.Number 0, acting.number (words.number refl)))

leading_fin : {i : Input} {f : SyntaxFault} → LeadingFails i f → f.kind ≡ E03 → Finishes AtomAt i f
leading_fin (bad.no_leading {i = i} b n r) e =
    fin_at i (a_token k.Number ∷ []) (refused_at r e) (λ o. (atoms.Number 0, acting.number (words.number refl)))

expression_fin : {i : Input} {f : SyntaxFault} → ExpressionFails i f → f.kind ≡ E03 → Finishes ExpressionAt i f
expression_fin (bad.first h) e = fin_by (leading_fin h e) (λ j o u y. (expressions.Atom u, acting.one y))
expression_fin (bad.sum {x = x} p n h) e =
    let dp = atom_free p in let dn = next_free refl n in fin_shift dp (fin_shift dn (fin_by (atom_fin h e)
    (λ j o u y. (expressions.Sum x u, acting.sum (dp.again (dn.taken ++ j)) (dn.again j) y))))
expression_fin (bad.difference {x = x} p n h) e =
    let dp = atom_free p in let dn = next_free refl n in fin_shift dp (fin_shift dn (fin_by (atom_fin h e)
    (λ j o u y. (expressions.Difference x u, acting.difference (dp.again (dn.taken ++ j)) (dn.again j) y))))

action_fin : {i : Input} {f : SyntaxFault} → ActionFails i f → f.kind ≡ E03 → Finishes ActionAt i f
action_fin (bad.number_assign {n = v} p h) e =
    let dp = meant_free (refl, refl, refl) p in fin_shift dp (fin_more (a_token k.Number ∷ []) (next_fin h e)
    (λ j o u y. (_, acting.set_number (dp.again j) y (acting.one (acting.number (words.number refl))))))
action_fin (bad.number_expression {n = v} p m b c h) e =
    let dp = meant_free (refl, refl, refl) p in let dm = next_free refl m in fin_shift dp (fin_shift dm (fin_by (expression_fin h e)
    (λ j o u y. (actions.SetNumber v u, acting.set_number (dp.again (dm.taken ++ j)) (dm.again j) y))))
action_fin (bad.number_value {n = v} p m l h) e =
    let dp = meant_free (refl, refl, refl) p in let dm = next_free refl m in let dl = next_free refl l in
    fin_shift dp (fin_shift dm (fin_shift dl (fin_by (context_fin h e)
    (λ j o u y. (
      actions.ReadValue v u,
      acting.read_value (dp.again (dm.taken ++ (dl.taken ++ j))) (dm.again (dl.taken ++ j))
          (dl.again j) y,
    )))))
action_fin (bad.number_file {n = v} p m l h) e =
    let dp = meant_free (refl, refl, refl) p in let dm = next_free refl m in let dl = next_free refl l in
    fin_shift dp (fin_shift dm (fin_shift dl (fin_by
    (known_fin k.Data operations.Data refl h e) (λ j o u y. (
      actions.ReadFile v u,
      acting.read_file (dp.again (dm.taken ++
          (dl.taken ++ j))) (dm.again (dl.taken ++ j)) (dl.again j) y,
    )))))
action_fin (bad.value_context n h) e =
    let dn = next_free refl n in fin_shift dn (fin_more (a_token k.Assign ∷ (a_token k.Number ∷ [])) (context_fin h e)
    (λ j o u y. (_, acting.write_value (dn.again j) y (words.next refl) (acting.number (words.number refl)))))
action_fin (bad.value_assign n p h) e =
    let dn = next_free refl n in let dp = meant_free (refl, refl, refl) p in fin_shift dn (fin_shift dp (fin_more
    (a_token k.Number ∷ []) (next_fin h e) (λ j o u y. (
      _,
      acting.write_value (dn.again (dp.taken ++ j)) (dp.again j) y (acting.number
          (words.number refl)),
    ))))
action_fin (bad.value_atom {c = c} n p m h) e =
    let dn = next_free refl n in let dp = meant_free (refl, refl, refl) p in let dm = next_free refl m in
    fin_shift dn (fin_shift dp (fin_shift dm (fin_by (atom_fin h e)
    (λ j o u y. (
      actions.WriteValue c u,
      acting.write_value (dn.again (dp.taken ++ (dm.taken ++ j))) (dp.again (dm.taken ++ j))
          (dm.again j) y,
    )))))
action_fin (bad.context_assign {c = x} p h) e =
    let dp = meant_free (refl, refl, refl) p in fin_shift dp (fin_more (a_token k.Null ∷ []) (next_fin h e)
    (λ j o u y. (actions.ClearContext x, acting.clear_context (dp.again j) y (words.next refl))))
action_fin (bad.context_null {c = x} p m h) e =
    let dp = meant_free (refl, refl, refl) p in let dm = next_free refl m in fin_shift dp (fin_shift dm (fin_by (next_fin h e)
    (λ j o u y. (actions.ClearContext x, acting.clear_context (dp.again (dm.taken ++ j)) (dm.again j) y))))
action_fin (bad.operation_assign {x = x} p h) e =
    let dp = meant_free (refl, refl, refl) p in fin_shift dp (fin_more (a_token k.Null ∷ []) (next_fin h e)
    (λ j o u y. (actions.ClearOperation x, acting.clear_operation (dp.again j) y (words.next refl))))
action_fin (bad.operation_null {x = x} p m h) e =
    let dp = meant_free (refl, refl, refl) p in let dm = next_free refl m in fin_shift dp (fin_shift dm (fin_by (next_fin h e)
    (λ j o u y. (actions.ClearOperation x, acting.clear_operation (dp.again (dm.taken ++ j)) (dm.again j) y))))

condition_fin : {scope : Scope} {i : Input} {f : SyntaxFault} → ConditionFails scope i f → f.kind ≡ E03 → Finishes (ConditionAt scope) i f
condition_fin (bad.call b h) e = fin_by (fallible_fin h e) (λ j o u y. (conditions.Succeeds u, acting.succeeds y))
condition_fin (bad.context_unlike p h) e =
    let dp = meant_free (refl, refl, refl) p in fin_shift dp (fin_more (a_token k.Null ∷ []) (next_fin h e)
    (λ j o u y. (_, acting.test (acting.context_is_some (dp.again j) y (words.next refl)))))
condition_fin (bad.context_unlike_null p m h) e =
    let dp = meant_free (refl, refl, refl) p in let dm = next_free refl m in fin_shift dp (fin_shift dm (fin_by (next_fin h e)
    (λ j o u y. (_, acting.test (acting.context_is_some (dp.again (dm.taken ++ j)) (dm.again j) y)))))
condition_fin (bad.operation_unlike p h) e =
    let dp = meant_free (refl, refl, refl) p in fin_shift dp (fin_more (a_token k.Null ∷ []) (next_fin h e)
    (λ j o u y. (_, acting.test (acting.operation_is_some (dp.again j) y (words.next refl)))))
condition_fin (bad.operation_unlike_null p m h) e =
    let dp = meant_free (refl, refl, refl) p in let dm = next_free refl m in fin_shift dp (fin_shift dm (fin_by (next_fin h e)
    (λ j o u y. (_, acting.test (acting.operation_is_some (dp.again (dm.taken ++ j)) (dm.again j) y)))))
condition_fin (bad.comparison {a = a} {n = v} p b c r) e =
    let dp = meant_free (refl, refl, refl) p in
    fin_shift dp (fin_at a (a_token k.Less ∷ (a_token k.Number ∷ [])) (refused_at r e)
    (λ o. (_, acting.test (acting.less (dp.again _) (words.next refl) (acting.number (words.number refl))))))
condition_fin (bad.equal_atom p m h) e =
    let dp = meant_free (refl, refl, refl) p in let dm = next_free refl m in fin_shift dp (fin_shift dm (fin_by (atom_fin h e)
    (λ j o u y. (_, acting.test (acting.equal (dp.again (dm.taken ++ j)) (dm.again j) y)))))
condition_fin (bad.less_atom p m h) e =
    let dp = meant_free (refl, refl, refl) p in let dm = next_free refl m in fin_shift dp (fin_shift dm (fin_by (atom_fin h e)
    (λ j o u y. (_, acting.test (acting.less (dp.again (dm.taken ++ j)) (dm.again j) y)))))
condition_fin (bad.irp_data n h) e =
    let dn = next_free refl n in fin_shift dn (fin_by (next_fin h e) (λ j o u y. (_, acting.test (acting.is_irp (dn.again j) y))))

-- ---- what blocks nest no deeper than a number may nest no deeper than a greater one

mutual
  statement_deeper : {scope : Scope} {d r : ℕ} {i o : Input} {s : Statement} (e : ℕ) → d ≤ e → StatementAt scope d r i s o →
      StatementAt scope e r i s o
  statement_deeper e h (grammar.act p) = grammar.act p
  statement_deeper e h (grammar.call p) = grammar.call p
  statement_deeper e h (grammar.return n p) = grammar.return n p
  statement_deeper e h (grammar.choice n p q x) = grammar.choice n p (block_deeper e h q) (else_deeper e h x)
  statement_deeper e h (grammar.repeat n p l q) = grammar.repeat n p l (block_deeper e h q)

  else_deeper : {scope : Scope} {d r : ℕ} {i o : Input} {ss : List Statement} (e : ℕ) → d ≤ e → ElseAt scope d r i ss o →
      ElseAt scope e r i ss o
  else_deeper e h grammar.no_else = grammar.no_else
  else_deeper e h (grammar.some_else n p) = grammar.some_else n (block_deeper e h p)

  block_deeper : {scope : Scope} {d r : ℕ} {i o : Input} {ss : List Statement} (e : ℕ) → d ≤ e → BlockAt scope d r i ss o →
      BlockAt scope e r i ss o
  block_deeper zero h (grammar.block n p m) = absurd (omega (arith, h))
  block_deeper (suc e) h (grammar.block n p m) = grammar.block n (statements_deeper e (omega (arith, h)) p) m

  statements_deeper : {scope : Scope} {d r : ℕ} {i o : Input} {ss : List Statement} (e : ℕ) → d ≤ e → StatementsAt scope d r i ss o →
      StatementsAt scope e r i ss o
  statements_deeper e h grammar.empty = grammar.empty
  statements_deeper e h (grammar.go_on p q) = grammar.go_on (statement_deeper e h p) (statements_deeper e h q)

-- ---- statements and blocks, however deep

module _ (scope : Scope) where
  abbrev SomeStatement : ℕ → Input → Statement → Input → Type 0
  SomeStatement r j s o = (e : ℕ) × StatementAt scope e r j s o

  abbrev SomeElse : ℕ → Input → List Statement → Input → Type 0
  SomeElse r j ss o = (e : ℕ) × ElseAt scope e r j ss o

  abbrev SomeBlock : ℕ → Input → List Statement → Input → Type 0
  SomeBlock r j ss o = (e : ℕ) × BlockAt scope e r j ss o

  abbrev pub SomeStatements : ℕ → Input → List Statement → Input → Type 0
  SomeStatements r j ss o = (e : ℕ) × StatementsAt scope e r j ss o

  abbrev braces : Input
  braces = a_token k.OpenBrace ∷ (a_token k.CloseBrace ∷ [])

  no_body : {r : ℕ} (o : Input) → BlockAt scope 1 r (braces ++ o) [] o
  no_body o = grammar.block {d = 0} (words.next refl) grammar.empty (words.next refl)

  mutual
    statement_fin : {d r : ℕ} {i : Input} {f : SyntaxFault} → AsksNoLock i f → StatementFails scope d r i f → f.kind ≡ E03 →
        Finishes (SomeStatement r) i f
    statement_fin g (statement_fails.act h) e = fin_by (action_fin h e) (λ j o u y. (statements.Act (span j o) u, (0, grammar.act y)))
    statement_fin g (statement_fails.call b h) e =
        fin_by (plain_fin scope g h e) (λ j o u y. (statements.Call (span j o) u, (0, grammar.call y)))
    statement_fin g (statement_fails.return n h) e =
        let dn = next_free refl n in
        fin_shift dn (fin_by (optional_status_fin h e) (λ j o u y. (_, (0, grammar.return (dn.again j) y))))
    statement_fin g (statement_fails.choice_test n h) e =
        let dn = next_free refl n in
        fin_shift dn (fin_more braces (condition_fin h e) (λ j o u y.
        (_, (1, grammar.choice (dn.again j) y (no_body o) grammar.no_else))))
    statement_fin g (statement_fails.choice_granted n p v h) e =
        let dn = next_free refl n in let dp = condition_free p in
        fin_shift dn (fin_shift dp (fin_by (block_fin (below dp.taken dp.parts
        (below dn.taken dn.parts g)) h e) (λ j o u y.
        (_, (y.0, grammar.choice (dn.again (dp.taken ++ j)) (dp.again j).0 y.1 grammar.no_else)))))
    statement_fin {d = d} g (statement_fails.choice_refused n p q h) e =
        let dn = next_free refl n in let dp = condition_free p in let dq = block_free q in
        fin_shift dn (fin_shift dp (fin_shift dq (fin_by (else_fin (below dq.taken dq.parts
        (below dp.taken dp.parts (below dn.taken dn.parts g))) h e) (λ j o u y. (
          _,
          (
            d + y.0,
            grammar.choice (dn.again (dp.taken ++ (dq.taken ++ j))) (dp.again (dq.taken ++ j)).0
                (block_deeper (d + y.0) (omega arith) (dq.again j)) (else_deeper (d + y.0) (omega arith) y.1),
          ),
        )))))
    statement_fin g (statement_fails.repeat_nested n) e = elim (not_six e) [ ]
    statement_fin g (statement_fails.repeat_number n h) e =
        let dn = next_free refl n in
        fin_shift dn (fin_more braces (number_fin h e) (λ j o u y.
        (_, (1, grammar.repeat (dn.again j) y.0 (few_turns u y.1) (no_body o)))))
    statement_fin g (statement_fails.repeat_body n p l h) e =
        let dn = next_free refl n in let dp = number_free p in
        fin_shift dn (fin_shift dp (fin_by (block_fin (below dp.taken dp.parts
        (below dn.taken dn.parts g)) h e) (λ j o u y.
        (_, (y.0, grammar.repeat (dn.again (dp.taken ++ j)) (dp.again j) l y.1)))))

    else_fin : {d r : ℕ} {i : Input} {f : SyntaxFault} → AsksNoLock i f → ElseFails scope d r i f → f.kind ≡ E03 → Finishes (SomeElse r) i f
    else_fin g (statement_fails.behind n h) e =
        let dn = next_free refl n in
        fin_shift dn (fin_by (block_fin (below dn.taken dn.parts g) h e)
        (λ j o u y. (u, (y.0, grammar.some_else (dn.again j) y.1))))

    block_fin : {d r : ℕ} {i : Input} {f : SyntaxFault} → AsksNoLock i f → BlockFails scope d r i f → f.kind ≡ E03 →
        Finishes (SomeBlock r) i f
    block_fin g (statement_fails.no_brace h) e =
        fin_more (a_token k.CloseBrace ∷ []) (next_fin h e) (λ j o u y. ([], (1, grammar.block {d = 0} y grammar.empty (words.next refl))))
    block_fin g (statement_fails.too_deep n) e = elim (not_six e) [ ]
    block_fin g (statement_fails.body n h) e =
        let dn = next_free refl n in
        fin_shift dn (fin_more (a_token k.CloseBrace ∷ []) (statements_fin (below dn.taken dn.parts g) h e) (λ j o u y.
        (u, (suc y.0, grammar.block (dn.again j) y.1 (words.next refl)))))

    statements_fin : {d r : ℕ} {i : Input} {f : SyntaxFault} → AsksNoLock i f → StatementsFails scope d r i f → f.kind ≡ E03 →
        Finishes (SomeStatements r) i f
    statements_fin g (statement_fails.here n h) e =
        fin_by (statement_fin g h e) (λ j o u y. (u ∷ [], (y.0, grammar.go_on y.1 grammar.empty)))
    statements_fin {d = d} g (statement_fails.later p v h) e =
        let dp = statement_free p in
        fin_shift dp (fin_by (statements_fin (below dp.taken dp.parts g) h e) (λ j o u y. (
          _,
          (
            d + y.0,
            grammar.go_on (statement_deeper (d + y.0) (omega arith) (dp.again j).0)
                (statements_deeper (d + y.0) (omega arith) y.1),
          ),
        )))

  -- ---- heads and callbacks

  head_fin : {found : List Callback} {i : Input} {f : SyntaxFault} → HeadFails scope.text found i f → f.kind ≡ E03 →
      Finishes (HeadAt scope.text) i f
  head_fin (file.no_head {i = i} b r) e =
      fin_at i (a_token k.Canceled ∷ []) (refused_at r e) (λ o. (_, grammar.canceled (words.next refl)))
  head_fin (file.event_twice p t) e = elim (not_five e) [ ]
  head_fin (file.callback_too_many m b t) e = elim (not_six e) [ ]
  head_fin (file.pre few n h) e =
      let dn = next_free refl n in fin_shift dn (fin_by (meant_fin k.Read operating.Read refl h e)
      (λ j o u y. (_, grammar.pre (dn.again j) y)))
  head_fin (file.post few n h) e =
      let dn = next_free refl n in fin_shift dn (fin_by (meant_fin k.Read operating.Read refl h e)
      (λ j o u y. (_, grammar.post (dn.again j) y)))
  head_fin (file.deferred_pre few n h) e =
      let dn = next_free refl n in fin_shift dn (fin_by (new_name_fin h e) (λ j o u y. (_, grammar.deferred_pre (dn.again j) y)))
  head_fin (file.deferred_post few n h) e =
      let dn = next_free refl n in fin_shift dn (fin_by (new_name_fin h e) (λ j o u y. (_, grammar.deferred_post (dn.again j) y)))
  head_fin (file.generic few n h) e =
      let dn = next_free refl n in fin_shift dn (fin_by (new_name_fin h e) (λ j o u y. (_, grammar.generic (dn.again j) y)))

  abbrev pub SomeCallback : Input → Unit {0} → Input → Type 0
  SomeCallback j u o = AnyCallbackAt scope j o

  abbrev pub SomeCallbacks : Input → Unit {0} → Input → Type 0
  SomeCallbacks j u o = AnyCallbacksAt scope j o

  callback_fin : {found : List Callback} {i : Input} {f : SyntaxFault} → AsksNoLock i f → CallbackFails scope found i f → f.kind ≡ E03 →
      Finishes SomeCallback i f
  callback_fin g (file.head h) e =
      fin_more braces (head_fin h e) (λ j o u y. (tt, prefix.callback {d = 0} y (words.next refl) grammar.empty (words.next refl)))
  callback_fin g (file.too_great p fresh few big) e = elim (not_six e) [ ]
  callback_fin g (file.brace p fresh few h) e =
      let dp = head_free p in
      fin_shift dp (fin_more (a_token k.CloseBrace ∷ []) (next_fin h e) (λ j o u y.
      (tt, prefix.callback {d = 0} (dp.again j) y grammar.empty (words.next refl))))
  callback_fin g (file.body p fresh few n h) e =
      let dp = head_free p in let dn = next_free refl n in
      fin_shift dp (fin_shift dn (fin_more (a_token k.CloseBrace ∷ []) (statements_fin
      (below dn.taken dn.parts (below dp.taken dp.parts g)) h e) (λ j o u y.
      (tt, prefix.callback (dp.again (dn.taken ++ j)) (dn.again j) y.1 (words.next refl)))))

  any : {i o : Input} {c : Callback} → CallbackAt scope i c o → AnyCallbackAt scope i o
  any (grammar.callback p n q m) = prefix.callback p n q m

  -- callbacks
  pub callbacks_fin : {found : List Callback} {i : Input} {f : SyntaxFault} → AsksNoLock i f → CallbacksFails scope found i f →
      f.kind ≡ E03 → Finishes SomeCallbacks i f
  callbacks_fin g (file.here h) e = fin_by (callback_fin g h e) (λ j o u y. (tt, prefix.last y))
  callbacks_fin g (file.later_callback p fresh few small n h) e =
      let dp = callback_free p in
      fin_shift dp (fin_by (callbacks_fin (below dp.taken dp.parts g) h e)
      (λ j o u y. (tt, prefix.more (any (dp.again j)) y)))

-- the law of callbacks
pub callbacks_begin : CallbacksBegin
callbacks_begin scope found i f h e g =
    let v = callbacks_fin scope g h e in
    record {
      before = v.before;
      rest = v.rest;
      parts = v.parts;
      place = v.place;
      finish = v.finish;
      spells = λ o. (v.spells o).1;
    }
