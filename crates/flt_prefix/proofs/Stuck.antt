-- What fails fails so whatever stands behind the token at fault: words, calls, statements and blocks.
use Rattle.std.proofs.Common.{◌≡◌, ℕ, Bool, false, true, List, [], ◌∷◌, ◌++◌, refl, sym, ap, subst, ◌∙◌, append_assoc}
use Rattle.std.specs.Prelude.{Option, Some, None}
use Rattle.flt_rules.specs.declared.call.LockKind.{LockKind}
use Rattle.flt_syntax.specs.declared.fault.FaultKind.TheVariants.{E01, E02, E03, E04, E05, E06, E08}
use Rattle.flt_syntax.specs.declared.fault.SyntaxFault.{SyntaxFault}
use Rattle.flt_syntax.specs.declared.shape.Operands.{Operands}
use Rattle.flt_syntax.specs.declared.shape.Slot.{Slot}
use Rattle.flt_syntax.specs.declared.shape.Tail.{Tail}
use Rattle.flt_syntax.specs.declared.token.Kind.{Kind}
use Rattle.flt_syntax.specs.declared.token.Kind.TheVariants as k
use Rattle.flt_syntax.specs.declared.token.Token.{Token}
use Rattle.flt_tree.specs.declared.variable.ContextVariable.{ContextVariable}
use Rattle.flt_syntax.specs.Words as words
use Rattle.flt_syntax.specs.Words.{Meant}
use Rattle.flt_syntax.specs.Lex.{is_fault}
use Rattle.flt_syntax.specs.Scope.{Scope}
use Rattle.flt_syntax.specs.FirstWords.{begins_status}
use Rattle.flt_syntax.specs.Tables.{number_variable_of, fallible_shape_of}
use Rattle.flt_syntax.specs.Cursor.{Input, front, kind, is_word, fault, fault_at}
use Rattle.flt_syntax.specs.FirstWords.{begins_fallible, begins_plain, begins_test, begins_other}
use Rattle.flt_syntax.specs.WordFails as word_fails
use Rattle.flt_syntax.specs.WordFails.{Refused, Unknown, NextFails, MeantFails, KnownFails, NameFails}
use Rattle.flt_syntax.specs.WordFails.{NumberFails, OtherFails, OptionalFails, OtherOldFails}
use Rattle.flt_syntax.specs.CallFails as call_fails
use Rattle.flt_syntax.specs.CallFails.{StatusFails, OptionalStatusFails, LockFails, SlotFails, SlotsFail, TailFails, FallibleFails, PlainFails}
use Rattle.flt_syntax.specs.ActionFails as bad
use Rattle.flt_syntax.specs.ActionFails.{AtomFails, LeadingFails, ExpressionFails, ActionFails, ConditionFails}
use Rattle.flt_syntax.specs.StatementFails as statement_fails
use Rattle.flt_syntax.specs.StatementFails.{StatementFails, ElseFails, BlockFails, StatementsFails}
use Rattle.flt_syntax.specs.Cursor.{bytes_of, next}
use Rattle.flt_tree.specs.Declarations.{lock_number}
use Rattle.flt_prefix.specs.Prefix.{is_of_token}
use Rattle.flt_prefix.proofs.Detached.{passable, AllPassed, passed_both, Detached, other_kind, next_free, meant_free, number_free}
use Rattle.flt_prefix.proofs.Detached.{atom_free, condition_free, statement_free, block_free, slot_free, slots_free}

differ : false ≡ true → ⊥
differ e = cc

none_some : {A : Type 0} (a : A) → None ≡ Some a → ⊥
none_some a e = cc

-- where the tokens up to the fault are the same, it fails the same
pub record Stuck (F : Input → SyntaxFault → Type 0) (i : Input) (f : SyntaxFault) : Type 0 where
  pub before : Input
  pub rest : Input
  pub parts : i ≡ before ++ rest
  pub passed : AllPassed before
  pub place : f ≡ fault_at f.kind rest
  pub again : (z : Input) → front z ≡ front rest → F (before ++ z) f

-- what is stuck behind something
pub stuck_shift : {A : Type 0} {P : Input → A → Input → Type 0} {F : Input → SyntaxFault → Type 0} {i a : Input} {x : A} {f : SyntaxFault}
    (d : Detached P i x a) → Stuck (λ j f. F (d.taken ++ j) f) a f → Stuck F i f
stuck_shift {F = F} {f = f} d v = record {
  before = d.taken ++ v.before;
  rest = v.rest;
  parts = d.parts ∙ (ap (λ z. d.taken ++ z) v.parts ∙ sym (append_assoc d.taken v.before v.rest));
  passed = passed_both d.taken v.before d.passed v.passed;
  place = v.place;
  again = λ z same. subst (λ j. F j f) (sym (append_assoc d.taken v.before z)) (v.again z same);
}

-- where what follows has the same front, so has the whole
pub same_front : (before rest z : Input) → front z ≡ front rest → front (before ++ z) ≡ front (before ++ rest)
same_front [] rest z same = same
same_front (t ∷ before) rest z same = refl

-- what is stuck with it
pub stuck_by : {E F : Input → SyntaxFault → Type 0} {a : Input} {f : SyntaxFault} → Stuck E a f →
    ((z : Input) → front z ≡ front a → E z f → F z f) → Stuck F a f
stuck_by v h = record {
  before = v.before;
  rest = v.rest;
  parts = v.parts;
  passed = v.passed;
  place = v.place;
  again = λ z same. h (v.before ++ z) (same_front v.before v.rest z same ∙ sym (ap front v.parts)) (v.again z same);
}

-- what is stuck at the next token
pub stuck_at : {F : Input → SyntaxFault → Type 0} {f : SyntaxFault} (i : Input) → f ≡ fault_at f.kind i →
    ((z : Input) → front z ≡ front i → F z f) → Stuck F i f
stuck_at i e again = record { before = []; rest = i; parts = refl; passed = tt; place = e; again = again }

-- an E05 is no fault of a token
pub not_five : is_of_token E05 ≡ true → ⊥
not_five e = cc

-- an E06 is no fault of a token
pub not_six : is_of_token E06 ≡ true → ⊥
not_six e = cc

not_eight : is_of_token E08 ≡ true → ⊥
not_eight e = cc

-- where a token that can't stand there is at fault
pub refused_at : {i : Input} {f : SyntaxFault} → Refused i f → f ≡ fault_at f.kind i
refused_at (word_fails.stray e) = refl
refused_at (word_fails.malformed e) = refl
refused_at (word_fails.other e) = refl

unknown_at : {i : Input} {f : SyntaxFault} → Unknown i f → f ≡ fault_at f.kind i
unknown_at (word_fails.unknown e) = refl
unknown_at (word_fails.no_word e r) = refused_at r

-- it can't stand there whatever is behind it
pub refused_again : {i : Input} {f : SyntaxFault} → Refused i f → (z : Input) → front z ≡ front i → Refused z f
refused_again (word_fails.stray {i = i} e) z same =
    subst (Refused z) (ap (λ (t : Token). fault E01 t.position) same) (word_fails.stray (ap (λ (t : Token). t.word.kind) same ∙ e))
refused_again (word_fails.malformed {i = i} e) z same =
    subst (Refused z) (ap (λ (t : Token). fault E02 t.position) same) (word_fails.malformed (ap (λ (t : Token). t.word.kind) same ∙ e))
refused_again (word_fails.other {i = i} e) z same =
    subst (Refused z) (ap (λ (t : Token). fault E03 t.position) same) (word_fails.other (ap (λ (t : Token). is_fault t.word.kind) same ∙ e))

unknown_again : {i : Input} {f : SyntaxFault} → Unknown i f → (z : Input) → front z ≡ front i → Unknown z f
unknown_again (word_fails.unknown {i = i} e) z same =
    subst (Unknown z) (ap (λ (t : Token). fault E04 t.position) same) (word_fails.unknown (ap
    (λ (t : Token). is_word t.word.kind) same ∙ e))
unknown_again (word_fails.no_word {i = i} e r) z same =
    word_fails.no_word (ap (λ (t : Token). is_word t.word.kind) same ∙ e) (refused_again r z same)

-- a fact about the kind of the next token
pub next_is : (h : Kind → Bool) (i z : Input) → h (kind i) ≡ false → front z ≡ front i → h (kind z) ≡ false
next_is h i z e same = ap (λ (t : Token). h t.word.kind) same ∙ e

-- a token of a kind
pub next_stuck : {kd : Kind} {i : Input} {f : SyntaxFault} → NextFails kd i f → is_of_token f.kind ≡ true → Stuck (NextFails kd) i f
next_stuck {kd = kd} (word_fails.missing {i = i} n r) h =
    stuck_at i (refused_at r) (λ z same. word_fails.missing (other_kind kd i z n same) (refused_again r z same))

-- a word of a table
pub meant_stuck : {A : Type 0} {table : Kind → Option A} {i : Input} {f : SyntaxFault} → MeantFails table i f → is_of_token f.kind ≡ true →
    Stuck (MeantFails table) i f
meant_stuck {table = table} (word_fails.unmeant {i = i} e r) h =
    stuck_at i (refused_at r) (λ z same. word_fails.unmeant (ap (λ (t : Token). table t.word.kind) same ∙ e) (refused_again r z same))

known_stuck : {A : Type 0} {table : Kind → Option A} {i : Input} {f : SyntaxFault} → KnownFails table i f → is_of_token f.kind ≡ true →
    Stuck (KnownFails table) i f
known_stuck {table = table} (word_fails.unnamed {i = i} e r) h =
    stuck_at i (unknown_at r) (λ z same. word_fails.unnamed (ap (λ (t : Token). table t.word.kind) same ∙ e) (unknown_again r z same))

-- NAME
pub name_stuck : {i : Input} {f : SyntaxFault} → NameFails i f → is_of_token f.kind ≡ true → Stuck NameFails i f
name_stuck (word_fails.no_name {i = i} e r) h =
    stuck_at i (refused_at r) (λ z same. word_fails.no_name (next_is is_word i z e same) (refused_again r z same))

-- NUMBER between two bounds
pub number_stuck : {low high : ℕ} {i : Input} {f : SyntaxFault} → NumberFails low high i f → is_of_token f.kind ≡ true →
    Stuck (NumberFails low high) i f
number_stuck (word_fails.no_number {i = i} n r) h =
    stuck_at i (refused_at r) (λ z same. word_fails.no_number (other_kind k.Number i z n same) (refused_again r z same))
number_stuck (word_fails.too_low p l) h = elim (not_six h) [ ]
number_stuck (word_fails.too_high p l) h = elim (not_six h) [ ]

other_stuck : {first : ContextVariable} {i : Input} {f : SyntaxFault} → OtherFails first i f → is_of_token f.kind ≡ true →
    Stuck (OtherFails first) i f
other_stuck (word_fails.no_context c) h = stuck_by (known_stuck c h) (λ z same q. word_fails.no_context q)
other_stuck (word_fails.twice p) h = elim (not_eight h) [ ]

no_end : (kd : Kind) (t : Token) → is_word kd ≡ true → front [] ≡ t → t.word.kind ≡ kd → ⊥
no_end kd t w same e = differ (ap (λ (t : Token). is_word t.word.kind) same ∙ ap is_word e ∙ w)

-- a word of a table that stands at the front stands there as the next token
meant_again : {A : Type 0} (table : Kind → Option A) (x : A) (t : Token) (z : Input) → table k.End ≡ None → table t.word.kind ≡ Some x →
    front z ≡ t → Meant table z x (next z)
meant_again table x t [] h e same = elim (none_some x (sym h ∙ (ap (λ (t : Token). table t.word.kind) same ∙ e))) [ ]
meant_again table x t (u ∷ z) h e same = words.meant (ap (λ (t : Token). table t.word.kind) same ∙ e)

unknown_lock_again : (scope : Scope) (lk : LockKind) (t : Token) (z : Input) → is_word t.word.kind ≡ true →
    lock_number lk (bytes_of scope.text t) scope.locks ≡ None → front z ≡ t → LockFails scope lk z (fault E04 t.position)
unknown_lock_again scope lk t [] w e same = elim (no_end t.word.kind t w same refl) [ ]
unknown_lock_again scope lk t (u ∷ z) w e same =
    subst (λ (x : Token). LockFails scope lk (u ∷ z) (fault E04 x.position)) same
    (call_fails.unknown_lock (words.name (ap (λ (x : Token). is_word x.word.kind) same ∙ w))
    (ap (λ (x : Token). lock_number lk (bytes_of scope.text x) scope.locks) same ∙ e))

lock_stuck : {scope : Scope} {lk : LockKind} {i : Input} {f : SyntaxFault} → LockFails scope lk i f → is_of_token f.kind ≡ true →
    Stuck (LockFails scope lk) i f
lock_stuck (call_fails.no_name n) h = stuck_by (name_stuck n h) (λ z same q. call_fails.no_name q)
lock_stuck {scope = scope} {lk = lk} (call_fails.unknown_lock (words.name {t = t} {o = o} w) e) h =
    stuck_at (t ∷ o) refl (λ z same. unknown_lock_again scope lk t z w e same)

optional_stuck : {kd : Kind} {i : Input} {f : SyntaxFault} → passable kd ≡ true → OptionalFails kd i f → is_of_token f.kind ≡ true →
    Stuck (OptionalFails kd) i f
optional_stuck g (word_fails.behind n h) e =
    let dn = next_free g n in stuck_shift dn (stuck_by (known_stuck h e) (λ z same y. word_fails.behind (dn.again z) y))

other_old_stuck : {first : ContextVariable} {i : Input} {f : SyntaxFault} → OtherOldFails first i f → is_of_token f.kind ≡ true →
    Stuck (OtherOldFails first) i f
other_old_stuck (word_fails.behind_old n h) e =
    let dn = next_free refl n in stuck_shift dn (stuck_by (other_stuck h e) (λ z same y. word_fails.behind_old (dn.again z) y))

status_stuck : {i : Input} {f : SyntaxFault} → StatusFails i f → is_of_token f.kind ≡ true → Stuck (StatusFails) i f
status_stuck (call_fails.no_status {i = i} b r) e =
    stuck_at i (refused_at r) (λ z same. call_fails.no_status (next_is begins_status i z b same) (refused_again r z same))
status_stuck (call_fails.with_callback n h) e =
    let dn = next_free refl n in stuck_shift dn (stuck_by (optional_stuck refl h e)
    (λ z same y. call_fails.with_callback (dn.again z) y))
status_stuck (call_fails.synchronize n h) e =
    let dn = next_free refl n in stuck_shift dn (stuck_by (optional_stuck refl h e)
    (λ z same y. call_fails.synchronize (dn.again z) y))
status_stuck (call_fails.complete n h) e =
    let dn = next_free refl n in stuck_shift dn (stuck_by (meant_stuck h e) (λ z same y. call_fails.complete (dn.again z) y))

optional_status_stuck : {i : Input} {f : SyntaxFault} → OptionalStatusFails i f → is_of_token f.kind ≡ true →
    Stuck (OptionalStatusFails) i f
optional_status_stuck (call_fails.some b s) e =
    stuck_by (status_stuck s e) (λ z same q. call_fails.some (ap (λ (t : Token). begins_status t.word.kind) same ∙ b) q)

slot_stuck : {scope : Scope} {s : Slot} {x : Operands} {i : Input} {f : SyntaxFault} → SlotFails scope s x i f → is_of_token f.kind ≡ true →
    Stuck (SlotFails scope s x) i f
slot_stuck (call_fails.data_word h) e = stuck_by (next_stuck h e) (λ z same y. call_fails.data_word y)
slot_stuck (call_fails.as_word h) e = stuck_by (next_stuck h e) (λ z same y. call_fails.as_word y)
slot_stuck (call_fails.context_word h) e = stuck_by (next_stuck h e) (λ z same y. call_fails.context_word y)
slot_stuck (call_fails.operation h) e = stuck_by (known_stuck h e) (λ z same y. call_fails.operation y)
slot_stuck (call_fails.removed h) e = stuck_by (known_stuck h e) (λ z same y. call_fails.removed y)
slot_stuck (call_fails.existing h) e = stuck_by (meant_stuck h e) (λ z same y. call_fails.existing y)
slot_stuck (call_fails.context h) e = stuck_by (known_stuck h e) (λ z same y. call_fails.context y)
slot_stuck (call_fails.other h) e = stuck_by (other_stuck h e) (λ z same y. call_fails.other y)
slot_stuck (call_fails.routine_name h) e = stuck_by (name_stuck h e) (λ z same y. call_fails.routine_name y)
slot_stuck (call_fails.lock_name h) e = stuck_by (lock_stuck h e) (λ z same y. call_fails.lock_name y)

slots_stuck : {scope : Scope} {ss : List Slot} {x : Operands} {i : Input} {f : SyntaxFault} → SlotsFail scope ss x i f →
    is_of_token f.kind ≡ true → Stuck (SlotsFail scope ss x) i f
slots_stuck (call_fails.here h) e = stuck_by (slot_stuck h e) (λ z same y. call_fails.here y)
slots_stuck (call_fails.later p h) e =
    let dp = slot_free p in stuck_shift dp (stuck_by (slots_stuck h e) (λ z same y. call_fails.later (dp.again z) y))

tail_stuck : {t : Tail} {x : Operands} {i : Input} {f : SyntaxFault} → TailFails t x i f → is_of_token f.kind ≡ true →
    Stuck (TailFails t x) i f
tail_stuck (call_fails.with_context h) e = stuck_by (optional_stuck refl h e) (λ z same y. call_fails.with_context y)
tail_stuck (call_fails.old h) e = stuck_by (optional_stuck refl h e) (λ z same y. call_fails.old y)
tail_stuck (call_fails.other_old h) e = stuck_by (other_old_stuck h e) (λ z same y. call_fails.other_old y)
tail_stuck (call_fails.status h) e = stuck_by (status_stuck h e) (λ z same y. call_fails.status y)

fallible_stuck : {scope : Scope} {i : Input} {f : SyntaxFault} → FallibleFails scope i f → is_of_token f.kind ≡ true →
    Stuck (FallibleFails scope) i f
fallible_stuck (call_fails.no_fallible {i = i} b r) e =
    stuck_at i (refused_at r) (λ z same. call_fails.no_fallible (next_is begins_fallible i z b same) (refused_again r z same))
fallible_stuck {scope = scope} (call_fails.unknown_call {s = s} (words.meant {t = t} {o = o} m) q) e =
    stuck_at (t ∷ o) refl (λ z same. subst (FallibleFails scope z) (ap (λ (t : Token). fault E04 t.position) same)
    (call_fails.unknown_call (meant_again fallible_shape_of s t z refl m same) q))
fallible_stuck (call_fails.fallible_slot n q h) e =
    let dn = meant_free (refl, refl, refl) n in
    stuck_shift dn (stuck_by (slots_stuck h e) (λ z same y. call_fails.fallible_slot (dn.again z) q y))
fallible_stuck (call_fails.fallible_end n q p h) e =
    let dn = meant_free (refl, refl, refl) n in let dp = slots_free p in stuck_shift dn (stuck_shift dp (stuck_by
    (tail_stuck h e) (λ z same y. call_fails.fallible_end (dn.again (dp.taken ++ z)) q (dp.again z) y)))

plain_stuck : {scope : Scope} {i : Input} {f : SyntaxFault} → PlainFails scope i f → is_of_token f.kind ≡ true →
    Stuck (PlainFails scope) i f
plain_stuck (call_fails.no_plain {i = i} b r) e =
    stuck_at i (refused_at r) (λ z same. call_fails.no_plain (next_is begins_plain i z b same) (refused_again r z same))
plain_stuck (call_fails.plain_slot n h) e =
    let dn = meant_free (refl, refl, refl) n in
    stuck_shift dn (stuck_by (slots_stuck h e) (λ z same y. call_fails.plain_slot (dn.again z) y))
plain_stuck (call_fails.plain_end n p h) e =
    let dn = meant_free (refl, refl, refl) n in let dp = slots_free p in stuck_shift dn (stuck_shift dp (stuck_by
    (tail_stuck h e) (λ z same y. call_fails.plain_end (dn.again (dp.taken ++ z)) (dp.again z) y)))

atom_stuck : {i : Input} {f : SyntaxFault} → AtomFails i f → is_of_token f.kind ≡ true → Stuck AtomFails i f
atom_stuck (bad.no_atom {i = i} b n u) e = stuck_at i (unknown_at u) (λ z same.
    bad.no_atom (ap (λ (t : Token). number_variable_of t.word.kind) same ∙ b) (other_kind k.Number i z n same) (unknown_again u z same))

leading_stuck : {i : Input} {f : SyntaxFault} → LeadingFails i f → is_of_token f.kind ≡ true → Stuck LeadingFails i f
leading_stuck (bad.no_leading {i = i} b n u) e = stuck_at i (refused_at u) (λ z same.
    bad.no_leading (ap (λ (t : Token). number_variable_of t.word.kind) same ∙ b) (other_kind k.Number i z n same) (refused_again u z same))

expression_stuck : {i : Input} {f : SyntaxFault} → ExpressionFails i f → is_of_token f.kind ≡ true → Stuck (ExpressionFails) i f
expression_stuck (bad.first l) e = stuck_by (leading_stuck l e) (λ z same q. bad.first q)
expression_stuck (bad.sum p n h) e =
    let dp = atom_free p in let dn = next_free refl n in stuck_shift dp (stuck_shift dn (stuck_by (atom_stuck h e)
    (λ z same y. bad.sum (dp.again (dn.taken ++ z)) (dn.again z) y)))
expression_stuck (bad.difference p n h) e =
    let dp = atom_free p in let dn = next_free refl n in stuck_shift dp (stuck_shift dn (stuck_by (atom_stuck h e)
    (λ z same y. bad.difference (dp.again (dn.taken ++ z)) (dn.again z) y)))

action_stuck : {i : Input} {f : SyntaxFault} → ActionFails i f → is_of_token f.kind ≡ true → Stuck (ActionFails) i f
action_stuck (bad.number_expression {b = b} p m v w h) e =
    let dp = meant_free (refl, refl, refl) p in let dm = next_free refl m in
    stuck_shift dp (stuck_shift dm (stuck_by (expression_stuck h e) (λ z same y.
    bad.number_expression (dp.again (dm.taken ++ z)) (dm.again z) (other_kind k.Value b z v same) (other_kind k.File b z w same) y)))
action_stuck (bad.number_assign p h) e =
    let dp = meant_free (refl, refl, refl) p in stuck_shift dp (stuck_by (next_stuck h e) (λ z same y. bad.number_assign (dp.again z) y))
action_stuck (bad.number_value p m w h) e =
    let dp = meant_free (refl, refl, refl) p in let dm = next_free refl m in let dw = next_free refl w in
    stuck_shift dp (stuck_shift dm (stuck_shift dw (stuck_by (known_stuck h e)
    (λ z same y. bad.number_value (dp.again (dm.taken ++ (dw.taken ++ z))) (dm.again (dw.taken ++ z)) (dw.again z) y))))
action_stuck (bad.number_file p m w h) e =
    let dp = meant_free (refl, refl, refl) p in let dm = next_free refl m in let dw = next_free refl w in
    stuck_shift dp (stuck_shift dm (stuck_shift dw (stuck_by (known_stuck h e)
    (λ z same y. bad.number_file (dp.again (dm.taken ++ (dw.taken ++ z))) (dm.again (dw.taken ++ z)) (dw.again z) y))))
action_stuck (bad.value_context n h) e =
    let dn = next_free refl n in stuck_shift dn (stuck_by (known_stuck h e) (λ z same y. bad.value_context (dn.again z) y))
action_stuck (bad.value_assign n p h) e =
    let dn = next_free refl n in let dp = meant_free (refl, refl, refl) p in stuck_shift dn (stuck_shift dp (stuck_by
    (next_stuck h e) (λ z same y. bad.value_assign (dn.again (dp.taken ++ z)) (dp.again z) y)))
action_stuck (bad.value_atom n p m h) e =
    let dn = next_free refl n in let dp = meant_free (refl, refl, refl) p in let dm = next_free refl m in
    stuck_shift dn (stuck_shift dp (stuck_shift dm (stuck_by (atom_stuck h e)
    (λ z same y. bad.value_atom (dn.again (dp.taken ++ (dm.taken ++ z))) (dp.again (dm.taken ++ z)) (dm.again z) y))))
action_stuck (bad.context_assign p h) e =
    let dp = meant_free (refl, refl, refl) p in stuck_shift dp (stuck_by (next_stuck h e) (λ z same y. bad.context_assign (dp.again z) y))
action_stuck (bad.context_null p m h) e =
    let dp = meant_free (refl, refl, refl) p in let dm = next_free refl m in stuck_shift dp (stuck_shift dm (stuck_by
    (next_stuck h e) (λ z same y. bad.context_null (dp.again (dm.taken ++ z)) (dm.again z) y)))
action_stuck (bad.operation_assign p h) e =
    let dp = meant_free (refl, refl, refl) p in stuck_shift dp (stuck_by (next_stuck h e) (λ z same y. bad.operation_assign (dp.again z) y))
action_stuck (bad.operation_null p m h) e =
    let dp = meant_free (refl, refl, refl) p in let dm = next_free refl m in stuck_shift dp (stuck_shift dm (stuck_by
    (next_stuck h e) (λ z same y. bad.operation_null (dp.again (dm.taken ++ z)) (dm.again z) y)))

condition_stuck : {scope : Scope} {i : Input} {f : SyntaxFault} → ConditionFails scope i f → is_of_token f.kind ≡ true →
    Stuck (ConditionFails scope) i f
condition_stuck (bad.comparison {a = a} p q l r) e =
    let dp = meant_free (refl, refl, refl) p in
    stuck_shift dp (stuck_at a (refused_at r) (λ z same.
    bad.comparison (dp.again z) (other_kind k.Equal a z q same) (other_kind k.Less a z l same) (refused_again r z same)))
condition_stuck (bad.call {i = i} b h) e = stuck_by (fallible_stuck h e) (λ z same q. bad.call (next_is begins_test i z b same) q)
condition_stuck (bad.context_unlike p h) e =
    let dp = meant_free (refl, refl, refl) p in stuck_shift dp (stuck_by (next_stuck h e) (λ z same y. bad.context_unlike (dp.again z) y))
condition_stuck (bad.context_unlike_null p m h) e =
    let dp = meant_free (refl, refl, refl) p in let dm = next_free refl m in stuck_shift dp (stuck_shift dm (stuck_by
    (next_stuck h e) (λ z same y. bad.context_unlike_null (dp.again (dm.taken ++ z)) (dm.again z) y)))
condition_stuck (bad.operation_unlike p h) e =
    let dp = meant_free (refl, refl, refl) p in stuck_shift dp (stuck_by (next_stuck h e) (λ z same y. bad.operation_unlike (dp.again z) y))
condition_stuck (bad.operation_unlike_null p m h) e =
    let dp = meant_free (refl, refl, refl) p in let dm = next_free refl m in stuck_shift dp (stuck_shift dm (stuck_by
    (next_stuck h e) (λ z same y. bad.operation_unlike_null (dp.again (dm.taken ++ z)) (dm.again z) y)))
condition_stuck (bad.equal_atom p m h) e =
    let dp = meant_free (refl, refl, refl) p in let dm = next_free refl m in stuck_shift dp (stuck_shift dm (stuck_by
    (atom_stuck h e) (λ z same y. bad.equal_atom (dp.again (dm.taken ++ z)) (dm.again z) y)))
condition_stuck (bad.less_atom p m h) e =
    let dp = meant_free (refl, refl, refl) p in let dm = next_free refl m in stuck_shift dp (stuck_shift dm (stuck_by
    (atom_stuck h e) (λ z same y. bad.less_atom (dp.again (dm.taken ++ z)) (dm.again z) y)))
condition_stuck (bad.irp_data n h) e =
    let dn = next_free refl n in stuck_shift dn (stuck_by (next_stuck h e) (λ z same y. bad.irp_data (dn.again z) y))

mutual
  statement_stuck : {scope : Scope} {d r : ℕ} {i : Input} {f : SyntaxFault} → StatementFails scope d r i f → is_of_token f.kind ≡ true →
      Stuck (StatementFails scope d r) i f
  statement_stuck (statement_fails.act h) e = stuck_by (action_stuck h e) (λ z same q. statement_fails.act q)
  statement_stuck (statement_fails.call {i = i} b h) e =
      stuck_by (plain_stuck h e) (λ z same q. statement_fails.call (next_is begins_other i z b same) q)
  statement_stuck (statement_fails.return n h) e =
      let dn = next_free refl n in stuck_shift dn (stuck_by (optional_status_stuck h e)
      (λ z same y. statement_fails.return (dn.again z) y))
  statement_stuck (statement_fails.choice_test n h) e =
      let dn = next_free refl n in stuck_shift dn (stuck_by (condition_stuck h e)
      (λ z same y. statement_fails.choice_test (dn.again z) y))
  statement_stuck (statement_fails.choice_granted n p v h) e =
      let dn = next_free refl n in let dp = condition_free p in
      stuck_shift dn (stuck_shift dp (stuck_by (block_stuck h e) (λ z same y.
      statement_fails.choice_granted (dn.again (dp.taken ++ z)) (dp.again z).0 ((dp.again z).1 v same) y)))
  statement_stuck (statement_fails.choice_refused n p q h) e =
      let dn = next_free refl n in let dp = condition_free p in let dq = block_free q in
      stuck_shift dn (stuck_shift dp (stuck_shift dq (stuck_by (else_stuck h e)
      (λ z same y. statement_fails.choice_refused (dn.again (dp.taken ++ (dq.taken ++ z))) (dp.again (dq.taken ++ z)).0 (dq.again z) y))))
  statement_stuck (statement_fails.repeat_nested n) e = elim (not_six e) [ ]
  statement_stuck (statement_fails.repeat_number n h) e =
      let dn = next_free refl n in stuck_shift dn (stuck_by (number_stuck h e)
      (λ z same y. statement_fails.repeat_number (dn.again z) y))
  statement_stuck (statement_fails.repeat_body n p l h) e =
      let dn = next_free refl n in let dp = number_free p in
      stuck_shift dn (stuck_shift dp (stuck_by (block_stuck h e) (λ z same y.
      statement_fails.repeat_body (dn.again (dp.taken ++ z)) (dp.again z) l y)))

  else_stuck : {scope : Scope} {d r : ℕ} {i : Input} {f : SyntaxFault} → ElseFails scope d r i f → is_of_token f.kind ≡ true →
      Stuck (ElseFails scope d r) i f
  else_stuck (statement_fails.behind n h) e =
      let dn = next_free refl n in stuck_shift dn (stuck_by (block_stuck h e) (λ z same y. statement_fails.behind (dn.again z) y))

  block_stuck : {scope : Scope} {d r : ℕ} {i : Input} {f : SyntaxFault} → BlockFails scope d r i f → is_of_token f.kind ≡ true →
      Stuck (BlockFails scope d r) i f
  block_stuck (statement_fails.no_brace h) e = stuck_by (next_stuck h e) (λ z same q. statement_fails.no_brace q)
  block_stuck (statement_fails.too_deep n) e = elim (not_six e) [ ]
  block_stuck (statement_fails.body n h) e =
      let dn = next_free refl n in stuck_shift dn (stuck_by (statements_stuck h e)
      (λ z same y. statement_fails.body (dn.again z) y))

  -- { stmt } "}"
  pub statements_stuck : {scope : Scope} {d r : ℕ} {i : Input} {f : SyntaxFault} → StatementsFails scope d r i f →
      is_of_token f.kind ≡ true →
      Stuck (StatementsFails scope d r) i f
  statements_stuck (statement_fails.here {i = i} n h) e =
      stuck_by (statement_stuck h e) (λ z same q. statement_fails.here (other_kind k.CloseBrace i z n same) q)
  statements_stuck (statement_fails.later p v h) e =
      let dp = statement_free p in
      stuck_shift dp (stuck_by (statements_stuck h e) (λ z same y. statement_fails.later (dp.again z).0
      ((dp.again z).1 v same) y))
