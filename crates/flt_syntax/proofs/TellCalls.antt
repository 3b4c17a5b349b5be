-- What fails by the relation beside the grammar, of that the reader says so: statuses and calls.
use Rattle.std.proofs.Common.{◌≡◌, false, List, Err, refl, sym, ap, ◌∙◌}
use Rattle.std.specs.Prelude.{None}
use Rattle.flt_rules.specs.declared.call.LockKind.{LockKind}
use Rattle.flt_syntax.specs.declared.fault.FaultKind.TheVariants.{E04}
use Rattle.flt_syntax.specs.declared.fault.SyntaxFault.{SyntaxFault}
use Rattle.flt_syntax.specs.declared.shape.FallibleShape.{FallibleShape}
use Rattle.flt_syntax.specs.declared.shape.Operands.{Operands}
use Rattle.flt_syntax.specs.declared.shape.Slot.{Slot}
use Rattle.flt_syntax.specs.declared.shape.Tail.{Tail}
use Rattle.flt_syntax.specs.declared.token.Kind.{Kind}
use Rattle.flt_syntax.specs.declared.token.Kind.TheVariants as k
use Rattle.flt_syntax.specs.Words as words
use Rattle.flt_syntax.specs.Operand.{removed_variable, removed_variable_of}
use Rattle.flt_syntax.specs.Operand.{operation_variable, operation_variable_of, with_context}
use Rattle.flt_syntax.specs.Scope.{Scope, lock_named, routine}
use Rattle.flt_syntax.specs.Status.{final_status_of, final_status, bare_status_of, bare_status, status_by, status, has_more}
use Rattle.flt_syntax.specs.Status.{optional_status}
use Rattle.flt_syntax.specs.Call.{existing_of, existing, fallible_by, fallible_call, plain_by, plain_call, slot, slots, tail, operands}
use Rattle.flt_syntax.specs.Cursor.{Input, kind, known_or, given, refusal, refuse, fault_at, name, next}
use Rattle.flt_syntax.specs.Shape.{unfilled, fallible_tail, is_known, plain_tail}
use Rattle.flt_syntax.specs.CallGrammar.{SlotsAt}
use Rattle.flt_syntax.proofs.TokenKinds.{differ}
use Rattle.flt_syntax.proofs.Complete.{then_again, rest_is, left_is, means, none_of, left_false, right_false}
use Rattle.flt_syntax.specs.WordFails.{MeantFails, KnownFails, NameFails}
use Rattle.flt_syntax.specs.CallFails as bad
use Rattle.flt_syntax.specs.CallFails.{StatusFails, OptionalStatusFails, LockFails, FallibleFails, PlainFails, SlotFails, SlotsFail}
use Rattle.flt_syntax.specs.CallFails.{TailFails}
use Rattle.flt_syntax.proofs.CompleteCalls.{status_at, fallible_at, plain_at, slot_again, slots_again}
use Rattle.flt_syntax.proofs.Tells.{then_fails, refuses, expect_tells, meant_tells, known_tells, context_tells, word_tells, spelled_tells}
use Rattle.flt_syntax.proofs.Tells.{other_tells, with_context_tells, old_tells, other_old_tells}

-- ---- variables

removed_tells : {i : Input} {f : SyntaxFault} → KnownFails removed_variable_of i f → removed_variable i ≡ Err f
unfolding removed_variable
removed_tells h = known_tells h

-- D: where it fails, that is reported
pub operation_tells : {i : Input} {f : SyntaxFault} → KnownFails operation_variable_of i f → operation_variable i ≡ Err f
unfolding operation_variable
operation_tells h = known_tells h

-- ---- statuses

final_tells : {i : Input} {f : SyntaxFault} → MeantFails final_status_of i f → final_status i ≡ Err f
unfolding final_status
final_tells h = meant_tells h

by_none : (i : Input) (a : Kind) → has_more a ≡ false → status_by a i ≡ bare_status i
by_none i k.WithCallback e = elim (differ (sym e)) [ ]
by_none i k.Synchronize e = elim (differ (sym e)) [ ]
by_none i k.Complete e = elim (differ (sym e)) [ ]
by_none i _ e = refl

none_bare : (i : Input) (f : SyntaxFault) → bare_status_of (kind i) ≡ None → refusal i ≡ f → bare_status i ≡ Err f
unfolding bare_status
none_bare i f e h = ap (λ m. known_or (refusal i) m i) e ∙ ap (λ x. Err x) h

status_tells : {i : Input} {f : SyntaxFault} → StatusFails i f → status i ≡ Err f
unfolding status
status_tells {f = f} (bad.no_status {i = i} e h) =
    by_none i (kind i) (left_false (has_more (kind i)) _ e) ∙ none_bare i f (none_of _ (right_false (has_more (kind i)) _ e)) (refuses h)
status_tells (bad.with_callback n h) = status_at n ∙ then_fails _ (ap with_context (rest_is n) ∙ with_context_tells h)
status_tells (bad.synchronize n h) = status_at n ∙ then_fails _ (ap with_context (rest_is n) ∙ with_context_tells h)
status_tells (bad.complete n h) = status_at n ∙ then_fails _ (ap final_status (rest_is n) ∙ final_tells h)

-- [ status ]: where it fails, that is reported
pub optional_status_tells : {i : Input} {f : SyntaxFault} → OptionalStatusFails i f → optional_status i ≡ Err f
unfolding optional_status
optional_status_tells (bad.some e h) = rw e (then_fails _ (status_tells h))

-- ---- names

routine_tells : (scope : Scope) {i : Input} {f : SyntaxFault} → NameFails i f → routine scope i ≡ Err f
unfolding routine
routine_tells scope h = then_fails _ (spelled_tells scope.text h)

lock_tells : {scope : Scope} {lk : LockKind} {i : Input} {f : SyntaxFault} → LockFails scope lk i f → lock_named scope lk i ≡ Err f
unfolding lock_named name
lock_tells (bad.no_name h) = then_fails _ (word_tells h)
lock_tells (bad.unknown_lock (words.name e) h) = rw e (rw h refl)

existing_tells : {i : Input} {f : SyntaxFault} → MeantFails existing_of i f → existing i ≡ Err f
unfolding existing
existing_tells h = meant_tells h

-- ---- slots

slot_tells : {scope : Scope} {s : Slot} {x : Operands} {i : Input} {f : SyntaxFault} → SlotFails scope s x i f → slot scope s x i ≡ Err f
slot_tells (bad.data_word h) = then_fails _ (expect_tells h)
slot_tells (bad.as_word h) = then_fails _ (expect_tells h)
slot_tells (bad.context_word h) = then_fails _ (expect_tells h)
slot_tells (bad.operation h) = then_fails _ (operation_tells h)
slot_tells (bad.removed h) = then_fails _ (removed_tells h)
slot_tells (bad.existing h) = then_fails _ (existing_tells h)
slot_tells (bad.context h) = then_fails _ (context_tells h)
slot_tells (bad.other h) = then_fails _ (other_tells h)
slot_tells {scope = scope} (bad.routine_name h) = then_fails _ (routine_tells scope h)
slot_tells (bad.lock_name h) = then_fails _ (lock_tells h)

slots_tells : {scope : Scope} {ss : List Slot} {x : Operands} {i : Input} {f : SyntaxFault} → SlotsFail scope ss x i f →
    slots scope ss x i ≡ Err f
slots_tells (bad.here h) = then_fails _ (slot_tells h)
slots_tells (bad.later p h) = then_again _ (slot_again p) (slots_tells h)

tail_tells : {t : Tail} {x : Operands} {i : Input} {f : SyntaxFault} → TailFails t x i f → tail t x i ≡ Err f
tail_tells (bad.with_context h) = then_fails _ (with_context_tells h)
tail_tells (bad.old h) = then_fails _ (old_tells h)
tail_tells (bad.other_old h) = then_fails _ (other_old_tells h)
tail_tells (bad.status h) = then_fails _ (status_tells h)

-- the operands of a call: where a slot fails, that is reported
in_slot : {scope : Scope} {ss : List Slot} {a : Input} {f : SyntaxFault} (t : Tail) (i : Input) → next i ≡ a →
    SlotsFail scope ss unfilled a f → operands scope ss t i ≡ Err f
unfolding operands
in_slot {scope = scope} {ss = ss} t i e h = then_fails _ (ap (slots scope ss unfilled) e ∙ slots_tells h)

-- the same where they end
at_end : {scope : Scope} {ss : List Slot} {t : Tail} {x : Operands} {a b : Input} {f : SyntaxFault} (i : Input) → next i ≡ a →
    SlotsAt scope ss unfilled a x b → TailFails t x b f → operands scope ss t i ≡ Err f
unfolding operands
at_end {scope = scope} {ss = ss} i e p h = then_again _ (ap (slots scope ss unfilled) e ∙ slots_again p) (tail_tells h)

-- ---- calls that can fail

-- a call that needs a queue that isn't there is an unknown name
unknown_word : (scope : Scope) (s : FallibleShape) (i : Input) → is_known scope.queue s ≡ false →
    fallible_by scope s i ≡ Err (fault_at E04 i)
unknown_word scope s i q = rw q refl

-- fallible: where it fails, that is reported
pub fallible_tells : {scope : Scope} {i : Input} {f : SyntaxFault} → FallibleFails scope i f → fallible_call scope i ≡ Err f
unfolding fallible_call
fallible_tells {scope = scope} (bad.no_fallible {i = i} e h) =
    ap (λ m. given m (fallible_by scope) refuse i) (none_of _ e) ∙ ap (λ x. Err x) (refuses h)
fallible_tells {scope = scope} (bad.unknown_call {i = i} {s = s} n q) =
    ap (λ m. given m (fallible_by scope) refuse i) (means n) ∙ unknown_word scope s i q
fallible_tells {scope = scope} (bad.fallible_slot {i = i} {s = s} n q h) =
    fallible_at scope q n ∙ then_fails _ (in_slot (fallible_tail s) i (left_is n) h)
fallible_tells {scope = scope} (bad.fallible_end {i = i} n q p h) = fallible_at scope q n ∙ then_fails _ (at_end i (left_is n) p h)

-- ---- calls that always succeed

-- plain: where it fails, that is reported
pub plain_tells : {scope : Scope} {i : Input} {f : SyntaxFault} → PlainFails scope i f → plain_call scope i ≡ Err f
unfolding plain_call
plain_tells {scope = scope} (bad.no_plain {i = i} e h) =
    ap (λ m. given m (plain_by scope) refuse i) (none_of _ e) ∙ ap (λ x. Err x) (refuses h)
plain_tells {scope = scope} (bad.plain_slot {i = i} {s = s} n h) = plain_at scope n ∙ then_fails _ (in_slot (plain_tail s) i (left_is n) h)
plain_tells {scope = scope} (bad.plain_end {i = i} n p h) = plain_at scope n ∙ then_fails _ (at_end i (left_is n) p h)
