-- Each reader ends: what it gives is spelled and over, and its fault is one by the relation beside the grammar. Statuses and calls.
use Rattle.std.proofs.Common.{◌≡◌, Bool, true, false, List, [], ◌∷◌, Ok, refl, ap}
use Rattle.std.specs.Prelude.{Option, Some, None, if◌then◌else◌, ◌||◌, is_some}
use Rattle.flt_rules.specs.declared.call.LockKind.{LockKind}
use Rattle.flt_rules.specs.declared.call.LockNumber.{LockNumber}
use Rattle.flt_syntax.specs.declared.shape.FallibleShape.{FallibleShape}
use Rattle.flt_syntax.specs.declared.shape.Operands.{Operands}
use Rattle.flt_syntax.specs.declared.shape.PlainShape.{PlainShape}
use Rattle.flt_syntax.specs.declared.shape.Slot.{Slot}
use Rattle.flt_syntax.specs.declared.shape.Slot.TheVariants as part
use Rattle.flt_syntax.specs.declared.shape.Tail.{Tail}
use Rattle.flt_syntax.specs.declared.shape.Tail.TheVariants as last
use Rattle.flt_syntax.specs.declared.token.Kind.{Kind}
use Rattle.flt_syntax.specs.declared.token.Kind.TheVariants as k
use Rattle.flt_syntax.specs.declared.token.Token.{Token}
use Rattle.flt_syntax.specs.declared.fault.FaultKind.TheVariants.{E04}
use Rattle.flt_syntax.specs.declared.fault.SyntaxFault.{SyntaxFault}
use Rattle.flt_tree.specs.declared.filter.FallibleCall.{FallibleCall}
use Rattle.flt_tree.specs.declared.filter.PlainCall.{PlainCall}
use Rattle.flt_tree.specs.declared.filter.Routine.{Routine}
use Rattle.flt_tree.specs.declared.filter.Status.{Status}
use Rattle.flt_syntax.specs.Lex.{same_kind}
use Rattle.flt_syntax.specs.CallGrammar as g
use Rattle.flt_syntax.specs.CallGrammar.{StatusAt, OptionalStatusAt, RoutineAt, LockAt, SlotAt, SlotsAt, TailAt, FallibleAt, PlainAt}
use Rattle.flt_syntax.specs.Words.{Meant}
use Rattle.flt_syntax.specs.Operand.{removed_variable, removed_variable_of, operation_variable, operation_variable_of}
use Rattle.flt_syntax.specs.Scope.{Scope, lock_named, routine}
use Rattle.flt_tree.specs.Declarations.{lock_number}
use Rattle.flt_syntax.specs.Status.{final_status_of, final_status, bare_status_of, bare_status, status_by, status, has_more, begins_status}
use Rattle.flt_syntax.specs.Status.{optional_status}
use Rattle.flt_syntax.specs.Call.{existing_of, existing, fallible_by, fallible_call, plain_by, plain_call, fallible_shape_of}
use Rattle.flt_syntax.specs.Call.{plain_shape_of, slot, slots, tail, operands}
use Rattle.flt_syntax.specs.Shape.{unfilled, fallible_slots, fallible_tail, fallible_of, is_known, plain_slots, plain_tail}
use Rattle.flt_syntax.specs.Cursor.{Input, ◌<$>◌, kind, next, bytes_of, refusal, refuse, fault_at, fail, found_or, known_or, given}
use Rattle.flt_syntax.proofs.TokenKinds.{took, meant_at}
use Rattle.flt_syntax.specs.Over.{StatusOver, OptionalStatusOver, TailOver, FallibleOver, PlainOver}
use Rattle.flt_syntax.specs.WordFails.{NameFails, KnownFails, MeantFails}
use Rattle.flt_syntax.specs.CallFails as bad
use Rattle.flt_syntax.specs.CallFails.{StatusFails, OptionalStatusFails, LockFails, FallibleFails, PlainFails, SlotFails, SlotsFail}
use Rattle.flt_syntax.specs.CallFails.{TailFails}
use Rattle.flt_syntax.proofs.Ends.{WordAt, name_of, Ends, gives, fails, then_ends, refused, expect_ends, meant_ends, known_ends}
use Rattle.flt_syntax.proofs.Ends.{context_ends, word_ends, spelled_ends, other_ends, with_context_ends, old_ends, other_old_ends, ends_by}

-- ---- variables

removed_ends : (i : Input) → Ends (Meant removed_variable_of i) (KnownFails removed_variable_of i) (removed_variable i)
unfolding removed_variable
removed_ends i = known_ends removed_variable_of i _ refl refl

-- D: what is read is spelled and over, else it fails so
pub operation_ends : (i : Input) → Ends (Meant operation_variable_of i) (KnownFails operation_variable_of i) (operation_variable i)
unfolding operation_variable
operation_ends i = known_ends operation_variable_of i _ refl refl

-- ---- statuses

abbrev pub StatusHere : Input → Status → Input → Type 0
StatusHere i s o = (p : StatusAt i s o) × StatusOver p

final_ends : (i : Input) → Ends (Meant final_status_of i) (MeantFails final_status_of i) (final_status i)
unfolding final_status
final_ends i = meant_ends final_status_of i _ refl refl

-- where neither holds
pub neither : (a b : Bool) → a ≡ false → b ≡ false → (a || b) ≡ false
neither a b e h = rw (e, h) refl

bare_by : (i : Input) (m : Option Status) → has_more (kind i) ≡ false → bare_status_of (kind i) ≡ m →
    Ends (StatusHere i) (StatusFails i) (known_or (refusal i) m i)
bare_by i None h e = fails (bad.no_status (neither _ _ h (ap is_some e)) (refused i))
bare_by i (Some s) h e = gives (g.bare (meant_at bare_status_of i s refl e), tt)

bare_ends : (i : Input) → has_more (kind i) ≡ false → Ends (StatusHere i) (StatusFails i) (bare_status i)
unfolding bare_status
bare_ends i h = bare_by i (bare_status_of (kind i)) h refl

status_by_ends : (i : Input) (kd : Kind) → kind i ≡ kd → Ends (StatusHere i) (StatusFails i) (status_by kd i)
unfolding same_kind
status_by_ends i k.WithCallback e =
    let n = took i k.WithCallback refl e in
    then_ends _ (with_context_ends (next i)) (λ x h. bad.with_callback n h) (λ c o p. gives (g.with_callback n p.0, p.1))
status_by_ends i k.Synchronize e =
    let n = took i k.Synchronize refl e in
    then_ends _ (with_context_ends (next i)) (λ x h. bad.synchronize n h) (λ c o p. gives (g.synchronize n p.0, p.1))
status_by_ends i k.Complete e =
    let n = took i k.Complete refl e in
    then_ends _ (final_ends (next i)) (λ x h. bad.complete n h) (λ c o p. gives (g.complete n p, tt))
status_by_ends i _ e = bare_ends i (ap has_more e)

status_ends : (i : Input) → Ends (StatusHere i) (StatusFails i) (status i)
unfolding status
status_ends i = status_by_ends i (kind i) refl

abbrev pub OptionalStatusHere : Input → Option Status → Input → Type 0
OptionalStatusHere i s o = (p : OptionalStatusAt i s o) × OptionalStatusOver p

optional_status_by : (i : Input) (b : Bool) → begins_status (kind i) ≡ b →
    Ends (OptionalStatusHere i) (OptionalStatusFails i) (if b then (Some <$> status) i else Ok (None, i))
optional_status_by i true e =
    then_ends _ (status_ends i) (λ x h. bad.some e h) (λ s o p. gives (g.some_status p.0, p.1))
optional_status_by i false e = gives (g.no_status, e)

-- [ status ]: what is read is spelled and over, else it fails so
pub optional_status_ends : (i : Input) → Ends (OptionalStatusHere i) (OptionalStatusFails i) (optional_status i)
unfolding optional_status
optional_status_ends i = optional_status_by i (begins_status (kind i)) refl

-- ---- names

routine_ends : (scope : Scope) (i : Input) → Ends (RoutineAt scope.text i) (NameFails i) (routine scope i)
unfolding routine
routine_ends scope i = then_ends _ (spelled_ends scope.text i) (λ x h. h) (λ x o p. gives (g.routine p))

lock_by : (scope : Scope) (lk : LockKind) (i : Input) (t : Token) (o : Input) (m : Option LockNumber) → WordAt i t o →
    lock_number lk (bytes_of scope.text t) scope.locks ≡ m → Ends (LockAt scope lk i) (LockFails scope lk i) (found_or (fault_at E04 i) m o)
lock_by scope lk i t o None p e = fails (bad.unknown_lock (name_of scope.text p) e)
lock_by scope lk i t o (Some l) p e = gives (g.lock (name_of scope.text p) e)

lock_ends : (scope : Scope) (lk : LockKind) (i : Input) → Ends (LockAt scope lk i) (LockFails scope lk i) (lock_named scope lk i)
unfolding lock_named
lock_ends scope lk i = then_ends _ (word_ends i) (λ x h. bad.no_name h) (λ t o p. lock_by scope lk i t o _ p refl)

-- ---- slots

existing_ends : (i : Input) → Ends (Meant existing_of i) (MeantFails existing_of i) (existing i)
unfolding existing
existing_ends i = meant_ends existing_of i _ refl refl

slot_ends : (scope : Scope) (s : Slot) (x : Operands) (i : Input) → Ends (SlotAt scope s x i) (SlotFails scope s x i) (slot scope s x i)
unfolding same_kind
slot_ends scope part.Data x i = then_ends _ (expect_ends i k.Data refl) (λ f h. bad.data_word h) (λ _ o n. gives (g.data_word n))
slot_ends scope part.As x i = then_ends _ (expect_ends i k.As refl) (λ f h. bad.as_word h) (λ _ o n. gives (g.as_word n))
slot_ends scope part.With x i = then_ends _ (expect_ends i k.Context refl) (λ f h. bad.context_word h) (λ _ o n. gives (g.context_word n))
slot_ends scope part.Operation x i = then_ends _ (operation_ends i) (λ f h. bad.operation h) (λ d o p. gives (g.operation p))
slot_ends scope part.Removed x i = then_ends _ (removed_ends i) (λ f h. bad.removed h) (λ v o p. gives (g.removed p))
slot_ends scope part.Existing x i = then_ends _ (existing_ends i) (λ f h. bad.existing h) (λ e o p. gives (g.existing p))
slot_ends scope part.Context x i = then_ends _ (context_ends i) (λ f h. bad.context h) (λ c o p. gives (g.context p))
slot_ends scope part.Other x i = then_ends _ (other_ends x.context i) (λ f h. bad.other h) (λ d o p. gives (g.other p.0 p.1))
slot_ends scope part.Routine x i = then_ends _ (routine_ends scope i) (λ f h. bad.routine_name h) (λ r o p. gives (g.routine_name p))
slot_ends scope (part.Lock kind) x i = then_ends _ (lock_ends scope kind i) (λ f h. bad.lock_name h) (λ l o p. gives (g.lock_name p))

slots_ends : (scope : Scope) (ss : List Slot) (x : Operands) (i : Input) →
    Ends (SlotsAt scope ss x i) (SlotsFail scope ss x i) (slots scope ss x i)
slots_ends scope [] x i = gives g.no_slots
slots_ends scope (s ∷ ss) x i =
    then_ends _ (slot_ends scope s x i) (λ f h. bad.here h)
    (λ y a p. ends_by (λ z o q. g.slot p q) (λ f h. bad.later p h) (slots_ends scope ss y a))

-- what ends a call, which is over
abbrev pub TailHere : Tail → Operands → Input → Operands → Input → Type 0
TailHere t x i y o = (p : TailAt t x i y o) × TailOver p

tail_ends : (t : Tail) (x : Operands) (i : Input) → Ends (TailHere t x i) (TailFails t x i) (tail t x i)
tail_ends last.Nothing x i = gives (g.nothing, tt)
tail_ends last.With x i = then_ends _ (with_context_ends i) (λ f h. bad.with_context h) (λ c o p. gives (g.with_context p.0, p.1))
tail_ends last.Old x i = then_ends _ (old_ends i) (λ f h. bad.old h) (λ c o p. gives (g.old p.0, p.1))
tail_ends last.OtherOld x i =
    then_ends _ (other_old_ends x.context i) (λ f h. bad.other_old h) (λ c o p. gives (g.other_old p.0 p.2, p.1))
tail_ends last.Status x i = then_ends _ (status_ends i) (λ f h. bad.status h) (λ s o p. gives (g.status p.0, p.1))

-- the operands of a call: its slots, and what ends it
record OperandsHere (scope : Scope) (ss : List Slot) (t : Tail) (i : Input) (y : Operands) (o : Input) : Type 0 where
  between : Operands
  middle : Input
  filled : SlotsAt scope ss unfilled i between middle
  ended : TailAt t between middle y o
  over : TailOver ended

-- they fail in a slot, or where they end
data OperandsFail (scope : Scope) (ss : List Slot) (t : Tail) (i : Input) (f : SyntaxFault) : Type 0 where
  in_slot : SlotsFail scope ss unfilled i f → OperandsFail scope ss t i f
  at_end : {x : Operands} {b : Input} → SlotsAt scope ss unfilled i x b → TailFails t x b f → OperandsFail scope ss t i f

operands_ends : (scope : Scope) (ss : List Slot) (t : Tail) (i : Input) →
    Ends (OperandsHere scope ss t (next i)) (OperandsFail scope ss t (next i)) (operands scope ss t i)
unfolding operands
operands_ends scope ss t i =
    then_ends _ (slots_ends scope ss unfilled (next i)) (λ f h. in_slot h)
    (λ x b p. ends_by (λ y o q. record { between = x; middle = b; filled = p; ended = q.0; over = q.1 }) (λ f h. at_end p h)
    (tail_ends t x b))

-- ---- calls that can fail

abbrev pub FallibleHere : Scope → Input → FallibleCall Routine → Input → Type 0
FallibleHere scope i c o = (p : FallibleAt scope i c o) × FallibleOver p

known_ends_by : (scope : Scope) (i : Input) (s : FallibleShape) (b : Bool) → is_known scope.queue s ≡ b →
    Meant fallible_shape_of i s (next i) →
    Ends (FallibleHere scope i) (FallibleFails scope i)
    (if b then (fallible_of s <$> operands scope (fallible_slots s) (fallible_tail s)) i else fail E04 i)
known_ends_by scope i s false q n = fails (bad.unknown_call n q)
known_ends_by scope i s true q n =
    then_ends _ (operands_ends scope (fallible_slots s) (fallible_tail s) i) fault
    (λ y o p. gives (g.fallible n q p.filled p.ended, p.over))
  where
    fault : (f : SyntaxFault) → OperandsFail scope (fallible_slots s) (fallible_tail s) (next i) f → FallibleFails scope i f
    fault f (in_slot h) = bad.fallible_slot n q h
    fault f (at_end p h) = bad.fallible_end n q p h

fallible_as : (scope : Scope) (i : Input) (m : Option FallibleShape) → fallible_shape_of (kind i) ≡ m →
    Ends (FallibleHere scope i) (FallibleFails scope i) (given m (fallible_by scope) refuse i)
fallible_as scope i None e = fails (bad.no_fallible (ap is_some e) (refused i))
fallible_as scope i (Some s) e = known_ends_by scope i s (is_known scope.queue s) refl (meant_at fallible_shape_of i s refl e)

-- fallible: what is read is spelled and over, else it fails so
pub fallible_ends : (scope : Scope) (i : Input) → Ends (FallibleHere scope i) (FallibleFails scope i) (fallible_call scope i)
unfolding fallible_call
fallible_ends scope i = fallible_as scope i (fallible_shape_of (kind i)) refl

-- ---- calls that always succeed

abbrev pub PlainHere : Scope → Input → PlainCall → Input → Type 0
PlainHere scope i c o = (p : PlainAt scope i c o) × PlainOver p

plain_by_ends : (scope : Scope) (i : Input) (s : PlainShape) → Meant plain_shape_of i s (next i) →
    Ends (PlainHere scope i) (PlainFails scope i) (plain_by scope s i)
plain_by_ends scope i s n =
    then_ends _ (operands_ends scope (plain_slots s) (plain_tail s) i) fault
    (λ y o p. gives (g.plain n p.filled p.ended, p.over))
  where
    fault : (f : SyntaxFault) → OperandsFail scope (plain_slots s) (plain_tail s) (next i) f → PlainFails scope i f
    fault f (in_slot h) = bad.plain_slot n h
    fault f (at_end p h) = bad.plain_end n p h

plain_as : (scope : Scope) (i : Input) (m : Option PlainShape) → plain_shape_of (kind i) ≡ m →
    Ends (PlainHere scope i) (PlainFails scope i) (given m (plain_by scope) refuse i)
plain_as scope i None e = fails (bad.no_plain (ap is_some e) (refused i))
plain_as scope i (Some s) e = plain_by_ends scope i s (meant_at plain_shape_of i s refl e)

-- plain: what is read is spelled and over, else it fails so
pub plain_ends : (scope : Scope) (i : Input) → Ends (PlainHere scope i) (PlainFails scope i) (plain_call scope i)
unfolding plain_call
plain_ends scope i = plain_as scope i (plain_shape_of (kind i)) refl
