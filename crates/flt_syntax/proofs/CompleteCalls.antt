-- What is spelled and over is read: statuses and calls.
use Rattle.std.proofs.Common.{◌≡◌, ◌≢◌, ◌≤◌, ◌<◌, Bool, true, false, List, length, Ok, refl, ap, ◌∙◌, rules, arith}
use Rattle.std.specs.Prelude.{Option, Some, is_some, ◌||◌}
use denote.Enum.Bare.{false_same}
use Rattle.flt_rules.specs.declared.call.Existing.{Existing}
use Rattle.flt_rules.specs.declared.call.LockKind.{LockKind}
use Rattle.flt_rules.specs.declared.call.LockNumber.{LockNumber}
use Rattle.flt_rules.specs.declared.status.FinalStatus.{FinalStatus}
use Rattle.flt_tree.specs.contracts.variable.ContextVariable.{the_type}
use Rattle.flt_syntax.specs.declared.shape.FallibleShape.{FallibleShape}
use Rattle.flt_syntax.specs.declared.shape.Operands.{Operands}
use Rattle.flt_syntax.specs.declared.shape.PlainShape.{PlainShape}
use Rattle.flt_syntax.specs.declared.shape.Slot.{Slot}
use Rattle.flt_syntax.specs.declared.shape.Tail.{Tail}
use Rattle.flt_syntax.specs.declared.token.Kind.{Kind}
use Rattle.flt_syntax.specs.declared.token.Kind.TheVariants as k
use Rattle.flt_tree.specs.declared.filter.Routine.{Routine}
use Rattle.flt_tree.specs.declared.filter.Status.{Status}
use Rattle.flt_tree.specs.declared.filter.FallibleCall.{FallibleCall}
use Rattle.flt_tree.specs.declared.filter.PlainCall.{PlainCall}
use Rattle.flt_tree.specs.declared.variable.ContextVariable.{ContextVariable}
use Rattle.flt_tree.specs.declared.variable.OperationVariable.{OperationVariable}
use Rattle.flt_tree.specs.declared.variable.RemovedVariable.{RemovedVariable}
use Rattle.flt_tree.specs.Names.{Text}
use Rattle.flt_syntax.specs.Words as words
use Rattle.flt_syntax.specs.CallGrammar as g
use Rattle.flt_syntax.specs.CallGrammar.{StatusAt, OptionalStatusAt, RoutineAt, LockAt, SlotAt, SlotsAt, TailAt, FallibleAt, PlainAt}
use Rattle.flt_syntax.specs.Words.{Next, Meant, ContextAt, OptionalAt}
use Rattle.flt_syntax.specs.Operand.{removed_variable, removed_variable_of, operation_variable}
use Rattle.flt_syntax.specs.Operand.{operation_variable_of, same_context, other_context, with_context}
use Rattle.flt_syntax.specs.Scope.{Scope, lock_named, routine}
use Rattle.flt_syntax.specs.Status.{final_status_of, final_status, bare_status_of, bare_status, status_by, status, has_more, begins_status}
use Rattle.flt_syntax.specs.Status.{optional_status}
use Rattle.flt_syntax.specs.Call.{existing_of, existing, old, other_old, fallible_by, fallible_call, plain_by, plain_call}
use Rattle.flt_syntax.specs.Call.{fallible_shape_of, plain_shape_of, slot, slots, tail, operands}
use Rattle.flt_syntax.specs.Cursor.{Input, kind, refusal, refuse, unknown, name, given, ◌<$>◌, next}
use Rattle.flt_syntax.specs.Shape.{unfilled, fallible_slots, fallible_tail, fallible_of, is_known}
use Rattle.flt_syntax.proofs.TokenKinds.{none_some, not_seen}
use Rattle.flt_syntax.specs.FirstWords.{begins_fallible, begins_plain}
use Rattle.flt_syntax.specs.Over.{OptionalOver, StatusOver, OptionalStatusOver, FallibleOver, PlainOver, TailOver}
use Rattle.flt_syntax.proofs.Complete.{then_again, kind_is, rest_is, left_is, means, some_of, expect_again, eat_again, eat_none}
use Rattle.flt_syntax.proofs.Complete.{known_again, context_again, spelled_again, next_less, meant_less, name_less, optional_less}

-- ---- variables

-- O: what is spelled and over is read
pub removed_again : {i o : Input} {x : RemovedVariable} → Meant removed_variable_of i x o → removed_variable i ≡ Ok (x, o)
unfolding removed_variable
removed_again {i = i} p = known_again (unknown i) p

-- D: what is spelled and over is read
pub operation_again : {i o : Input} {x : OperationVariable} → Meant operation_variable_of i x o → operation_variable i ≡ Ok (x, o)
unfolding operation_variable
operation_again {i = i} p = known_again (unknown i) p

not_same : (a b : ContextVariable) → a ≢ b → same_context a b ≡ false
unfolding same_context
not_same a b h = false_same the_type (search rules) a b h

other_again : {i o : Input} {c : ContextVariable} (first : ContextVariable) → ContextAt i c o → c ≢ first →
    other_context first i ≡ Ok (c, o)
unfolding other_context
other_again {c = c} first p h = then_again _ (context_again p) (rw (not_same c first h) refl)

with_context_again : {i o : Input} {c : Option ContextVariable} (p : OptionalAt k.Context i c o) → OptionalOver p →
    with_context i ≡ Ok (c, o)
unfolding with_context
with_context_again (words.without {i = i}) f = then_again _ (eat_none k.Context i (not_seen k.Context i f)) refl
with_context_again (words.behind n p) f = then_again _ (eat_again n) (then_again _ (context_again p) refl)

old_again : {i o : Input} {c : Option ContextVariable} (p : OptionalAt k.Old i c o) → OptionalOver p → old i ≡ Ok (c, o)
unfolding old
old_again (words.without {i = i}) f = then_again _ (eat_none k.Old i (not_seen k.Old i f)) refl
old_again (words.behind n p) f = then_again _ (eat_again n) (then_again _ (context_again p) refl)

other_old_again : {i o : Input} {d : Option ContextVariable} (first : ContextVariable) (p : OptionalAt k.Old i d o) → d ≢ Some first →
    OptionalOver p → other_old first i ≡ Ok (d, o)
unfolding other_old
other_old_again first (words.without {i = i}) h f = then_again _ (eat_none k.Old i (not_seen k.Old i f)) refl
other_old_again first (words.behind n p) h f = then_again _ (eat_again n) (then_again _ (other_again first p (λ e. h (ap Some e))) refl)

-- ---- statuses

final_again : {i o : Input} {s : FinalStatus} → Meant final_status_of i s o → final_status i ≡ Ok (s, o)
unfolding final_status
final_again {i = i} p = known_again (refusal i) p

bare_again : {i o : Input} {s : Status} → Meant bare_status_of i s o → bare_status i ≡ Ok (s, o)
unfolding bare_status
bare_again {i = i} p = known_again (refusal i) p

by_bare : (i : Input) (s : Status) (a : Kind) → bare_status_of a ≡ Some s → status_by a i ≡ bare_status i
by_bare i s k.WithCallback e = elim (none_some s e) [ ]
by_bare i s k.Synchronize e = elim (none_some s e) [ ]
by_bare i s k.Complete e = elim (none_some s e) [ ]
by_bare i s _ e = refl

-- the rule for a word, at that word
pub status_at : {kd : Kind} {i j : Input} → Next kd i j → status i ≡ status_by kd i
unfolding status
status_at {i = i} n = ap (λ x. status_by x i) (kind_is n)

bare_at : {i o : Input} {s : Status} → Meant bare_status_of i s o → status i ≡ bare_status i
unfolding status
bare_at {i = i} {s = s} p = by_bare i s (kind i) (means p)

status_again : {i o : Input} {s : Status} (p : StatusAt i s o) → StatusOver p → status i ≡ Ok (s, o)
status_again (g.with_callback n p) f = status_at n ∙ then_again _ (ap with_context (rest_is n) ∙ with_context_again p f) refl
status_again (g.synchronize n p) f = status_at n ∙ then_again _ (ap with_context (rest_is n) ∙ with_context_again p f) refl
status_again (g.complete n p) f = status_at n ∙ then_again _ (ap final_status (rest_is n) ∙ final_again p) refl
status_again (g.bare p) f = bare_at p ∙ bare_again p

or_true : (b : Bool) → (b || true) ≡ true
or_true true = refl
or_true false = refl

status_begins : {i o : Input} {s : Status} → StatusAt i s o → begins_status (kind i) ≡ true
status_begins (g.with_callback n p) = ap begins_status (kind_is n)
status_begins (g.synchronize n p) = ap begins_status (kind_is n)
status_begins (g.complete n p) = ap begins_status (kind_is n)
status_begins {i = i} (g.bare p) = ap (λ m. has_more (kind i) || is_some m) (means p) ∙ or_true (has_more (kind i))

-- [ status ]: what is spelled and over is read
pub optional_status_again : {i o : Input} {s : Option Status} (p : OptionalStatusAt i s o) → OptionalStatusOver p →
    optional_status i ≡ Ok (s, o)
unfolding optional_status
optional_status_again (g.no_status {i = i}) f = rw f refl
optional_status_again (g.some_status p) f = rw (status_begins p) (then_again _ (status_again p f) refl)

-- ---- names

-- NAME of a routine: what is spelled and over is read
pub routine_again : {i o : Input} {x : Routine} (scope : Scope) → RoutineAt scope.text i x o → routine scope i ≡ Ok (x, o)
unfolding routine
routine_again scope (g.routine p) = then_again _ (spelled_again p) refl

-- NAME of a declared lock: what is spelled and over is read
pub lock_again : {scope : Scope} {lk : LockKind} {i o : Input} {l : LockNumber} → LockAt scope lk i l o → lock_named scope lk i ≡ Ok (l, o)
unfolding lock_named name
lock_again (g.lock (words.name e) h) = rw e (rw h refl)

-- KEEP_IF_EXISTS or REPLACE_IF_EXISTS: what is spelled and over is read
pub existing_again : {i o : Input} {x : Existing} → Meant existing_of i x o → existing i ≡ Ok (x, o)
unfolding existing
existing_again {i = i} p = known_again (refusal i) p

-- ---- slots

-- a slot: what is spelled is read
pub slot_again : {scope : Scope} {s : Slot} {x y : Operands} {i o : Input} → SlotAt scope s x i y o → slot scope s x i ≡ Ok (y, o)
slot_again (g.data_word n) = then_again _ (expect_again n) refl
slot_again (g.as_word n) = then_again _ (expect_again n) refl
slot_again (g.context_word n) = then_again _ (expect_again n) refl
slot_again (g.operation p) = then_again _ (operation_again p) refl
slot_again (g.removed p) = then_again _ (removed_again p) refl
slot_again (g.existing p) = then_again _ (existing_again p) refl
slot_again (g.context p) = then_again _ (context_again p) refl
slot_again {x = x} (g.other p h) = then_again _ (other_again x.context p h) refl
slot_again {scope = scope} (g.routine_name p) = then_again _ (routine_again scope p) refl
slot_again (g.lock_name p) = then_again _ (lock_again p) refl

-- { slot }: what is spelled is read
pub slots_again : {scope : Scope} {ss : List Slot} {x y : Operands} {i o : Input} → SlotsAt scope ss x i y o →
    slots scope ss x i ≡ Ok (y, o)
slots_again g.no_slots = refl
slots_again (g.slot p q) = then_again _ (slot_again p) (slots_again q)

tail_again : {t : Tail} {x y : Operands} {i o : Input} (p : TailAt t x i y o) → TailOver p → tail t x i ≡ Ok (y, o)
tail_again g.nothing f = refl
tail_again (g.with_context p) f = then_again _ (with_context_again p f) refl
tail_again (g.old p) f = then_again _ (old_again p f) refl
tail_again {x = x} (g.other_old p h) f = then_again _ (other_old_again x.context p h f) refl
tail_again (g.status p) f = then_again _ (status_again p f) refl

-- the operands of a call: what is spelled and over is read
operands_again : {scope : Scope} {ss : List Slot} {t : Tail} {x y : Operands} {a b o : Input} (i : Input) → next i ≡ a →
    SlotsAt scope ss unfilled a x b → (p : TailAt t x b y o) → TailOver p → operands scope ss t i ≡ Ok (y, o)
unfolding operands
operands_again {scope = scope} {ss = ss} i e q p f = then_again _ (ap (slots scope ss unfilled) e ∙ slots_again q) (tail_again p f)

-- ---- calls

-- a word whose shape is known, at that word
pub fallible_at : {s : FallibleShape} {i j : Input} (scope : Scope) → is_known scope.queue s ≡ true → Meant fallible_shape_of i s j →
    fallible_call scope i ≡ (fallible_of s <$> operands scope (fallible_slots s) (fallible_tail s)) i
unfolding fallible_call
fallible_at {i = i} scope q n = ap (λ m. given m (fallible_by scope) refuse i) (means n) ∙ rw q refl

-- fallible: what is spelled and over is read
pub fallible_again : {scope : Scope} {i o : Input} {c : FallibleCall Routine} (p : FallibleAt scope i c o) → FallibleOver p →
    fallible_call scope i ≡ Ok (c, o)
fallible_again {scope = scope} {i = i} (g.fallible n q p t) f =
    fallible_at scope q n ∙ then_again _ (operands_again i (left_is n) p t f) refl

-- the rule for the shape of a word, at that word
pub plain_at : {s : PlainShape} {i j : Input} (scope : Scope) → Meant plain_shape_of i s j → plain_call scope i ≡ plain_by scope s i
unfolding plain_call
plain_at {i = i} scope n = ap (λ m. given m (plain_by scope) refuse i) (means n)

-- plain: what is spelled and over is read
pub plain_again : {scope : Scope} {i o : Input} {c : PlainCall} (p : PlainAt scope i c o) → PlainOver p → plain_call scope i ≡ Ok (c, o)
plain_again {scope = scope} {i = i} (g.plain n p t) f = plain_at scope n ∙ then_again _ (operands_again i (left_is n) p t f) refl

-- ---- with what calls begin

-- with what words they begin
pub fallible_begins : {scope : Scope} {i o : Input} {c : FallibleCall Routine} → FallibleAt scope i c o → begins_fallible (kind i) ≡ true
fallible_begins (g.fallible n _ _ _) = some_of (means n)

-- with what words they begin
pub plain_begins : {scope : Scope} {i o : Input} {c : PlainCall} → PlainAt scope i c o → begins_plain (kind i) ≡ true
plain_begins (g.plain n _ _) = some_of (means n)

-- ---- calls take tokens

status_less : {i o : Input} {s : Status} → StatusAt i s o → length o < length i
status_less (g.with_callback n p) = omega (arith, next_less n, optional_less p)
status_less (g.synchronize n p) = omega (arith, next_less n, optional_less p)
status_less (g.complete n p) = omega (arith, next_less n, meant_less p)
status_less (g.bare p) = meant_less p

-- [ status ]: fewer tokens are left behind it
pub optional_status_less : {i o : Input} {s : Option Status} → OptionalStatusAt i s o → length o ≤ length i
optional_status_less g.no_status = omega arith
optional_status_less (g.some_status p) = omega (arith, status_less p)

routine_less : {text : Text} {i o : Input} {x : Routine} → RoutineAt text i x o → length o < length i
routine_less (g.routine p) = name_less p

lock_less : {scope : Scope} {lk : LockKind} {i o : Input} {l : LockNumber} → LockAt scope lk i l o → length o < length i
lock_less (g.lock p e) = name_less p

slot_less : {scope : Scope} {s : Slot} {x y : Operands} {i o : Input} → SlotAt scope s x i y o → length o < length i
slot_less (g.data_word n) = next_less n
slot_less (g.as_word n) = next_less n
slot_less (g.context_word n) = next_less n
slot_less (g.operation p) = meant_less p
slot_less (g.removed p) = meant_less p
slot_less (g.existing p) = meant_less p
slot_less (g.context p) = meant_less p
slot_less (g.other p h) = meant_less p
slot_less (g.routine_name p) = routine_less p
slot_less (g.lock_name p) = lock_less p

slots_less : {scope : Scope} {ss : List Slot} {x y : Operands} {i o : Input} → SlotsAt scope ss x i y o → length o ≤ length i
slots_less g.no_slots = omega arith
slots_less (g.slot p q) = omega (arith, slot_less p, slots_less q)

tail_less : {t : Tail} {x y : Operands} {i o : Input} → TailAt t x i y o → length o ≤ length i
tail_less g.nothing = omega arith
tail_less (g.with_context p) = optional_less p
tail_less (g.old p) = optional_less p
tail_less (g.other_old p h) = optional_less p
tail_less (g.status p) = omega (arith, status_less p)

-- fallible: fewer tokens are left behind it
pub fallible_less : {scope : Scope} {i o : Input} {c : FallibleCall Routine} → FallibleAt scope i c o → length o < length i
fallible_less (g.fallible n q p t) = omega (arith, meant_less n, slots_less p, tail_less t)

-- plain: fewer tokens are left behind it
pub plain_less : {scope : Scope} {i o : Input} {c : PlainCall} → PlainAt scope i c o → length o < length i
plain_less (g.plain n p t) = omega (arith, meant_less n, slots_less p, tail_less t)
