-- The words of statuses, calls, tests and actions say them.
use Rattle.flt_print.proofs.Alike.{AlikeCall, same, deferred, generic, AlikeCondition, a_test, a_call}
use Rattle.flt_print.proofs.Pieces.{reads_back, less_piece, plus_piece, minus_piece, assign_piece, equal_piece, differs_piece}
use Rattle.flt_print.proofs.Said.{Span, Says, says_both, says_by, says_none, says_next, says_kind, says_meant, says_name, says_number}
use Rattle.flt_print.proofs.SaidWords.{says_existing, says_fallible_shape, says_plain_shape}
use Rattle.flt_print.proofs.SaidWords.{says_number_variable, says_context, says_removed, says_operation_variable, says_final_status}
use Rattle.flt_print.specs.ActionWords.{expression_words, action_words, test_words, condition_words}
use Rattle.flt_print.specs.CallWords.{fallible_words, plain_words}
use Rattle.flt_print.specs.CallWords.{optional_words, status_words, optional_status_words, slot_word, tail_words, operand_words}
use Rattle.flt_print.specs.Operands.{Operands, fallible_shape, fallible_operands, plain_shape, plain_operands}
use Rattle.flt_print.specs.Vocabulary.{spelling, atom_word}
use Rattle.flt_rules.specs.declared.call.LockNumber.TheVariants.{L0}
use Rattle.flt_rules.specs.declared.call.LockNumber.{LockNumber}
use Rattle.flt_syntax.specs.ActionGrammar as actions
use Rattle.flt_syntax.specs.ActionGrammar.{AtomAt, ExpressionAt, ActionAt, TestAt, ConditionAt}
use Rattle.flt_syntax.specs.CallGrammar as calls
use Rattle.flt_syntax.specs.CallGrammar.{StatusAt, OptionalStatusAt, SlotAt, SlotsAt, TailAt, FallibleAt, PlainAt}
use Rattle.flt_syntax.specs.Cursor.{Input, position}
use Rattle.flt_syntax.specs.Lex.{keyword, same_kind}
use Rattle.flt_syntax.specs.Scope.{Scope}
use Rattle.flt_syntax.specs.Shape.{unfilled, fallible_slots, fallible_tail, fallible_of, is_known, plain_slots, plain_tail, plain_of}
use Rattle.flt_syntax.specs.Tables.{bare_status_of}
use Rattle.flt_syntax.specs.Words as words
use Rattle.flt_syntax.specs.Words.{Meant, OptionalAt}
use Rattle.flt_syntax.specs.declared.shape.Operands as read
use Rattle.flt_syntax.specs.declared.shape.Slot.TheVariants as part
use Rattle.flt_syntax.specs.declared.shape.Slot.{Slot}
use Rattle.flt_syntax.specs.declared.shape.Tail.TheVariants as last
use Rattle.flt_syntax.specs.declared.shape.Tail.{Tail}
use Rattle.flt_syntax.specs.declared.token.Kind.TheVariants as k
use Rattle.flt_syntax.specs.declared.token.Kind.{Kind}
use Rattle.flt_tree.specs.Declarations.{lock_number}
use Rattle.flt_tree.specs.Names.{Text, is_name}
use Rattle.flt_tree.specs.WellFormed.{IsAtom, IsExpression, IsAction, IsTest, IsFallible, IsCondition, IsPlain}
use Rattle.flt_tree.specs.declared.filter.Action.TheVariants.{SetNumber, ReadValue, ReadFile, WriteValue, ClearContext, ClearOperation}
use Rattle.flt_tree.specs.declared.filter.Action.{Action}
use Rattle.flt_tree.specs.declared.filter.Condition.TheVariants as made
use Rattle.flt_tree.specs.declared.filter.Condition.{Condition}
use Rattle.flt_tree.specs.declared.filter.FallibleCall.TheVariants as fallible
use Rattle.flt_tree.specs.declared.filter.FallibleCall.{FallibleCall}
use Rattle.flt_tree.specs.declared.filter.Lock.{Lock}
use Rattle.flt_tree.specs.declared.filter.PlainCall.TheVariants as plain
use Rattle.flt_tree.specs.declared.filter.PlainCall.{PlainCall}
use Rattle.flt_tree.specs.declared.filter.Position.{Position}
use Rattle.flt_tree.specs.declared.filter.Routine.{Routine}
use Rattle.flt_tree.specs.declared.filter.Status.TheVariants as statuses
use Rattle.flt_tree.specs.declared.filter.Status.{Status}
use Rattle.flt_tree.specs.declared.filter.Test.TheVariants.{ContextIsSome, OperationIsSome, Equal, Less, IsIrp, IsDraining}
use Rattle.flt_tree.specs.declared.filter.Test.{Test}
use Rattle.flt_tree.specs.declared.variable.Atom.TheVariants as atoms
use Rattle.flt_tree.specs.declared.variable.Atom.{Atom}
use Rattle.flt_tree.specs.declared.variable.ContextVariable.{ContextVariable}
use Rattle.flt_tree.specs.declared.variable.Expression.TheVariants as expressions
use Rattle.flt_tree.specs.declared.variable.Expression.{Expression}
use Rattle.std.proofs.Common.{◌≡◌, ◌≢◌, Bool, true, List, [], ◌∷◌, map, refl, subst}
use Rattle.std.specs.Prelude.{Option, Some, None}

module _ (text : Text) (locks : List Lock) (queue : Bool) where
  abbrev pub scope : Scope
  scope = record { text = text; locks = locks; queue = queue }

  pub says_optional : (kd : Kind) → reads_back kd ≡ true → (c : Option ContextVariable) →
      Says text (optional_words kd c) (λ i o. OptionalAt kd i c o)
  says_optional kd e None = says_none (λ i. words.without)
  says_optional kd e (Some c) = says_by (says_both (says_kind kd e) (says_context c)) (λ i o p. words.behind p.1 p.2)

  pub says_status : (s : Status) → Says text (status_words s) (λ i o. StatusAt i s o)
  unfolding spelling keyword same_kind
  says_status (statuses.WithCallback c) =
      says_by (says_both (says_kind k.WithCallback refl) (says_optional k.Context refl c)) (λ i o p. calls.with_callback p.1 p.2)
  says_status (statuses.Synchronize c) =
      says_by (says_both (says_kind k.Synchronize refl) (says_optional k.Context refl c)) (λ i o p. calls.synchronize p.1 p.2)
  says_status (statuses.Complete s) =
      says_by (says_both (says_kind k.Complete refl) (says_final_status s)) (λ i o p. calls.complete p.1 p.2)
  says_status statuses.NoCallback = says_by (says_meant bare_status_of k.NoCallback statuses.NoCallback refl refl) (λ i o p. calls.bare p)
  says_status statuses.Pending = says_by (says_meant bare_status_of k.Pending statuses.Pending refl refl) (λ i o p. calls.bare p)
  says_status statuses.DisallowFastIo =
      says_by (says_meant bare_status_of k.DisallowFastIo statuses.DisallowFastIo refl refl) (λ i o p. calls.bare p)
  says_status statuses.FinishedProcessing =
      says_by (says_meant bare_status_of k.FinishedProcessing statuses.FinishedProcessing refl refl) (λ i o p. calls.bare p)
  says_status statuses.MoreProcessingRequired =
      says_by (says_meant bare_status_of k.MoreProcessingRequired statuses.MoreProcessingRequired refl refl) (λ i o p. calls.bare p)

  -- the words of a status that may be left out say it
  pub says_optional_status : (s : Option Status) → Says text (optional_status_words s) (λ i o. OptionalStatusAt i s o)
  says_optional_status None = says_none (λ i. calls.no_status)
  says_optional_status (Some s) = says_by (says_status s) (λ i o p. calls.some_status p)

  -- the operands of a call where it is printed, and the number of its lock
  module _ (x : Operands) (l : LockNumber) where
    -- a name fills a slot
    abbrev IsNamed : Slot → Type 0
    IsNamed part.Routine = is_name x.name ≡ true
    IsNamed (part.Lock kind) = is_name x.name ≡ true
    IsNamed _ = Unit {0}

    abbrev AreNamed : List Slot → Type 0
    AreNamed [] = Unit {0}
    AreNamed (s ∷ ss) = IsNamed s × AreNamed ss

    -- the operands after a slot, where it is read at a place
    abbrev filled : Position → Slot → read.Operands → read.Operands
    filled at part.Operation y = record y { operation = x.operation }
    filled at part.Removed y = record y { removed = x.removed }
    filled at part.Existing y = record y { existing = x.existing }
    filled at part.Context y = record y { context = x.context }
    filled at part.Other y = record y { other = x.other }
    filled at part.Routine y = record y { routine = record { name = x.name; position = at } }
    filled at (part.Lock kind) y = record y { lock = l }
    filled at _ y = y

    -- what a slot wants of the operands before it
    abbrev Fits : Slot → read.Operands → Type 0
    Fits part.Other y = x.other ≢ y.context
    Fits (part.Lock kind) y = lock_number kind x.name locks ≡ Some l
    Fits _ y = Unit {0}

    -- what is true of the operands after slots, wherever they are read
    abbrev After : (read.Operands → Type 0) → List Slot → read.Operands → Type 0
    After Q [] y = Q y
    After Q (s ∷ ss) y = Fits s y × ((at : Position) → After Q ss (filled at s y))

    says_slot : (s : Slot) → IsNamed s →
        Says text (slot_word x s ∷ []) (λ i o. (y : read.Operands) → Fits s y → SlotAt scope s y i (filled (position i) s y) o)
    unfolding spelling keyword same_kind
    says_slot part.Data n = says_by (says_kind k.Data refl) (λ i o p y f. calls.data_word p)
    says_slot part.As n = says_by (says_kind k.As refl) (λ i o p y f. calls.as_word p)
    says_slot part.With n = says_by (says_kind k.Context refl) (λ i o p y f. calls.context_word p)
    says_slot part.Operation n = says_by (says_operation_variable x.operation) (λ i o p y f. calls.operation p)
    says_slot part.Removed n = says_by (says_removed x.removed) (λ i o p y f. calls.removed p)
    says_slot part.Existing n = says_by (says_existing x.existing) (λ i o p y f. calls.existing p)
    says_slot part.Context n = says_by (says_context x.context) (λ i o p y f. calls.context p)
    says_slot part.Other n = says_by (says_context x.other) (λ i o p y f. calls.other p f)
    says_slot part.Routine n = says_by (says_name x.name n) (λ i o p y f. calls.routine_name (calls.routine p))
    says_slot (part.Lock kind) n = says_by (says_name x.name n) (λ i o p y f. calls.lock_name (calls.lock p f))

    says_slots : (Q : read.Operands → Type 0) (ss : List Slot) → AreNamed ss →
        Says text (map (slot_word x) ss)
        (λ i o. (y : read.Operands) → After Q ss y → (z : read.Operands) × SlotsAt scope ss y i z o × Q z)
    says_slots Q [] n = says_none (λ i y q. (y, calls.no_slots, q))
    says_slots Q (s ∷ ss) n =
        says_by (says_both (says_slot s n.0) (says_slots Q ss n.1)) (λ i o p y q.
        let r = p.2 (filled (position i) s y) (q.1 (position i)) in
        (r.0, calls.slot (p.1 y q.0) r.1, r.2))

    -- the operands after what ends a call
    abbrev ended : Tail → read.Operands → read.Operands
    ended last.Nothing y = y
    ended last.Status y = record y { status = x.status }
    ended _ y = record y { optional = x.optional }

    -- what it wants of the operands before it
    abbrev Ends : Tail → read.Operands → Type 0
    Ends last.OtherOld y = x.optional ≢ Some y.context
    Ends _ y = Unit {0}

    says_tail : (t : Tail) → Says text (tail_words x t) (λ i o. (y : read.Operands) → Ends t y → TailAt t y i (ended t y) o)
    unfolding spelling keyword same_kind
    says_tail last.Nothing = says_none (λ i y e. calls.nothing)
    says_tail last.With = says_by (says_optional k.Context refl x.optional) (λ i o p y e. calls.with_context p)
    says_tail last.Old = says_by (says_optional k.Old refl x.optional) (λ i o p y e. calls.old p)
    says_tail last.OtherOld = says_by (says_optional k.Old refl x.optional) (λ i o p y e. calls.other_old p e)
    says_tail last.Status = says_by (says_status x.status) (λ i o p y e. calls.status p)

    -- what is true of the operands of a whole call, wherever it is read
    abbrev Read : (read.Operands → Type 0) → List Slot → Tail → Type 0
    Read Q ss t = After (λ y. Ends t y × Q (ended t y)) ss unfilled

    -- operands of which something is true, from the first slot on
    abbrev OperandsAt : (read.Operands → Type 0) → List Slot → Tail → Span
    OperandsAt Q ss t i o =
        (y : read.Operands) × (z : read.Operands) × (j : Input) × SlotsAt scope ss unfilled i y j × TailAt t y j z o × Q z

    says_operands : (Q : read.Operands → Type 0) (ss : List Slot) (t : Tail) → AreNamed ss → Read Q ss t →
        Says text (operand_words x ss t) (OperandsAt Q ss t)
    says_operands Q ss t n r =
        says_by (says_both (says_slots (λ y. Ends t y × Q (ended t y)) ss n) (says_tail t)) (λ i o p.
        let s = p.1 unfilled r in (s.0, ended t s.0, p.0, s.1, p.2 s.0 s.2.0, s.2.1))

  -- a call that its words say, but for where a routine's name stands
  record IsReadable (c : FallibleCall Routine) : Type 0 where
    known : is_known queue (fallible_shape c) ≡ true
    named : AreNamed (fallible_operands c) L0 (fallible_slots (fallible_shape c))
    alike : Read (fallible_operands c) L0 (λ y. AlikeCall c (fallible_of (fallible_shape c) y)) (fallible_slots (fallible_shape c))
        (fallible_tail (fallible_shape c))

  readable : (c : FallibleCall Routine) → IsFallible queue c → IsReadable c
  readable (fallible.AllocateContext c) h = record { known = refl; named = (tt, tt); alike = (tt, λ at. (tt, same)) }
  readable (fallible.GetContext x c) h = record { known = refl; named = (tt, tt); alike = (tt, λ at. (tt, same)) }
  readable (fallible.SetContext x e c old) h =
      record { known = refl; named = (tt, (tt, tt)); alike = (tt, λ at. (tt, λ at. (h, same))) }
  readable (fallible.DeleteContextOf x old) h = record { known = refl; named = tt; alike = (tt, same) }
  readable (fallible.InsertIo c) h = record { known = h; named = (tt, tt); alike = (tt, λ at. (tt, same)) }
  readable (fallible.RemoveNextIo x c) h =
      record { known = h; named = (tt, (tt, (tt, tt))); alike = (tt, λ at. (tt, λ at. (tt, λ at. (tt, same)))) }
  readable (fallible.QueueDeferredIoWorkItem r c) h =
      record { known = refl; named = (tt, (h, tt)); alike = (tt, λ at. (tt, λ at. (tt, deferred refl))) }
  readable (fallible.QueueGenericWorkItem r c) h = record { known = refl; named = (h, tt); alike = (tt, λ at. (tt, generic refl)) }

  -- the words of a call that can fail say it, but for where a routine's name stands
  pub says_call : (c : FallibleCall Routine) → IsFallible queue c →
      Says text (fallible_words c) (λ i o. (d : FallibleCall Routine) × FallibleAt scope i d o × AlikeCall c d)
  says_call c h =
      let r = readable c h in
      let s = fallible_shape c in
      says_by
      (says_both (says_fallible_shape s)
      (says_operands (fallible_operands c) L0 (λ y. AlikeCall c (fallible_of s y)) (fallible_slots s) (fallible_tail s) r.named r.alike))
      (λ i o p. (fallible_of s p.2.1, calls.fallible p.1 r.known p.2.3 p.2.4, p.2.5))

  -- a call that its words say
  record IsPlainReadable (c : PlainCall) : Type 0 where
    lock : LockNumber
    named : AreNamed (plain_operands locks c) lock (plain_slots (plain_shape c))
    said : Read (plain_operands locks c) lock (λ y. plain_of (plain_shape c) y ≡ c) (plain_slots (plain_shape c))
        (plain_tail (plain_shape c))

  plain_readable : (c : PlainCall) → IsPlain locks c → IsPlainReadable c
  plain_readable (plain.DeleteContext c) h = record { lock = L0; named = (tt, tt); said = (tt, λ at. (tt, refl)) }
  plain_readable (plain.ReferenceContext c d) h =
      record { lock = L0; named = (tt, (tt, (tt, tt))); said = (tt, λ at. (tt, λ at. (h, λ at. (tt, refl)))) }
  plain_readable (plain.ReleaseContext c) h = record { lock = L0; named = (tt, tt); said = (tt, λ at. (tt, refl)) }
  plain_readable (plain.AcquireLock kind l) h = record { lock = l; named = (h.0, tt); said = (h.1, λ at. (tt, refl)) }
  plain_readable (plain.AcquirePushLockShared l) h = record { lock = l; named = (h.0, tt); said = (h.1, λ at. (tt, refl)) }
  plain_readable (plain.ReleaseLock kind l) h = record { lock = l; named = (h.0, tt); said = (h.1, λ at. (tt, refl)) }
  plain_readable (plain.CompletePendedPreOperation d s) h = record { lock = L0; named = (tt, tt); said = (tt, λ at. (tt, refl)) }
  plain_readable plain.CompletePendedPostOperation h = record { lock = L0; named = (tt, tt); said = (tt, λ at. (tt, refl)) }

  -- the words of a call that always succeeds say it
  pub says_plain : (c : PlainCall) → IsPlain locks c → Says text (plain_words locks c) (λ i o. PlainAt scope i c o)
  says_plain c h =
      let r = plain_readable c h in
      let s = plain_shape c in
      says_by
      (says_both (says_plain_shape s)
      (says_operands (plain_operands locks c) r.lock (λ y. plain_of s y ≡ c) (plain_slots s) (plain_tail s) r.named r.said))
      (λ i o p. subst (λ d. PlainAt scope i d o) p.2.5 (calls.plain p.1 p.2.3 p.2.4))

  says_atom : (x : Atom) → IsAtom x → Says text (atom_word x ∷ []) (λ i o. AtomAt i x o)
  says_atom (atoms.Number n) h = says_by (says_number n h) (λ i o p. actions.number p)
  says_atom (atoms.Variable n) h = says_by (says_number_variable n) (λ i o p. actions.variable p)

  says_expression : (e : Expression) → IsExpression e → Says text (expression_words e) (λ i o. ExpressionAt i e o)
  says_expression (expressions.Atom x) h = says_by (says_atom x h) (λ i o p. actions.one p)
  says_expression (expressions.Sum x y) h =
      says_by (says_both (says_atom x h.0) (says_both (says_next k.Plus plus_piece) (says_atom y h.1)))
      (λ i o p. actions.sum p.1 p.2.1 p.2.2)
  says_expression (expressions.Difference x y) h =
      says_by (says_both (says_atom x h.0) (says_both (says_next k.Minus minus_piece) (says_atom y h.1)))
      (λ i o p. actions.difference p.1 p.2.1 p.2.2)

  -- the words of an action say it
  pub says_action : (a : Action) → IsAction a → Says text (action_words a) (λ i o. ActionAt i a o)
  unfolding spelling keyword same_kind
  says_action (SetNumber n e) h = says_by
      (says_both (says_number_variable n) (says_both (says_next k.Assign assign_piece) (says_expression e h)))
      (λ i o p. actions.set_number p.1 p.2.1 p.2.2)
  says_action (ReadValue n c) h = says_by
      (says_both (says_number_variable n)
      (says_both (says_next k.Assign assign_piece) (says_both (says_kind k.Value refl) (says_context c))))
      (λ i o p. actions.read_value p.1 p.2.1 p.2.2.1 p.2.2.2)
  says_action (ReadFile n d) h = says_by
      (says_both (says_number_variable n)
      (says_both (says_next k.Assign assign_piece) (says_both (says_kind k.File refl) (says_operation_variable d))))
      (λ i o p. actions.read_file p.1 p.2.1 p.2.2.1 p.2.2.2)
  says_action (WriteValue c x) h = says_by
      (says_both (says_kind k.Value refl)
      (says_both (says_context c) (says_both (says_next k.Assign assign_piece) (says_atom x h))))
      (λ i o p. actions.write_value p.1 p.2.1 p.2.2.1 p.2.2.2)
  says_action (ClearContext c) h = says_by
      (says_both (says_context c) (says_both (says_next k.Assign assign_piece) (says_kind k.Null refl)))
      (λ i o p. actions.clear_context p.1 p.2.1 p.2.2)
  says_action (ClearOperation x) h = says_by
      (says_both (says_removed x) (says_both (says_next k.Assign assign_piece) (says_kind k.Null refl)))
      (λ i o p. actions.clear_operation p.1 p.2.1 p.2.2)

  says_test : (t : Test) → IsTest t → Says text (test_words t) (λ i o. TestAt i t o)
  unfolding spelling keyword same_kind
  says_test (ContextIsSome c) h = says_by
      (says_both (says_context c) (says_both (says_next k.NotEqual differs_piece) (says_kind k.Null refl)))
      (λ i o p. actions.context_is_some p.1 p.2.1 p.2.2)
  says_test (OperationIsSome x) h = says_by
      (says_both (says_removed x) (says_both (says_next k.NotEqual differs_piece) (says_kind k.Null refl)))
      (λ i o p. actions.operation_is_some p.1 p.2.1 p.2.2)
  says_test (Equal n x) h = says_by (says_both (says_number_variable n)
      (says_both (says_next k.Equal equal_piece) (says_atom x h))) (λ i o p. actions.equal p.1 p.2.1 p.2.2)
  says_test (Less n x) h = says_by (says_both (says_number_variable n) (says_both (says_next k.Less less_piece) (says_atom x h)))
      (λ i o p. actions.less p.1 p.2.1 p.2.2)
  says_test IsIrp h = says_by (says_both (says_kind k.Irp refl) (says_kind k.Data refl)) (λ i o p. actions.is_irp p.1 p.2)
  says_test IsDraining h = says_by (says_kind k.Draining refl) (λ i o p. actions.is_draining p)

  -- the words of a condition say it, but for where its call stands
  pub says_condition : (c : Condition) → IsCondition queue c →
      Says text (condition_words c) (λ i o. (d : Condition) × ConditionAt scope i d o × AlikeCondition c d)
  says_condition (made.Test t) h = says_by (says_test t h) (λ i o p. (made.Test t, actions.test p, a_test))
  says_condition (made.Succeeds c) h = says_by (says_call c h) (λ i o p. (made.Succeeds p.0, actions.succeeds p.1, a_call p.2))
