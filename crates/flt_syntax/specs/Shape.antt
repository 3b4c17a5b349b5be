-- The shapes of calls: which slots follow the word of a call, one token each, what ends the call, and which call is made of the operands
-- that they fill. Beside each row stands the same as a production.
use Rattle.std.specs.Prelude.{Bool, true, false, not, ◌||◌, List, [], ◌∷◌, Option, Some, None}
use Rattle.flt_rules.specs.declared.call.Existing.TheVariants.{Keep}
use Rattle.flt_rules.specs.declared.call.LockKind.{LockKind}
use Rattle.flt_rules.specs.declared.call.LockKind.TheVariants.{Push}
use Rattle.flt_rules.specs.declared.call.LockNumber.{LockNumber}
use Rattle.flt_rules.specs.declared.call.LockNumber.TheVariants.{L0}
use Rattle.flt_syntax.specs.declared.shape.ContextEnd.{ContextEnd}
use Rattle.flt_syntax.specs.declared.shape.ContextEnd.TheVariants as ends
use Rattle.flt_syntax.specs.declared.shape.ContextSource.{ContextSource}
use Rattle.flt_syntax.specs.declared.shape.ContextSource.TheVariants as sources
use Rattle.flt_syntax.specs.declared.shape.FallibleShape.{FallibleShape}
use Rattle.flt_syntax.specs.declared.shape.FallibleShape.TheVariants as shapes
use Rattle.flt_syntax.specs.declared.shape.LockCall.{LockCall}
use Rattle.flt_syntax.specs.declared.shape.LockCall.TheVariants as does
use Rattle.flt_syntax.specs.declared.shape.Operands.{Operands}
use Rattle.flt_syntax.specs.declared.shape.PlainShape.{PlainShape}
use Rattle.flt_syntax.specs.declared.shape.PlainShape.TheVariants as plain_shapes
use Rattle.flt_syntax.specs.declared.shape.QueueCall.TheVariants as queued
use Rattle.flt_syntax.specs.declared.shape.Slot.{Slot}
use Rattle.flt_syntax.specs.declared.shape.Slot.TheVariants as part
use Rattle.flt_syntax.specs.declared.shape.Tail.{Tail}
use Rattle.flt_syntax.specs.declared.shape.Tail.TheVariants as last
use Rattle.flt_syntax.specs.declared.token.Kind.{Kind}
use Rattle.flt_tree.specs.declared.filter.FallibleCall.{FallibleCall}
use Rattle.flt_tree.specs.declared.filter.FallibleCall.TheVariants as fallible
use Rattle.flt_tree.specs.declared.filter.PlainCall.{PlainCall}
use Rattle.flt_tree.specs.declared.filter.PlainCall.TheVariants as plain
use Rattle.flt_tree.specs.declared.filter.Routine.{Routine}
use Rattle.flt_tree.specs.declared.filter.Status.TheVariants.{NoCallback}
use Rattle.flt_tree.specs.declared.variable.ContextVariable.{ContextVariable}
use Rattle.flt_tree.specs.declared.variable.ContextVariable.TheVariants.{C0}
use Rattle.flt_tree.specs.declared.variable.OperationVariable.TheVariants.{Data}
use Rattle.flt_tree.specs.declared.variable.RemovedVariable.TheVariants.{O0}
pub use Rattle.flt_syntax.specs.Tables.{fallible_shape_of, plain_shape_of}

-- ---- calls of a sort

-- the call by which a variable receives a context from there
abbrev pub obtaining : ContextSource → ContextVariable → FallibleCall Routine
obtaining sources.Allocate c = fallible.AllocateContext c
obtaining (sources.Get anchor) c = fallible.GetContext anchor c

-- the call that does this with the context of a variable
abbrev pub ending : ContextEnd → ContextVariable → PlainCall
ending ends.Delete c = plain.DeleteContext c
ending ends.Release c = plain.ReleaseContext c

-- the kind of lock that a call acquires or releases
abbrev pub lock_kind : LockCall → LockKind
lock_kind (does.Acquire kind) = kind
lock_kind does.AcquireShared = Push
lock_kind (does.Release kind) = kind

-- the call that does this with a lock
abbrev pub locking : LockCall → LockNumber → PlainCall
locking (does.Acquire kind) l = plain.AcquireLock kind l
locking does.AcquireShared l = plain.AcquirePushLockShared l
locking (does.Release kind) l = plain.ReleaseLock kind l

-- ---- operands

-- before the first slot
abbrev pub unfilled : Operands
unfilled = record {
  operation = Data;
  removed = O0;
  existing = Keep;
  context = C0;
  other = C0;
  optional = None;
  routine = record { name = []; position = record { line = 1; column = 1 } };
  lock = L0;
  status = NoCallback;
}

-- ---- the calls that can fail

-- Obtain: C
-- Set: ("KEEP_IF_EXISTS" | "REPLACE_IF_EXISTS") C [ "old" C ]
-- Delete: [ "old" C ]
-- Queue Insert: "data" [ "context" C ]
-- Queue RemoveNext: O "context" C
-- QueueDeferred: "data" NAME [ "context" C ]
-- QueueGeneric: NAME [ "context" C ]
abbrev pub fallible_slots : FallibleShape → List Slot
fallible_slots (shapes.Obtain source) = part.Context ∷ []
fallible_slots (shapes.Set anchor) = part.Existing ∷ part.Context ∷ []
fallible_slots (shapes.Delete anchor) = []
fallible_slots (shapes.Queue queued.Insert) = part.Data ∷ []
fallible_slots (shapes.Queue queued.RemoveNext) = part.Removed ∷ part.With ∷ part.Context ∷ []
fallible_slots shapes.QueueDeferred = part.Data ∷ part.Routine ∷ []
fallible_slots shapes.QueueGeneric = part.Routine ∷ []

abbrev pub fallible_tail : FallibleShape → Tail
fallible_tail (shapes.Obtain source) = last.Nothing
fallible_tail (shapes.Set anchor) = last.OtherOld
fallible_tail (shapes.Delete anchor) = last.Old
fallible_tail (shapes.Queue queued.Insert) = last.With
fallible_tail (shapes.Queue queued.RemoveNext) = last.Nothing
fallible_tail shapes.QueueDeferred = last.With
fallible_tail shapes.QueueGeneric = last.With

-- whether the word is known only where there is a queue
abbrev pub needs_queue : FallibleShape → Bool
needs_queue (shapes.Queue call) = true
needs_queue _ = false

-- the same in a text, which has a queue or not
abbrev pub is_known : Bool → FallibleShape → Bool
is_known queue s = not (needs_queue s) || queue

abbrev pub fallible_of : FallibleShape → Operands → FallibleCall Routine
fallible_of (shapes.Obtain source) x = obtaining source x.context
fallible_of (shapes.Set anchor) x = fallible.SetContext anchor x.existing x.context x.optional
fallible_of (shapes.Delete anchor) x = fallible.DeleteContextOf anchor x.optional
fallible_of (shapes.Queue queued.Insert) x = fallible.InsertIo x.optional
fallible_of (shapes.Queue queued.RemoveNext) x = fallible.RemoveNextIo x.removed x.context
fallible_of shapes.QueueDeferred x = fallible.QueueDeferredIoWorkItem x.routine x.optional
fallible_of shapes.QueueGeneric x = fallible.QueueGenericWorkItem x.routine x.optional

-- ---- the calls that always succeed

-- End: C
-- Reference: C "as" C
-- Lock: NAME
-- CompletePre: D status
-- CompletePost: "data"
abbrev pub plain_slots : PlainShape → List Slot
plain_slots (plain_shapes.End how) = part.Context ∷ []
plain_slots plain_shapes.Reference = part.Context ∷ part.As ∷ part.Other ∷ []
plain_slots (plain_shapes.Lock call) = part.Lock (lock_kind call) ∷ []
plain_slots plain_shapes.CompletePre = part.Operation ∷ []
plain_slots plain_shapes.CompletePost = part.Data ∷ []

abbrev pub plain_tail : PlainShape → Tail
plain_tail plain_shapes.CompletePre = last.Status
plain_tail _ = last.Nothing

abbrev pub plain_of : PlainShape → Operands → PlainCall
plain_of (plain_shapes.End how) x = ending how x.context
plain_of plain_shapes.Reference x = plain.ReferenceContext x.context x.other
plain_of (plain_shapes.Lock call) x = locking call x.lock
plain_of plain_shapes.CompletePre x = plain.CompletePendedPreOperation x.operation x.status
plain_of plain_shapes.CompletePost x = plain.CompletePendedPostOperation

-- ---- words

-- the slots of a shape, if there is one
abbrev pub slots_by : Option FallibleShape → Option PlainShape → List Slot
slots_by (Some s) p = fallible_slots s
slots_by None (Some s) = plain_slots s
slots_by None None = []

-- the slots behind a word, if it is the word of a call
abbrev pub slots_of : Kind → List Slot
slots_of kind = slots_by (fallible_shape_of kind) (plain_shape_of kind)
