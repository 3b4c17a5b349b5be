-- The shapes of calls and their operands: a call is written as it is read, by the slots of its shape.
use Rattle.std.specs.Prelude.{List, [], Option, None}
use Rattle.flt_rules.specs.declared.call.Existing.{Existing}
use Rattle.flt_rules.specs.declared.call.Existing.TheVariants.{Keep}
use Rattle.flt_tree.specs.Declarations.{lock_name}
use Rattle.flt_tree.specs.Names.{Text}
use Rattle.flt_print.specs.declared.operands.Operands as declared
use Rattle.flt_syntax.specs.declared.shape.ContextEnd.TheVariants as ends
use Rattle.flt_syntax.specs.declared.shape.ContextSource.TheVariants as sources
use Rattle.flt_syntax.specs.declared.shape.FallibleShape.{FallibleShape}
use Rattle.flt_syntax.specs.declared.shape.FallibleShape.TheVariants as shapes
use Rattle.flt_syntax.specs.declared.shape.LockCall.TheVariants as does
use Rattle.flt_syntax.specs.declared.shape.PlainShape.{PlainShape}
use Rattle.flt_syntax.specs.declared.shape.PlainShape.TheVariants as plain_shapes
use Rattle.flt_syntax.specs.declared.shape.QueueCall.TheVariants as queued
use Rattle.flt_tree.specs.declared.filter.FallibleCall.{FallibleCall}
use Rattle.flt_tree.specs.declared.filter.FallibleCall.TheVariants as fallible
use Rattle.flt_tree.specs.declared.filter.Lock.{Lock}
use Rattle.flt_tree.specs.declared.filter.PlainCall.{PlainCall}
use Rattle.flt_tree.specs.declared.filter.PlainCall.TheVariants as plain
use Rattle.flt_tree.specs.declared.filter.Routine.{Routine}
use Rattle.flt_tree.specs.declared.filter.Status.{Status}
use Rattle.flt_tree.specs.declared.filter.Status.TheVariants.{NoCallback}
use Rattle.flt_tree.specs.declared.variable.ContextVariable.{ContextVariable}
use Rattle.flt_tree.specs.declared.variable.ContextVariable.TheVariants.{C0}
use Rattle.flt_tree.specs.declared.variable.OperationVariable.{OperationVariable}
use Rattle.flt_tree.specs.declared.variable.OperationVariable.TheVariants.{Data}
use Rattle.flt_tree.specs.declared.variable.RemovedVariable.{RemovedVariable}
use Rattle.flt_tree.specs.declared.variable.RemovedVariable.TheVariants.{O0}

-- the operands of a call, with the name of its routine or of its lock
pub record Operands : Type 0 where
  pub operation : OperationVariable
  pub removed : RemovedVariable
  pub existing : Existing
  pub context : ContextVariable
  pub other : ContextVariable
  pub optional : Option ContextVariable
  pub name : Text
  pub status : Status

abbrev pub operands_of : declared.Operands → Operands
operands_of x = record {
  operation = x.operation;
  removed = x.removed;
  existing = x.existing;
  context = x.context;
  other = x.other;
  optional = x.optional;
  name = x.name.now;
  status = x.status;
}

-- before the first slot
abbrev pub unfilled : Operands
unfilled = record {
  operation = Data;
  removed = O0;
  existing = Keep;
  context = C0;
  other = C0;
  optional = None;
  name = [];
  status = NoCallback;
}

-- ---- calls that can fail

abbrev pub fallible_shape : FallibleCall Routine → FallibleShape
fallible_shape (fallible.AllocateContext c) = shapes.Obtain sources.Allocate
fallible_shape (fallible.GetContext anchor c) = shapes.Obtain (sources.Get anchor)
fallible_shape (fallible.SetContext anchor existing c old) = shapes.Set anchor
fallible_shape (fallible.DeleteContextOf anchor old) = shapes.Delete anchor
fallible_shape (fallible.InsertIo c) = shapes.Queue queued.Insert
fallible_shape (fallible.RemoveNextIo o c) = shapes.Queue queued.RemoveNext
fallible_shape (fallible.QueueDeferredIoWorkItem r c) = shapes.QueueDeferred
fallible_shape (fallible.QueueGenericWorkItem r c) = shapes.QueueGeneric

abbrev pub fallible_operands : FallibleCall Routine → Operands
fallible_operands (fallible.AllocateContext c) = record unfilled { context = c }
fallible_operands (fallible.GetContext anchor c) = record unfilled { context = c }
fallible_operands (fallible.SetContext anchor e c old) = record unfilled { existing = e; context = c; optional = old }
fallible_operands (fallible.DeleteContextOf anchor old) = record unfilled { optional = old }
fallible_operands (fallible.InsertIo c) = record unfilled { optional = c }
fallible_operands (fallible.RemoveNextIo o c) = record unfilled { removed = o; context = c }
fallible_operands (fallible.QueueDeferredIoWorkItem r c) = record unfilled { name = r.name; optional = c }
fallible_operands (fallible.QueueGenericWorkItem r c) = record unfilled { name = r.name; optional = c }

-- ---- calls that always succeed

abbrev pub plain_shape : PlainCall → PlainShape
plain_shape (plain.DeleteContext c) = plain_shapes.End ends.Delete
plain_shape (plain.ReferenceContext c d) = plain_shapes.Reference
plain_shape (plain.ReleaseContext c) = plain_shapes.End ends.Release
plain_shape (plain.AcquireLock kind l) = plain_shapes.Lock (does.Acquire kind)
plain_shape (plain.AcquirePushLockShared l) = plain_shapes.Lock does.AcquireShared
plain_shape (plain.ReleaseLock kind l) = plain_shapes.Lock (does.Release kind)
plain_shape (plain.CompletePendedPreOperation d s) = plain_shapes.CompletePre
plain_shape plain.CompletePendedPostOperation = plain_shapes.CompletePost

abbrev pub plain_operands : List Lock → PlainCall → Operands
plain_operands locks (plain.DeleteContext c) = record unfilled { context = c }
plain_operands locks (plain.ReferenceContext c d) = record unfilled { context = c; other = d }
plain_operands locks (plain.ReleaseContext c) = record unfilled { context = c }
plain_operands locks (plain.AcquireLock kind l) = record unfilled { name = lock_name locks l }
plain_operands locks (plain.AcquirePushLockShared l) = record unfilled { name = lock_name locks l }
plain_operands locks (plain.ReleaseLock kind l) = record unfilled { name = lock_name locks l }
plain_operands locks (plain.CompletePendedPreOperation d s) = record unfilled { operation = d; status = s }
plain_operands locks plain.CompletePendedPostOperation = unfilled
