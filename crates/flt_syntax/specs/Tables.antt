-- What the words of the grammar stand for.
use Rattle.std.specs.Prelude.{Option, Some, None}
use Rattle.flt_rules.specs.declared.call.Anchor.TheVariants.{Stream, Instance}
use Rattle.flt_rules.specs.declared.call.Existing.{Existing}
use Rattle.flt_rules.specs.declared.call.Existing.TheVariants as kept
use Rattle.flt_rules.specs.declared.call.LockKind.{LockKind}
use Rattle.flt_rules.specs.declared.call.LockKind.TheVariants as locked
use Rattle.flt_rules.specs.declared.status.FinalStatus.{FinalStatus}
use Rattle.flt_rules.specs.declared.status.FinalStatus.TheVariants as finals
use Rattle.flt_tree.specs.declared.filter.Status.{Status}
use Rattle.flt_tree.specs.declared.filter.Status.TheVariants as statuses
use Rattle.flt_syntax.specs.declared.shape.ContextEnd.TheVariants as ends
use Rattle.flt_syntax.specs.declared.shape.ContextSource.TheVariants as sources
use Rattle.flt_syntax.specs.declared.shape.FallibleShape.{FallibleShape}
use Rattle.flt_syntax.specs.declared.shape.FallibleShape.TheVariants as fallible
use Rattle.flt_syntax.specs.declared.shape.LockCall.TheVariants as does
use Rattle.flt_syntax.specs.declared.shape.PlainShape.{PlainShape}
use Rattle.flt_syntax.specs.declared.shape.PlainShape.TheVariants as plain
use Rattle.flt_syntax.specs.declared.shape.QueueCall.TheVariants as queued
use Rattle.flt_syntax.specs.declared.token.Kind.{Kind}
use Rattle.flt_syntax.specs.declared.token.Kind.TheVariants as k
use Rattle.flt_tree.specs.declared.variable.ContextVariable.{ContextVariable}
use Rattle.flt_tree.specs.declared.variable.ContextVariable.TheVariants as contexts
use Rattle.flt_tree.specs.declared.variable.NumberVariable.{NumberVariable}
use Rattle.flt_tree.specs.declared.variable.NumberVariable.TheVariants as numbers
use Rattle.flt_tree.specs.declared.variable.OperationVariable.{OperationVariable}
use Rattle.flt_tree.specs.declared.variable.OperationVariable.TheVariants as operations
use Rattle.flt_tree.specs.declared.variable.RemovedVariable.{RemovedVariable}
use Rattle.flt_tree.specs.declared.variable.RemovedVariable.TheVariants as removed

-- N: the variable that a word is
abbrev pub number_variable_of : Kind → Option NumberVariable
number_variable_of k.N0 = Some numbers.N0
number_variable_of k.N1 = Some numbers.N1
number_variable_of k.N2 = Some numbers.N2
number_variable_of k.N3 = Some numbers.N3
number_variable_of k.N4 = Some numbers.N4
number_variable_of k.N5 = Some numbers.N5
number_variable_of k.N6 = Some numbers.N6
number_variable_of k.N7 = Some numbers.N7
number_variable_of _ = None

-- C
abbrev pub context_variable_of : Kind → Option ContextVariable
context_variable_of k.C0 = Some contexts.C0
context_variable_of k.C1 = Some contexts.C1
context_variable_of k.C2 = Some contexts.C2
context_variable_of k.C3 = Some contexts.C3
context_variable_of k.C4 = Some contexts.C4
context_variable_of k.C5 = Some contexts.C5
context_variable_of k.C6 = Some contexts.C6
context_variable_of k.C7 = Some contexts.C7
context_variable_of k.Arg = Some contexts.Arg
context_variable_of _ = None

-- O
abbrev pub removed_variable_of : Kind → Option RemovedVariable
removed_variable_of k.O0 = Some removed.O0
removed_variable_of k.O1 = Some removed.O1
removed_variable_of k.O2 = Some removed.O2
removed_variable_of k.O3 = Some removed.O3
removed_variable_of _ = None

-- D
abbrev pub operation_variable_of : Kind → Option OperationVariable
operation_variable_of k.O0 = Some (operations.Removed removed.O0)
operation_variable_of k.O1 = Some (operations.Removed removed.O1)
operation_variable_of k.O2 = Some (operations.Removed removed.O2)
operation_variable_of k.O3 = Some (operations.Removed removed.O3)
operation_variable_of k.Data = Some operations.Data
operation_variable_of _ = None

-- S: the final status that a word is
abbrev pub final_status_of : Kind → Option FinalStatus
final_status_of k.StatusSuccess = Some finals.Success
final_status_of k.StatusAccessDenied = Some finals.AccessDenied
final_status_of k.StatusCancelled = Some finals.Cancelled
final_status_of k.StatusInsufficientResources = Some finals.InsufficientResources
final_status_of k.StatusInvalidParameter = Some finals.InvalidParameter
final_status_of k.StatusPending = Some finals.Pending
final_status_of _ = None

-- the status that is one word
abbrev pub bare_status_of : Kind → Option Status
bare_status_of k.NoCallback = Some statuses.NoCallback
bare_status_of k.Pending = Some statuses.Pending
bare_status_of k.DisallowFastIo = Some statuses.DisallowFastIo
bare_status_of k.FinishedProcessing = Some statuses.FinishedProcessing
bare_status_of k.MoreProcessingRequired = Some statuses.MoreProcessingRequired
bare_status_of _ = None

-- what a set does where a context is there already, by its word
abbrev pub existing_of : Kind → Option Existing
existing_of k.KeepIfExists = Some kept.Keep
existing_of k.ReplaceIfExists = Some kept.Replace
existing_of _ = None

-- the kind of lock that a word is
abbrev pub lock_kind_of : Kind → Option LockKind
lock_kind_of k.Spin = Some locked.Spin
lock_kind_of k.Fast = Some locked.Fast
lock_kind_of k.Push = Some locked.Push
lock_kind_of _ = None

-- the shape of a call that can fail, by its word
abbrev pub fallible_shape_of : Kind → Option FallibleShape
fallible_shape_of k.AllocateContext = Some (fallible.Obtain sources.Allocate)
fallible_shape_of k.GetStreamContext = Some (fallible.Obtain (sources.Get Stream))
fallible_shape_of k.GetInstanceContext = Some (fallible.Obtain (sources.Get Instance))
fallible_shape_of k.SetStreamContext = Some (fallible.Set Stream)
fallible_shape_of k.SetInstanceContext = Some (fallible.Set Instance)
fallible_shape_of k.DeleteStreamContext = Some (fallible.Delete Stream)
fallible_shape_of k.DeleteInstanceContext = Some (fallible.Delete Instance)
fallible_shape_of k.InsertIo = Some (fallible.Queue queued.Insert)
fallible_shape_of k.RemoveNextIo = Some (fallible.Queue queued.RemoveNext)
fallible_shape_of k.QueueDeferredIoWorkItem = Some fallible.QueueDeferred
fallible_shape_of k.QueueGenericWorkItem = Some fallible.QueueGeneric
fallible_shape_of _ = None

-- the shape of a call that always succeeds, by its word
abbrev pub plain_shape_of : Kind → Option PlainShape
plain_shape_of k.DeleteContext = Some (plain.End ends.Delete)
plain_shape_of k.ReferenceContext = Some plain.Reference
plain_shape_of k.ReleaseContext = Some (plain.End ends.Release)
plain_shape_of k.AcquireSpinLock = Some (plain.Lock (does.Acquire locked.Spin))
plain_shape_of k.ReleaseSpinLock = Some (plain.Lock (does.Release locked.Spin))
plain_shape_of k.AcquireFastMutex = Some (plain.Lock (does.Acquire locked.Fast))
plain_shape_of k.ReleaseFastMutex = Some (plain.Lock (does.Release locked.Fast))
plain_shape_of k.AcquirePushLock = Some (plain.Lock (does.Acquire locked.Push))
plain_shape_of k.AcquirePushLockShared = Some (plain.Lock does.AcquireShared)
plain_shape_of k.ReleasePushLock = Some (plain.Lock (does.Release locked.Push))
plain_shape_of k.CompletePendedPreOperation = Some plain.CompletePre
plain_shape_of k.CompletePendedPostOperation = Some plain.CompletePost
plain_shape_of _ = None
