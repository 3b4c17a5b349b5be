-- The words of the language, each with the kind of token that it is. Any other word can only be a name.
-- Routines, statuses and constants are spelled as the driver kit spells them; a status drops FLT_PREOP_, FLT_PREOP_SUCCESS_
-- or FLT_POSTOP_, and what a set does drops FLT_SET_CONTEXT_. The other words are this project's own.
use Rattle.std.specs.Prelude.{List, [], ◌∷◌, ◌++◌, codes, map}
use Rattle.flt_rules.specs.Place.{all_operations, operation_name}
use Rattle.flt_rules.specs.declared.place.Operation.{Operation}
use Rattle.flt_tree.specs.Names.{Text}
use Rattle.flt_syntax.specs.Operations.{operation_kind}
use Rattle.flt_syntax.specs.declared.token.Kind.{Kind}
use Rattle.flt_syntax.specs.declared.token.Kind.TheVariants as k

-- a filter, its altitude, the kinds of lock, and its queue
abbrev pub filter_vocabulary : List (Text × Kind)
filter_vocabulary =
    (codes "filter", k.Filter) ∷
    (codes "altitude", k.Altitude) ∷
    (codes "lock", k.Lock) ∷
    (codes "spin", k.Spin) ∷
    (codes "fast", k.Fast) ∷
    (codes "push", k.Push) ∷
    (codes "queue", k.Queue) ∷ []

-- what a callback is registered for
abbrev pub callback_vocabulary : List (Text × Kind)
callback_vocabulary =
    (codes "pre", k.Pre) ∷
    (codes "post", k.Post) ∷
    (codes "canceled", k.Canceled) ∷
    (codes "deferred_pre", k.DeferredPre) ∷
    (codes "deferred_post", k.DeferredPost) ∷
    (codes "generic", k.Generic) ∷ []

-- the operations, each by its name
abbrev pub operation_vocabulary : List (Text × Kind)
operation_vocabulary = map (λ (kind : Operation). (operation_name kind, operation_kind kind)) all_operations

-- what statements say and test; `data` is the given operation
abbrev pub statement_vocabulary : List (Text × Kind)
statement_vocabulary =
    (codes "value", k.Value) ∷
    (codes "file", k.File) ∷
    (codes "NULL", k.Null) ∷
    (codes "if", k.If) ∷
    (codes "else", k.Else) ∷
    (codes "repeat", k.Repeat) ∷
    (codes "return", k.Return) ∷
    (codes "irp", k.Irp) ∷
    (codes "data", k.Data) ∷
    (codes "draining", k.Draining) ∷ []

-- what a callback returns (FLT_PREOP_CALLBACK_STATUS, FLT_POSTOP_CALLBACK_STATUS), and the word before a context that is handed on
abbrev pub status_vocabulary : List (Text × Kind)
status_vocabulary =
    (codes "context", k.Context) ∷
    (codes "WITH_CALLBACK", k.WithCallback) ∷
    (codes "SYNCHRONIZE", k.Synchronize) ∷
    (codes "NO_CALLBACK", k.NoCallback) ∷
    (codes "PENDING", k.Pending) ∷
    (codes "DISALLOW_FASTIO", k.DisallowFastIo) ∷
    (codes "COMPLETE", k.Complete) ∷
    (codes "FINISHED_PROCESSING", k.FinishedProcessing) ∷
    (codes "MORE_PROCESSING_REQUIRED", k.MoreProcessingRequired) ∷ []

-- the final status of an operation (NTSTATUS)
abbrev pub final_status_vocabulary : List (Text × Kind)
final_status_vocabulary =
    (codes "STATUS_SUCCESS", k.StatusSuccess) ∷
    (codes "STATUS_ACCESS_DENIED", k.StatusAccessDenied) ∷
    (codes "STATUS_CANCELLED", k.StatusCancelled) ∷
    (codes "STATUS_INSUFFICIENT_RESOURCES", k.StatusInsufficientResources) ∷
    (codes "STATUS_INVALID_PARAMETER", k.StatusInvalidParameter) ∷
    (codes "STATUS_PENDING", k.StatusPending) ∷ []

-- the routines that can fail, what a set does where a context is there (FLT_SET_CONTEXT_OPERATION), and the word before the old context
abbrev pub fallible_call_vocabulary : List (Text × Kind)
fallible_call_vocabulary =
    (codes "FltAllocateContext", k.AllocateContext) ∷
    (codes "FltGetStreamContext", k.GetStreamContext) ∷
    (codes "FltGetInstanceContext", k.GetInstanceContext) ∷
    (codes "FltSetStreamContext", k.SetStreamContext) ∷
    (codes "FltSetInstanceContext", k.SetInstanceContext) ∷
    (codes "KEEP_IF_EXISTS", k.KeepIfExists) ∷
    (codes "REPLACE_IF_EXISTS", k.ReplaceIfExists) ∷
    (codes "old", k.Old) ∷
    (codes "FltDeleteStreamContext", k.DeleteStreamContext) ∷
    (codes "FltDeleteInstanceContext", k.DeleteInstanceContext) ∷
    (codes "FltCbdqInsertIo", k.InsertIo) ∷
    (codes "FltCbdqRemoveNextIo", k.RemoveNextIo) ∷
    (codes "FltQueueDeferredIoWorkItem", k.QueueDeferredIoWorkItem) ∷
    (codes "FltQueueGenericWorkItem", k.QueueGenericWorkItem) ∷ []

-- the routines that always succeed, and the word before a copy of a reference
abbrev pub plain_call_vocabulary : List (Text × Kind)
plain_call_vocabulary =
    (codes "FltDeleteContext", k.DeleteContext) ∷
    (codes "FltReferenceContext", k.ReferenceContext) ∷
    (codes "as", k.As) ∷
    (codes "FltReleaseContext", k.ReleaseContext) ∷
    (codes "KeAcquireSpinLock", k.AcquireSpinLock) ∷
    (codes "KeReleaseSpinLock", k.ReleaseSpinLock) ∷
    (codes "ExAcquireFastMutex", k.AcquireFastMutex) ∷
    (codes "ExReleaseFastMutex", k.ReleaseFastMutex) ∷
    (codes "FltAcquirePushLockExclusive", k.AcquirePushLock) ∷
    (codes "FltAcquirePushLockShared", k.AcquirePushLockShared) ∷
    (codes "FltReleasePushLock", k.ReleasePushLock) ∷
    (codes "FltCompletePendedPreOperation", k.CompletePendedPreOperation) ∷
    (codes "FltCompletePendedPostOperation", k.CompletePendedPostOperation) ∷ []

-- the variables: numbers, contexts (`arg` is the given one), and operations that were removed from the queue
abbrev pub variable_vocabulary : List (Text × Kind)
variable_vocabulary =
    (codes "n0", k.N0) ∷
    (codes "n1", k.N1) ∷
    (codes "n2", k.N2) ∷
    (codes "n3", k.N3) ∷
    (codes "n4", k.N4) ∷
    (codes "n5", k.N5) ∷
    (codes "n6", k.N6) ∷
    (codes "n7", k.N7) ∷
    (codes "c0", k.C0) ∷
    (codes "c1", k.C1) ∷
    (codes "c2", k.C2) ∷
    (codes "c3", k.C3) ∷
    (codes "c4", k.C4) ∷
    (codes "c5", k.C5) ∷
    (codes "c6", k.C6) ∷
    (codes "c7", k.C7) ∷
    (codes "arg", k.Arg) ∷
    (codes "o0", k.O0) ∷
    (codes "o1", k.O1) ∷
    (codes "o2", k.O2) ∷
    (codes "o3", k.O3) ∷ []

-- all of them
abbrev pub vocabulary : List (Text × Kind)
vocabulary =
    filter_vocabulary ++ callback_vocabulary ++ operation_vocabulary ++ statement_vocabulary ++ status_vocabulary
    ++ final_status_vocabulary ++ fallible_call_vocabulary ++ plain_call_vocabulary ++ variable_vocabulary
