-- Words that name what the language leaves out, and what to write in its place. The driver kit's names; the list is this project's own.
use Rattle.std.specs.Prelude.{Bool, false, not, ◌&&◌, nat_eq, List, [], ◌∷◌, ◌++◌, Option, Some, None, codes, if◌then◌else◌, is_some, map}
use Rattle.std.specs.List.{list_any, starts_with}
use Rattle.std.specs.Option.{option_or}
use Rattle.flt_rules.specs.Place.{all_named, all_operations, operation_name}
use Rattle.flt_rules.specs.declared.place.Operation.{Operation}
use Rattle.flt_syntax.specs.declared.fault.FaultKind.{FaultKind}
use Rattle.flt_syntax.specs.declared.fault.FaultKind.TheVariants.{E03}
use Rattle.flt_tree.specs.Names.{Text}
use Rattle.flt_explain_hints.specs.declared.absences.Absence.{Absence}
use Rattle.flt_explain_hints.specs.declared.absences.Absence.TheVariants as absence

-- ---- the words

-- words that begin with one of these name the same
abbrev pub all_say : Absence → List Text → List (Text × Absence)
all_say said = map (λ beginning. (beginning, said))

-- of contexts of other things than streams and instances
unfoldable pub contexts : List (Text × Absence)
contexts =
    all_say absence.StreamHandleContext (codes "FltGetStreamH" ∷ codes "FltSetStreamH" ∷ codes "FltDeleteStreamH" ∷ [])
    ++ all_say absence.FileContext (codes "FltGetFileContext" ∷ codes "FltSetFileContext" ∷ codes "FltDeleteFileContext" ∷ [])
    ++ all_say absence.VolumeContext (codes "FltGetVolumeContext" ∷ codes "FltSetVolumeContext" ∷ codes "FltDeleteVolumeContext" ∷ [])
    ++ all_say absence.TransactionContext
    (codes "FltGetTransactionContext" ∷ codes "FltSetTransactionContext" ∷ codes "FltDeleteTransactionContext" ∷
    codes "FltEnlistInTransaction" ∷ [])
    ++ all_say absence.SectionContext
    (codes "FltGetSectionContext" ∷ codes "FltRegisterForDataScan" ∷ codes "FltCreateSectionForDataScan" ∷
    codes "FltCloseSectionForDataScan" ∷ [])
    ++ all_say absence.SeveralContexts (codes "FltGetContexts" ∷ codes "FltReleaseContexts" ∷ [])
    ++ all_say absence.ContextSupport (codes "FltSupports" ∷ [])

-- of other operations, and what is tested of them
unfoldable pub operations : List (Text × Absence)
operations =
    all_say absence.Operation
    (codes "close" ∷ codes "query_" ∷ codes "set_" ∷ codes "create_named_pipe" ∷ codes "create_mailslot" ∷ codes "flush_buffers" ∷
    codes "directory_control" ∷ codes "file_system_control" ∷ codes "device_control" ∷ codes "internal_device_control" ∷
    codes "lock_control" ∷ codes "shutdown" ∷ codes "power" ∷ codes "system_control" ∷ codes "pnp" ∷ codes "acquire_for_" ∷
    codes "release_for_" ∷ codes "network_query_open" ∷ codes "volume_mount" ∷ codes "volume_dismount" ∷ [])
    ++ all_say absence.FilterOperation
    (codes "FLT_IS_FS_FILTER_OPERATION" ∷ codes "FLT_PREOP_DISALLOW_FSFILTER_IO" ∷ codes "FLT_POSTOP_DISALLOW_FSFILTER_IO" ∷
    codes "DISALLOW_FSFILTER_IO" ∷ [])
    ++ all_say absence.IrpTest (codes "FLT_IS_IRP_OPERATION" ∷ [])
    ++ all_say absence.FastIoTest (codes "FLT_IS_FASTIO_OPERATION" ∷ [])
    ++ all_say absence.DrainingTest (codes "FLTFL_POST_OPERATION_DRAINING" ∷ [])
    ++ all_say absence.OperationTest (codes "FLT_IS_" ∷ codes "FlagOn" ∷ codes "FltIsOperationSynchronous" ∷ [])
    ++ all_say absence.WhenSafe (codes "FltDoCompletionProcessingWhenSafe" ∷ [])

-- of waits, the level, and locks before their use
unfoldable pub waits : List (Text × Absence)
waits =
    all_say absence.Wait
    (codes "KeWaitFor" ∷ codes "KeInitializeEvent" ∷ codes "KeSetEvent" ∷ codes "KeClearEvent" ∷ codes "KeResetEvent" ∷
    codes "KeDelayExecutionThread" ∷ codes "KeInitializeTimer" ∷ codes "KeSetTimer" ∷ codes "FltCancellableWaitFor" ∷ codes "event" ∷
    codes "semaphore" ∷ codes "timer" ∷ [])
    ++ all_say absence.LockSetup
    (codes "KeInitializeSpinLock" ∷ codes "ExInitializeFastMutex" ∷ codes "FltInitializePushLock" ∷ codes "FltDeletePushLock" ∷ [])
    ++ all_say absence.Level
    (codes "KeGetCurrentIrql" ∷ codes "KeRaiseIrql" ∷ codes "KeLowerIrql" ∷ codes "KeEnterCriticalRegion" ∷
    codes "KeLeaveCriticalRegion" ∷ codes "FsRtlEnterFileSystem" ∷ codes "FsRtlExitFileSystem" ∷ codes "PAGED_CODE" ∷ [])
    ++ all_say absence.Interlocked (codes "Interlocked" ∷ [])

-- of other locks
unfoldable pub locks : List (Text × Absence)
locks =
    all_say absence.Resource
    (codes "ExAcquireResource" ∷ codes "ExReleaseResource" ∷ codes "ExInitializeResource" ∷ codes "ExDeleteResource" ∷
    codes "ExAcquireShared" ∷ codes "FltAcquireResource" ∷ codes "FltReleaseResource" ∷ codes "resource" ∷ codes "ERESOURCE" ∷ [])
    ++ all_say absence.SpinLock
    (codes "KeAcquireSpinLockAtDpcLevel" ∷ codes "KeReleaseSpinLockFromDpcLevel" ∷ codes "KeAcquireSpinLockRaiseToDpc" ∷
    codes "KeAcquireSpinLockForDpc" ∷ codes "KeReleaseSpinLockForDpc" ∷ codes "KeAcquireInStackQueuedSpinLock" ∷
    codes "KeReleaseInStackQueuedSpinLock" ∷ codes "KeAcquireQueuedSpinLock" ∷ codes "KeReleaseQueuedSpinLock" ∷
    codes "KeTryToAcquireSpinLock" ∷ codes "ExAcquireSpinLock" ∷ codes "ExReleaseSpinLock" ∷ [])
    ++ all_say absence.FastMutex
    (codes "ExAcquireFastMutexUnsafe" ∷ codes "ExReleaseFastMutexUnsafe" ∷ codes "ExTryToAcquireFastMutex" ∷
    codes "KeAcquireGuardedMutex" ∷ codes "KeReleaseGuardedMutex" ∷ codes "mutex" ∷ codes "KMUTEX" ∷ codes "KGUARDED_MUTEX" ∷ [])
    ++ all_say absence.LockKind (codes "KSPIN_LOCK" ∷ codes "FAST_MUTEX" ∷ codes "EX_PUSH_LOCK" ∷ [])

-- of the queue, cancels, work items and operations of the filter's own
unfoldable pub queueing : List (Text × Absence)
queueing =
    all_say absence.QueueSetup (codes "FltCbdqInitialize" ∷ [])
    ++ all_say absence.QueueState (codes "FltCbdqEnable" ∷ codes "FltCbdqDisable" ∷ [])
    ++ all_say absence.RemoveIo (codes "FltCbdqRemoveIo" ∷ [])
    ++ all_say absence.CancelRoutine
    (codes "FltSetCancelCompletion" ∷ codes "FltClearCancelCompletion" ∷ codes "FltCancelIo" ∷ codes "IoSetCancelRoutine" ∷ [])
    ++ all_say absence.CancelOpen (codes "FltCancelFileOpen" ∷ [])
    ++ all_say absence.WorkItem
    (codes "FltAllocateDeferredIoWorkItem" ∷ codes "FltFreeDeferredIoWorkItem" ∷ codes "FltAllocateGenericWorkItem" ∷
    codes "FltFreeGenericWorkItem" ∷ codes "IoAllocateWorkItem" ∷ codes "IoQueueWorkItem" ∷ codes "IoFreeWorkItem" ∷ [])
    ++ all_say absence.OwnOperation
    (codes "FltAllocateCallbackData" ∷ codes "FltFreeCallbackData" ∷ codes "FltReuseCallbackData" ∷ codes "FltPerformSynchronousIo" ∷
    codes "FltPerformAsynchronousIo" ∷ codes "FltReissueSynchronousIo" ∷ codes "FltCreateFile" ∷ codes "FltReadFile" ∷
    codes "FltWriteFile" ∷ codes "FltQueryInformationFile" ∷ codes "FltSetInformationFile" ∷ codes "FltFsControlFile" ∷ codes "Zw" ∷
    [])

-- of what operations carry
unfoldable pub contents : List (Text × Absence)
contents =
    all_say absence.FileName
    (codes "FltGetFileNameInformation" ∷ codes "FltReleaseFileNameInformation" ∷ codes "FltReferenceFileNameInformation" ∷
    codes "FltParseFileName" ∷ codes "FltGetDestinationFileNameInformation" ∷ codes "FltGetTunneledName" ∷
    codes "FsRtlIsNameInExpression" ∷ codes "RtlCompareUnicodeString" ∷ codes "RtlEqualUnicodeString" ∷
    codes "RtlInitUnicodeString" ∷ [])
    ++ all_say absence.FinalStatus (codes "STATUS_INVALID_PARAMETER_" ∷ codes "STATUS_INSUFF_SERVER_RESOURCES" ∷ [])
    ++ all_say absence.Change (codes "FltSetCallbackDataDirty" ∷ codes "FltClearCallbackDataDirty" ∷ codes "FltIsCallbackDataDirty" ∷ [])
    ++ all_say absence.Memory
    (codes "ExAllocatePool" ∷ codes "ExFreePool" ∷ codes "ExAllocateFrom" ∷ codes "ExFreeTo" ∷ codes "FltAllocatePoolAligned" ∷
    codes "FltFreePoolAligned" ∷ codes "FltLockUserBuffer" ∷ codes "FltDecodeParameters" ∷ codes "FltGetSwappedBufferMdl" ∷
    codes "MmGetSystemAddressForMdl" ∷ codes "RtlCopyMemory" ∷ codes "RtlZeroMemory" ∷ [])

-- of what a driver has beside its callbacks
unfoldable pub surroundings : List (Text × Absence)
surroundings =
    all_say absence.Port
    (codes "FltCreateCommunicationPort" ∷ codes "FltCloseCommunicationPort" ∷ codes "FltCloseClientPort" ∷ codes "FltSendMessage" ∷
    [])
    ++ all_say absence.Registration
    (codes "FltRegisterFilter" ∷ codes "FltStartFiltering" ∷ codes "FltUnregisterFilter" ∷ codes "FLT_REGISTRATION" ∷
    codes "FLT_OPERATION_REGISTRATION" ∷ [])
    ++ all_say absence.Object
    (codes "FltObjectReference" ∷ codes "FltObjectDereference" ∷ codes "ObReferenceObject" ∷ codes "ObDereferenceObject" ∷
    codes "FltGetVolumeFromInstance" ∷ codes "FltGetVolumeProperties" ∷ codes "FltGetRequestorProcess" ∷
    codes "PsGetCurrentProcess" ∷ [])
    ++ all_say absence.Trace
    (codes "DbgPrint" ∷ codes "KdPrint" ∷ codes "ASSERT" ∷ codes "FLT_ASSERT" ∷ codes "NT_ASSERT" ∷ codes "UNREFERENCED_PARAMETER" ∷
    [])
    ++ all_say absence.Declaration
    (codes "PFLT_" ∷ codes "NTSTATUS" ∷ codes "ULONG" ∷ codes "PVOID" ∷ codes "BOOLEAN" ∷ codes "KIRQL" ∷ [])

-- whether the name of an operation that the language has begins so
abbrev pub begins_operation : Text → Bool
begins_operation beginning = list_any (λ (kind : Operation). starts_with nat_eq (operation_name kind) beginning) all_operations

-- what the first of some beginnings names with which a word begins; one with which an operation's name begins names nothing
abbrev pub named_among : List (Text × Absence) → Text → Option Absence
named_among [] word = None
named_among (e ∷ es) word =
    if starts_with nat_eq word e.0 && not (begins_operation e.0) then Some e.1 else named_among es word

-- what the language leaves out, if a word names it
unfoldable pub absence_of : Text → Option Absence
absence_of word =
    option_or (named_among contexts word) (option_or (named_among operations word) (option_or (named_among waits word)
    (option_or (named_among locks word) (option_or (named_among queueing word) (option_or (named_among contents word)
    (named_among surroundings word))))))

-- whether it is for that that a word is refused: an unknown name is a name of the text's own
unfoldable pub is_left_out : FaultKind → Text → Bool
is_left_out E03 word = is_some (absence_of word)
is_left_out _ word = false

-- ---- what is said of them

-- that the language has no such thing, and what to write instead
abbrev pub sentence : Absence → Text
sentence absence.StreamHandleContext =
    codes "there are no stream handle contexts: a stream context does instead, but all handles of the stream share it"
sentence absence.FileContext = codes "there are no file contexts: a stream context does instead, but each stream of the file has its own"
sentence absence.VolumeContext =
    codes "there are no volume contexts: an instance context does instead, since an instance is attached to one volume"
sentence absence.TransactionContext = codes "there are no transactions: keep in an instance context what outlives an operation"
sentence absence.SectionContext = codes "there are no sections and no data scans: leave their contexts out"
sentence absence.SeveralContexts =
    codes "contexts are got and released one at a time, as by `FltGetStreamContext` and `FltReleaseContext`"
sentence absence.ContextSupport = codes "each stream and instance can have a context: leave this test out"
sentence absence.Operation = codes "the only operations are "
sentence absence.FilterOperation = codes "there are no file system filter operations and no status for them: leave their callbacks out"
sentence absence.IrpTest = codes "this test is written `irp data`"
sentence absence.FastIoTest = codes "there is no test for fast I/O: use the `else` of `if irp data`"
sentence absence.DrainingTest = codes "this test is written `draining`"
sentence absence.OperationTest = codes "an operation is tested by `irp data` only, and in a `post` callback by `draining`"
sentence absence.WhenSafe =
    codes "there is no such call: test `irp data`, and hand `data` to a `deferred_post` routine by `FltQueueDeferredIoWorkItem`"
sentence absence.Wait =
    codes "there are no events, timers or waits: leave the wait out, or put what follows it into the routine of a work item"
sentence absence.LockSetup = codes "a lock needs no such call: it is declared after the altitude, `lock KIND NAME`"
sentence absence.Level = codes "the level isn't read or set: spin locks raise it, and the checker knows it at each point"
sentence absence.Interlocked = codes "there are no interlocked operations: take a lock, and use `n0 = value c0` and `value c0 = n0`"
sentence absence.Resource =
    codes "there is no ERESOURCE: use `lock push NAME`, which `FltAcquirePushLockExclusive` and `FltAcquirePushLockShared` take"
sentence absence.SpinLock = codes "spin locks are taken and released by `KeAcquireSpinLock` and `KeReleaseSpinLock` only"
sentence absence.FastMutex =
    codes "the only mutex is `lock fast NAME`, which `ExAcquireFastMutex` takes and `ExReleaseFastMutex` releases"
sentence absence.LockKind = codes "the kinds of lock are `spin` (KSPIN_LOCK), `fast` (FAST_MUTEX) and `push` (EX_PUSH_LOCK)"
sentence absence.QueueSetup = codes "the queue needs no such call: write `queue` after the locks and before the callbacks"
sentence absence.QueueState = codes "the queue is always enabled: leave this call out"
sentence absence.RemoveIo = codes "no operation is taken from the middle of the queue: `FltCbdqRemoveNextIo` takes the first"
sentence absence.CancelRoutine =
    codes "the only cancel routine is the `canceled` callback, for operations in the queue: use `FltCbdqInsertIo`"
sentence absence.CancelOpen = codes "an open can't be undone: refuse it in `pre create`, by `return COMPLETE` and a final status"
sentence absence.WorkItem =
    codes "work items aren't allocated or freed: write `FltQueueDeferredIoWorkItem` or `FltQueueGenericWorkItem` alone"
sentence absence.OwnOperation = codes "a filter makes no operations of its own: leave this call out"
sentence absence.FileName = codes "there are no file names: `n0 = file data` gives the number of the file"
sentence absence.FinalStatus =
    codes "there are no other final statuses: write the nearest, since the rules refuse `STATUS_PENDING` and distinguish no others"
sentence absence.Change = codes "what an operation asks for can't be changed: leave this call out"
sentence absence.Memory = codes "there is no memory but the number of a context, `value c0`: leave this call out"
sentence absence.Port = codes "there are no communication ports: leave this call out"
sentence absence.Registration = codes "the text itself registers the filter: it has the altitude, and a callback for each operation"
sentence absence.Object = codes "the only objects are contexts and operations: leave this call out"
sentence absence.Trace = codes "there is nothing to print or assert: leave this out"
sentence absence.Declaration = codes "variables aren't declared: `n0` to `n7` are numbers, `c0` to `c7` contexts, `o0` to `o3` operations"

-- what follows that
abbrev pub rest : Absence → Text
rest absence.Operation = all_named ++ codes ": leave the callbacks of others out"
rest _ = []
