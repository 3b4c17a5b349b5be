-- The names of calls, statuses, operations and levels, as texts have them. This project's own program.
use Rattle.std.specs.Prelude.{codes}
use Rattle.flt_rules.specs.declared.call.Anchor.{Anchor}
use Rattle.flt_rules.specs.declared.call.Anchor.TheVariants as anchor
use Rattle.flt_rules.specs.declared.call.Call.{Call}
use Rattle.flt_rules.specs.declared.call.Call.TheVariants as call
use Rattle.flt_rules.specs.declared.call.LockKind.{LockKind}
use Rattle.flt_rules.specs.declared.call.LockKind.TheVariants.{Spin, Fast, Push}
use Rattle.flt_rules.specs.declared.place.Level.{Level}
use Rattle.flt_rules.specs.declared.place.Level.TheVariants.{Passive, Apc, Dispatch}
use Rattle.flt_rules.specs.declared.status.StatusWord.{StatusWord}
use Rattle.flt_rules.specs.declared.status.StatusWord.TheVariants as word
use Rattle.flt_tree.specs.Names.{Text}

-- the name of a call on the stream or on the instance
abbrev pub anchored_name : Anchor → Text → Text → Text
anchored_name anchor.Stream of_stream of_instance = of_stream
anchored_name anchor.Instance of_stream of_instance = of_instance

-- the name of a call that takes a lock
abbrev pub acquire_name : LockKind → Text
acquire_name Spin = codes "KeAcquireSpinLock"
acquire_name Fast = codes "ExAcquireFastMutex"
acquire_name Push = codes "FltAcquirePushLockExclusive"

-- the name of a call that releases a lock
abbrev pub release_name : LockKind → Text
release_name Spin = codes "KeReleaseSpinLock"
release_name Fast = codes "ExReleaseFastMutex"
release_name Push = codes "FltReleasePushLock"

-- the name of a call
unfoldable pub call_name : Call → Text
call_name call.AllocateContext = codes "FltAllocateContext"
call_name (call.GetContext a) = anchored_name a (codes "FltGetStreamContext") (codes "FltGetInstanceContext")
call_name (call.SetContext a existing) = anchored_name a (codes "FltSetStreamContext") (codes "FltSetInstanceContext")
call_name (call.DeleteContextOf a) = anchored_name a (codes "FltDeleteStreamContext") (codes "FltDeleteInstanceContext")
call_name call.DeleteContext = codes "FltDeleteContext"
call_name call.ReferenceContext = codes "FltReferenceContext"
call_name call.ReleaseContext = codes "FltReleaseContext"
call_name (call.AcquireLock kind) = acquire_name kind
call_name call.AcquirePushLockShared = codes "FltAcquirePushLockShared"
call_name (call.ReleaseLock kind) = release_name kind
call_name call.InsertIo = codes "FltCbdqInsertIo"
call_name call.RemoveNextIo = codes "FltCbdqRemoveNextIo"
call_name call.QueueDeferredIoWorkItem = codes "FltQueueDeferredIoWorkItem"
call_name call.QueueGenericWorkItem = codes "FltQueueGenericWorkItem"
call_name (call.CompletePendedPreOperation possessed) = codes "FltCompletePendedPreOperation"
call_name call.CompletePendedPostOperation = codes "FltCompletePendedPostOperation"

-- the name of a status
unfoldable pub status_name : StatusWord → Text
status_name word.WithCallback = codes "WITH_CALLBACK"
status_name word.Synchronize = codes "SYNCHRONIZE"
status_name word.NoCallback = codes "NO_CALLBACK"
status_name word.Complete = codes "COMPLETE"
status_name word.Pending = codes "PENDING"
status_name word.DisallowFastIo = codes "DISALLOW_FASTIO"
status_name word.FinishedProcessing = codes "FINISHED_PROCESSING"
status_name word.MoreProcessingRequired = codes "MORE_PROCESSING_REQUIRED"

-- the name of a level
unfoldable pub level_name : Level → Text
level_name Passive = codes "PASSIVE_LEVEL"
level_name Apc = codes "APC_LEVEL"
level_name Dispatch = codes "DISPATCH_LEVEL"

-- what a lock of a kind is called
unfoldable pub kind_name : LockKind → Text
kind_name Spin = codes "a spin lock"
kind_name Fast = codes "a fast mutex"
kind_name Push = codes "a push lock"
