-- The names that annotations and C have in common. The driver kit's routines and statuses, as far as the language knows them.
use Rattle.std.specs.Prelude.{ℕ, ◌+◌, Bool, List, [], ◌∷◌, Option, Some, None, codes, if◌then◌else◌, nat_eq, map}
use Rattle.std.specs.List.{starts_with}
use Rattle.std.specs.Str.{bytes_eq}
use Rattle.flt_rules.specs.Place.{all_operations, major_name, operation_name}

-- the calls
unfoldable pub calls : List (List ℕ)
calls =
    codes "FltAllocateContext" ∷ codes "FltGetStreamContext" ∷ codes "FltGetInstanceContext" ∷ codes "FltSetStreamContext"
    ∷ codes "FltSetInstanceContext" ∷ codes "FltDeleteStreamContext" ∷ codes "FltDeleteInstanceContext"
    ∷ codes "FltCbdqInsertIo" ∷ codes "FltCbdqRemoveNextIo" ∷ codes "FltQueueDeferredIoWorkItem"
    ∷ codes "FltQueueGenericWorkItem" ∷ codes "FltDeleteContext" ∷ codes "FltReferenceContext" ∷ codes "FltReleaseContext"
    ∷ codes "KeAcquireSpinLock" ∷ codes "KeReleaseSpinLock" ∷ codes "ExAcquireFastMutex" ∷ codes "ExReleaseFastMutex"
    ∷ codes "FltAcquirePushLockExclusive" ∷ codes "FltAcquirePushLockShared" ∷ codes "FltReleasePushLock"
    ∷ codes "FltCompletePendedPreOperation" ∷ codes "FltCompletePendedPostOperation" ∷ []

-- what callbacks return, as annotations have it
unfoldable pub statuses : List (List ℕ)
statuses =
    codes "WITH_CALLBACK" ∷ codes "SYNCHRONIZE" ∷ codes "NO_CALLBACK" ∷ codes "COMPLETE" ∷ codes "PENDING"
    ∷ codes "DISALLOW_FASTIO" ∷ codes "FINISHED_PROCESSING" ∷ codes "MORE_PROCESSING_REQUIRED" ∷ []

-- the same, in the same order, as C has it
unfoldable pub c_statuses : List (List ℕ)
c_statuses =
    codes "FLT_PREOP_SUCCESS_WITH_CALLBACK" ∷ codes "FLT_PREOP_SYNCHRONIZE" ∷ codes "FLT_PREOP_SUCCESS_NO_CALLBACK"
    ∷ codes "FLT_PREOP_COMPLETE" ∷ codes "FLT_PREOP_PENDING" ∷ codes "FLT_PREOP_DISALLOW_FASTIO"
    ∷ codes "FLT_POSTOP_FINISHED_PROCESSING" ∷ codes "FLT_POSTOP_MORE_PROCESSING_REQUIRED" ∷ []

-- the operations whose callbacks the language has
unfoldable pub operations : List (List ℕ)
operations = map operation_name all_operations

-- the same, in the same order, as C has it
unfoldable pub c_operations : List (List ℕ)
c_operations = map major_name all_operations

-- the calls that take and release locks
unfoldable pub lock_calls : List (List ℕ)
lock_calls =
    codes "KeAcquireSpinLock" ∷ codes "KeReleaseSpinLock" ∷ codes "ExAcquireFastMutex" ∷ codes "ExReleaseFastMutex"
    ∷ codes "FltAcquirePushLockExclusive" ∷ codes "FltAcquirePushLockShared" ∷ codes "FltReleasePushLock" ∷ []

-- the place of a word among others of which so many stand before these
abbrev pub place_from : ℕ → List (List ℕ) → List ℕ → Option ℕ
place_from n [] word = None
place_from n (name ∷ names) word = if bytes_eq name word then Some n else place_from (n + 1) names word

-- the place of a word among others, from 0
abbrev pub place_among : List (List ℕ) → List ℕ → Option ℕ
place_among names word = place_from 0 names word

-- the call of a word, by its place among the calls
unfoldable pub call_of : List ℕ → Option ℕ
call_of word = place_among calls word

-- the status of a word of an annotation, by its place among the statuses
unfoldable pub status_of : List ℕ → Option ℕ
status_of word = place_among statuses word

-- the status of a word of C, by the same place
unfoldable pub c_status_of : List ℕ → Option ℕ
c_status_of word = place_among c_statuses word

-- the operation of a word of an annotation, by its place among the operations
unfoldable pub operation_of : List ℕ → Option ℕ
operation_of word = place_among operations word

-- the operation of a word of C, by the same place
unfoldable pub c_operation_of : List ℕ → Option ℕ
c_operation_of word = place_among c_operations word

-- the lock's call of a word, by its place among these
unfoldable pub lock_call_of : List ℕ → Option ℕ
lock_call_of word = place_among lock_calls word

-- a word of C is the name of a major function
abbrev pub is_major_function : List ℕ → Bool
is_major_function word = starts_with nat_eq word (codes "IRP_MJ_")
