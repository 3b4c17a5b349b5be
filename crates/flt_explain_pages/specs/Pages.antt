-- Which pages there are. This project's own program.
use Rattle.std.specs.Char.{to_ascii_uppercase}
use Rattle.std.specs.Prelude.{ℕ, List, [], ◌∷◌, Bool, ◌||◌, codes, if◌then◌else◌}
use Rattle.std.specs.List.{list_any}
use Rattle.std.specs.Str.{bytes_eq}

-- `R01` to `R15`
abbrev pub rules : List (List ℕ)
rules =
    codes "R01" ∷ codes "R02" ∷ codes "R03" ∷ codes "R04" ∷ codes "R05" ∷ codes "R06" ∷ codes "R07" ∷ codes "R08"
    ∷ codes "R09" ∷ codes "R10" ∷ codes "R11" ∷ codes "R12" ∷ codes "R13" ∷ codes "R14" ∷ codes "R15" ∷ []

-- `W00` to `W07`
abbrev pub warnings : List (List ℕ)
warnings =
    codes "W00" ∷ codes "W01" ∷ codes "W02" ∷ codes "W03" ∷ codes "W04" ∷ codes "W05" ∷ codes "W06" ∷ codes "W07" ∷ []

-- `V1` to `V8`
abbrev pub violations : List (List ℕ)
violations =
    codes "V1" ∷ codes "V2" ∷ codes "V3" ∷ codes "V4" ∷ codes "V5" ∷ codes "V6" ∷ codes "V7" ∷ codes "V8" ∷ []

-- `E01` to `E08`
abbrev pub faults : List (List ℕ)
faults =
    codes "E01" ∷ codes "E02" ∷ codes "E03" ∷ codes "E04" ∷ codes "E05" ∷ codes "E06" ∷ codes "E07" ∷ codes "E08" ∷ []

-- the calls that work on contexts and operations
abbrev pub calls : List (List ℕ)
calls =
    codes "FltAllocateContext" ∷ codes "FltGetStreamContext" ∷ codes "FltGetInstanceContext" ∷ codes "FltSetStreamContext"
    ∷ codes "FltSetInstanceContext" ∷ codes "FltDeleteStreamContext" ∷ codes "FltDeleteInstanceContext"
    ∷ codes "FltDeleteContext" ∷ codes "FltReferenceContext" ∷ codes "FltReleaseContext" ∷ codes "FltCbdqInsertIo"
    ∷ codes "FltCbdqRemoveNextIo" ∷ codes "FltQueueDeferredIoWorkItem" ∷ codes "FltQueueGenericWorkItem"
    ∷ codes "FltCompletePendedPreOperation" ∷ codes "FltCompletePendedPostOperation" ∷ []

-- the calls that take and release locks
abbrev pub lock_calls : List (List ℕ)
lock_calls =
    codes "KeAcquireSpinLock" ∷ codes "KeReleaseSpinLock" ∷ codes "ExAcquireFastMutex" ∷ codes "ExReleaseFastMutex"
    ∷ codes "FltAcquirePushLockExclusive" ∷ codes "FltAcquirePushLockShared" ∷ codes "FltReleasePushLock" ∷ []

-- the statuses of callbacks
abbrev pub statuses : List (List ℕ)
statuses =
    codes "WITH_CALLBACK" ∷ codes "SYNCHRONIZE" ∷ codes "NO_CALLBACK" ∷ codes "COMPLETE" ∷ codes "PENDING"
    ∷ codes "DISALLOW_FASTIO" ∷ codes "FINISHED_PROCESSING" ∷ codes "MORE_PROCESSING_REQUIRED" ∷ []

abbrev pub is_among : List (List ℕ) → List ℕ → Bool
is_among names name = list_any (λ n. bytes_eq name n) names

-- the name of a rule, a warning, a violation or a fault
abbrev pub is_code : List ℕ → Bool
is_code name = is_among rules name || (is_among warnings name || (is_among violations name || is_among faults name))

-- the name of a call or a status
abbrev pub is_word : List ℕ → Bool
is_word name = is_among calls name || (is_among lock_calls name || is_among statuses name)

-- a name with a capital letter first
abbrev pub capital : List ℕ → List ℕ
capital [] = []
capital (c ∷ cs) = to_ascii_uppercase c ∷ cs

-- a page has this name; the letter before a number may be a small one
unfoldable pub has_page : List ℕ → Bool
has_page name = is_code (capital name) || is_word name

-- what the page of a name begins with
abbrev pub title : List ℕ → List ℕ
title name = if is_code (capital name) then capital name else name
