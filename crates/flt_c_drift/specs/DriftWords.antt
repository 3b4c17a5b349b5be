-- The words of drifts. This project's own program.
use Rattle.std.specs.Prelude.{ℕ, Bool, true, false, List, codes, if◌then◌else◌}
use Rattle.flt_c_drift.specs.declared.drift.DriftKind.{DriftKind}
use Rattle.flt_c_drift.specs.declared.drift.DriftKind.TheVariants as drift

-- the code of a kind
abbrev pub code : DriftKind → List ℕ
code drift.Malformed = codes "C00"
code drift.NotCalled = codes "C01"
code drift.NotNamed = codes "C02"
code drift.OtherStatus = codes "C03"
code drift.NotAnnotated = codes "C04"
code drift.NotRegistered = codes "C04"
code drift.OtherOperation = codes "C04"
code drift.OtherLock = codes "C05"

-- code and annotations differ; else it is a note
abbrev pub is_difference : DriftKind → Bool
is_difference drift.OtherOperation = false
is_difference _ = true

-- what a report begins with
abbrev pub heading : DriftKind → List ℕ
heading kind = if is_difference kind then codes "warning[" else codes "note["

-- the words before the drift's own word
abbrev pub opening : DriftKind → List ℕ
opening drift.Malformed = codes "this comment declares no call: `"
opening drift.NotCalled = codes "no code beside this annotation calls `"
opening drift.NotNamed = codes "no annotation beside this call names `"
opening drift.OtherStatus = codes "the code returns `"
opening drift.NotAnnotated = codes "no annotation begins the registered callback `"
opening drift.NotRegistered = codes "no table registers the annotated callback of `"
opening drift.OtherOperation = codes "callbacks of other operations aren't compared, beginning with `"
opening drift.OtherLock = codes "the code's lock is `"

-- the words before the word that the annotations have in its place
abbrev pub joint : DriftKind → List ℕ
joint drift.OtherLock = codes "`, and its annotation's is `"
joint _ = codes "`, and its annotation returns `"

-- how both are made to agree
abbrev pub help : DriftKind → List ℕ
help drift.Malformed = codes "write `//@flt-call NAME CALL`, where CALL is a call of the language"
help drift.NotCalled =
    codes "make the call, take it out of the annotation, or declare the function that makes it: `//@flt-call NAME CALL`"
help drift.NotNamed = codes "annotate the call, or take it out of the code"
help drift.OtherStatus = codes "return the same status in both"
help drift.NotAnnotated = codes "annotate the callback, or take it out of the table"
help drift.NotRegistered = codes "register the callback, or delete its annotation"
help drift.OtherOperation = codes "a text has callbacks of creates, reads, writes and cleanups alone"
help drift.OtherLock = codes "take the same lock in both, or declare one for each expression: `lock KIND NAME = EXPRESSION`"
