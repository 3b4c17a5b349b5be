-- Variables that aren't held where they are used (R01, R04, R13), or are held where they mustn't be (R02, R03, R05): what is wrong, and how
-- to fix it. This project's own program.
use Rattle.std.specs.Prelude.{Bool, true, false, ◌&&◌, if◌then◌else◌, [], ◌++◌, codes}
use Rattle.std.specs.Prelude.{Option, Some, None, is_some, option_and_then, unwrap_or}
use Rattle.flt_rules.specs.declared.call.Call.{Call}
use Rattle.flt_rules.specs.declared.call.Call.TheVariants.{ReleaseContext, CompletePendedPreOperation, CompletePendedPostOperation}
use Rattle.flt_rules.specs.declared.place.Place.{Place}
use Rattle.flt_rules.specs.declared.place.Place.TheVariants.{Canceled, DeferredPost, Generic}
use Rattle.flt_tree.specs.Names.{Text}
use Rattle.flt_tree.specs.declared.variable.ContextVariable.TheVariants.{Arg}
use Rattle.flt_tree.specs.declared.variable.OperationVariable.TheVariants.{Data}
use Rattle.flt_graph.specs.declared.instruction.Invocation.{Invocation}
use Rattle.flt_explain.specs.declared.finding.Subject.{Subject}
use Rattle.flt_explain.specs.declared.finding.Subject.TheVariants as about
use Rattle.flt_explain_origins.specs.declared.facts.VariableStatus.{VariableStatus}
use Rattle.flt_explain_origins.specs.declared.facts.VariableStatus.TheVariants.{Stale}
use Rattle.flt_explain_advice.specs.Advice.Reasons.{new_owner, reason, reason_told}
use Rattle.flt_explain_advice.specs.Advice.Sentences.{around, at_end}
use Rattle.flt_explain_advice.specs.Case.{Circumstances, call_at, call_in, cause, instruction, place, variable_status}
use Rattle.flt_explain_advice.specs.declared.advice.reasons.Reason.{Reason}

-- ---- what is known

abbrev pub is_stale : Option VariableStatus → Bool
is_stale (Some Stale) = true
is_stale _ = false

-- whether the variable was released, completed or given away
abbrev pub is_lost : Circumstances → Bool
is_lost x = is_stale (variable_status x)

-- the call that made it so
unfoldable pub earlier : Circumstances → Option Invocation
earlier x = option_and_then (call_at x) (cause x)

-- whether a call completes an operation
abbrev pub completes : Call → Bool
completes (CompletePendedPreOperation whose) = true
completes CompletePendedPostOperation = true
completes _ = false

-- whether a call releases a context
abbrev pub releases : Call → Bool
releases ReleaseContext = true
releases _ = false

-- what two calls do twice
abbrev pub twice : Call → Call → Option Text
twice a b =
    if releases a && releases b then Some (codes " is released a second time")
    else (if completes a && completes b then Some (codes " is completed a second time") else None)

abbrev pub twice_by : Option Invocation → Option Invocation → Option Text
twice_by (Some a) (Some b) = twice a.call b.call
twice_by _ _ = None

-- what is done a second time where the variable is lost
unfoldable pub repeated : Circumstances → Option Text
repeated x = if is_lost x then twice_by (earlier x) (call_in (instruction x)) else None

abbrev pub lacks_operation : Place → Subject → Bool
lacks_operation Generic (about.Operation Data) = true
lacks_operation _ _ = false

-- whether a generic routine asks for the operation, which it hasn't
unfoldable pub is_without_operation : Circumstances → Bool
is_without_operation x = lacks_operation (place x) x.finding.subject

-- whether the finding is about `arg`
abbrev pub is_argument : Subject → Bool
is_argument (about.Context Arg) = true
is_argument _ = false

abbrev pub hands_over : Option Invocation → Bool
hands_over None = false
hands_over (Some c) = is_some (new_owner c.call)

abbrev pub releases_here : Option Invocation → Bool
releases_here None = false
releases_here (Some c) = releases c.call

-- ---- titles

-- R01
abbrev pub use_title : Circumstances → Text
use_title x = around x [] (unwrap_or (repeated x) (codes " might not be held here"))

-- what is so of an operation that isn't held
abbrev pub operation_fault : Bool → Text
operation_fault true = codes " isn't there: a generic routine has no operation"
operation_fault false = codes " might not be held here"

-- R04
abbrev pub operation_title : Circumstances → Text
operation_title x = around x [] (unwrap_or (repeated x) (operation_fault (is_without_operation x)))

-- R13
abbrev pub handing_title : Circumstances → Text
handing_title x = around x [] (codes " might not be held where it is handed over")

-- R03
abbrev pub overwriting_title : Circumstances → Text
overwriting_title x = around x [] (codes " might be held where it is overwritten")

-- R02 and R05
abbrev pub end_title : Circumstances → Text
end_title x = at_end x (codes " might still be held when ")

-- ---- helps where it isn't held

-- use it while it is held
abbrev pub use_remedy : Bool → Text
use_remedy true = codes ": use it before that, or not at all"
use_remedy false = codes ": use it only where it is held"

-- release it once
abbrev pub release_remedy : Bool → Text
release_remedy true = codes ": release it only where that call fails"
release_remedy false = codes ": release it once on each path"

-- what follows the reason: R01
unfoldable pub context_remedy : Circumstances → Text
context_remedy x =
    if is_lost x && releases_here (call_in (instruction x)) then release_remedy (hands_over (earlier x)) else use_remedy (is_lost x)

-- R04
unfoldable pub operation_remedy : Circumstances → Text
operation_remedy x = if is_some (repeated x) then codes ": complete it once on each path" else use_remedy (is_lost x)

-- R13
abbrev pub handing_remedy : Text
handing_remedy = codes ": hand it over only where it is held"

abbrev pub use_help_by : Circumstances → Bool → Text
use_help_by x true = codes "`arg` is NULL where nothing was handed over: use it inside `if arg != NULL { .. }` alone"
use_help_by x false =
    around x (codes "use ")
    (codes " only where it is held: after a call that gives it, where that succeeds, and before it is released, completed or given away")

-- where nothing says why it isn't held
abbrev pub use_help : Circumstances → Text
use_help x = use_help_by x (is_argument x.finding.subject)

-- the reason if there is one, and a remedy
abbrev pub reasoned_help : Circumstances → Option Reason → Text → Text
reasoned_help x (Some r) remedy = reason_told x r ++ remedy
reasoned_help x None remedy = use_help x

abbrev pub missing_help_by : Circumstances → Bool → Text → Text
missing_help_by x true remedy =
    codes "use `FltQueueDeferredIoWorkItem`, whose routine has the operation, or get the context first and hand it over"
missing_help_by x false remedy = reasoned_help x (reason x) remedy

-- how to fix that a variable isn't held
unfoldable pub missing_help : Circumstances → Text → Text
missing_help x remedy = missing_help_by x (is_without_operation x) remedy

-- ---- helps where it is held

abbrev pub release_help_by : Circumstances → Bool → Text
release_help_by x true =
    codes "release it on each path to the end, as each callback that is given a context does:\n"
    ++ codes "if arg != NULL {\n  FltReleaseContext arg\n}"
release_help_by x false = around x (codes "release ") (codes " on this path, or hand it over")

-- R02
unfoldable pub release_help : Circumstances → Text
release_help x = release_help_by x (is_argument x.finding.subject)

abbrev pub overwriting_help_by : Circumstances → Subject → Text
overwriting_help_by x (about.Operation o) = around x (codes "complete ") (codes " before it is overwritten")
overwriting_help_by x _ = around x (codes "release ") (codes " before it is overwritten, or hand it over")

-- R03
unfoldable pub overwriting_help : Circumstances → Text
overwriting_help x = overwriting_help_by x x.finding.subject

abbrev pub completion_by : Circumstances → Place → Text
completion_by x Canceled =
    around x (codes "write `FltCompletePendedPreOperation data COMPLETE STATUS_CANCELLED` on this path: nobody else completes ") []
completion_by x DeferredPost =
    around x (codes "write `FltCompletePendedPostOperation data` on this path: nobody else completes ") []
completion_by x _ = around x (codes "complete ") (codes " by `FltCompletePendedPreOperation` on this path, or queue it again")

abbrev pub completion_help_by : Circumstances → Subject → Text
completion_help_by x (about.Operation Data) = completion_by x (place x)
completion_help_by x _ = around x (codes "complete ") (codes " by `FltCompletePendedPreOperation` on this path")

-- R05
unfoldable pub completion_help : Circumstances → Text
completion_help x = completion_help_by x x.finding.subject
