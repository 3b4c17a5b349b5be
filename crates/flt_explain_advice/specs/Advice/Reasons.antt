-- Why a variable isn't held: what made it so. This project's own program.
use Rattle.std.specs.Prelude.{ℕ, Bool, true, false, [], ◌∷◌, codes, Option, Some, None}
use Rattle.std.specs.List.{concat}
use Rattle.flt_rules.specs.declared.call.Call.{Call}
use Rattle.flt_rules.specs.declared.call.Call.TheVariants.{InsertIo, QueueDeferredIoWorkItem, QueueGenericWorkItem}
use Rattle.flt_rules.specs.declared.call.Call.TheVariants.{CompletePendedPreOperation}
use Rattle.flt_tree.specs.Names.{Text}
use Rattle.flt_graph.specs.declared.instruction.Invocation.{Invocation}
use Rattle.flt_explain.specs.declared.finding.Subject.{Subject}
use Rattle.flt_explain.specs.declared.finding.Subject.TheVariants as about
use Rattle.flt_explain_origins.specs.declared.facts.VariableStatus.{VariableStatus}
use Rattle.flt_explain_origins.specs.declared.facts.VariableStatus.TheVariants as is
use Rattle.flt_explain_origins.specs.declared.answer.Step.{Step}
use Rattle.flt_explain_advice.specs.Advice.Sentences.{in_line, on_line, since}
use Rattle.flt_explain_advice.specs.Case.{Circumstances, call_at, cause, line_named, line_of, subject, variable_status}
use Rattle.flt_explain_texts.specs.Names.{call_name}
use Rattle.flt_explain_texts.specs.Page.{marked}
use Rattle.flt_explain_advice.specs.declared.advice.reasons.Reason.{Reason}
use Rattle.flt_explain_advice.specs.declared.advice.reasons.Reason.TheVariants.{Lost, Emptied}

-- ---- which reason

abbrev pub reason_by : Option VariableStatus → Option Step → Option Reason
reason_by (Some is.Stale) (Some s) = Some (Lost s)
reason_by (Some is.Null) (Some s) = Some (Emptied s)
reason_by _ _ = None

-- the step that gave the variable away, released or completed it, or that left it NULL; nothing where that isn't known
unfoldable pub reason : Circumstances → Option Reason
reason x = reason_by (variable_status x) (cause x)

-- ---- a variable that was lost

-- who owns the context that a call hands over
abbrev pub new_owner : Call → Option Text
new_owner InsertIo = Some (codes "the queue owns ")
new_owner QueueDeferredIoWorkItem = Some (codes "the work item owns ")
new_owner QueueGenericWorkItem = Some (codes "the work item owns ")
new_owner (CompletePendedPreOperation whose) = Some (codes "the `post` callback owns ")
new_owner _ = None

-- who has the operation that a call gives away
abbrev pub new_holder : Call → Option Text
new_holder InsertIo = Some (codes "the queue has ")
new_holder QueueDeferredIoWorkItem = Some (codes "the work item has ")
new_holder _ = None

-- who has it since a line, or what that line did with it
abbrev pub lost_to : Circumstances → ℕ → Option Text → Text → Text
lost_to x line (Some owns) verb = since x owns line
lost_to x line None verb = on_line x line verb []

-- what became of the subject by a call
abbrev pub lost_by_call : Circumstances → Subject → Call → ℕ → Text
lost_by_call x (about.Operation o) c line = lost_to x line (new_holder c) (codes " completed ")
lost_by_call x u c line = lost_to x line (new_owner c) (codes " released ")

-- what became of it by no call
abbrev pub given_away : Circumstances → ℕ → Text
given_away x line = in_line x (codes " is given away in line ") line

abbrev pub lost_by : Circumstances → Option Invocation → ℕ → Text
lost_by x (Some c) line = lost_by_call x x.finding.subject c.call line
lost_by x None line = given_away x line

-- what made it stale
unfoldable pub lost : Circumstances → Step → Text
lost x s = lost_by x (call_at x s) (line_of x s)

-- ---- a variable that is NULL

-- how a call comes out that gives none
abbrev pub emptying_outcome : Bool → Text
emptying_outcome true = codes " succeeds and gives none"
emptying_outcome false = codes " fails"

-- a call gives none
unfoldable pub emptied_by_call : Circumstances → Call → ℕ → Bool → Text
emptied_by_call x c line succeeds =
    concat (subject x ∷ codes " is NULL where " ∷ marked (call_name c) ∷ codes " in line " ∷ line_named x line
    ∷ emptying_outcome succeeds ∷ [])

abbrev pub emptied_by : Circumstances → Option Invocation → ℕ → Bool → Text
emptied_by x (Some c) line succeeds = emptied_by_call x c.call line succeeds
emptied_by x None line succeeds = on_line x line (codes " sets ") (codes " to NULL")

-- what made it NULL: a call that gives nothing by this outcome, or a statement
unfoldable pub emptied : Circumstances → Step → Text
emptied x s = emptied_by x (call_at x s) (line_of x s) s.granted

abbrev pub reason_told : Circumstances → Reason → Text
reason_told x (Lost s) = lost x s
reason_told x (Emptied s) = emptied x s
