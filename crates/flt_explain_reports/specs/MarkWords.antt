-- What the marks say that show a finding. This project's own program.
use Rattle.std.specs.Prelude.{ℕ, Bool, true, false, ◌&&◌, if◌then◌else◌, [], ◌∷◌, ◌++◌, Option, Some, None, codes}
use Rattle.std.specs.Str.{bytes_eq}
use Rattle.flt_explain.specs.declared.finding.Finding.{Finding}
use Rattle.flt_explain.specs.declared.finding.Subject.{Subject}
use Rattle.flt_explain.specs.declared.finding.Subject.TheVariants as about
use Rattle.flt_graph.specs.Graph.{instruction_at}
use Rattle.flt_graph.specs.Instruction.{roles}
use Rattle.flt_graph.specs.declared.graph.Graph.{Graph}
use Rattle.flt_graph.specs.declared.instruction.Instruction.{Instruction}
use Rattle.flt_graph.specs.declared.instruction.Instruction.TheVariants as instruction
use Rattle.flt_explain_origins.specs.declared.facts.Fact.{Fact}
use Rattle.flt_explain_origins.specs.declared.facts.Fact.TheVariants as fact
use Rattle.flt_explain_origins.specs.declared.facts.VariableStatus.TheVariants as is
use Rattle.flt_rules.specs.declared.call.Call.{Call}
use Rattle.flt_rules.specs.declared.call.Call.TheVariants as call
use Rattle.flt_rules.specs.declared.rule.Rule.{Rule}
use Rattle.flt_rules.specs.declared.rule.Rule.TheVariants.{R12}
use Rattle.flt_tree.specs.Names.{Text}
use Rattle.flt_explain_origins.specs.declared.answer.Answer.{Answer}
use Rattle.flt_explain_origins.specs.declared.answer.Step.{Step}
use Rattle.flt_explain_origins.specs.declared.answer.Way.{Way}
use Rattle.flt_explain_advice.specs.Branches.{step_call_outcome}
use Rattle.flt_shown.specs.Shown.{shown}
use Rattle.flt_explain_advice.specs.Subjects.{fact_word, state_at_end}
use Rattle.flt_explain_origins.specs.Trace.{other_way, way_of}
use Rattle.flt_explain_reports.specs.declared.mark_words.Sign.{Sign}
use Rattle.flt_explain_reports.specs.declared.mark_words.Sign.TheVariants as sign

-- ---- where what is found comes from

-- what a call does to the operation that it gives away, or to the context
unfoldable pub lost_by : Call → Bool → Text
lost_by call.InsertIo is_operation = codes "queued"
lost_by call.QueueDeferredIoWorkItem is_operation = codes "handed to a work item"
lost_by call.QueueGenericWorkItem is_operation = codes "handed to a work item"
lost_by (call.CompletePendedPreOperation possessed) false = codes "handed to the `post` callback"
lost_by _ false = codes "released"
lost_by _ true = codes "completed"

-- the same of an instruction, if it is a call
unfoldable pub lost_at : Instruction → Bool → Option Text
lost_at (instruction.Call c granted failed) is_operation = Some (lost_by (roles c).call is_operation)
lost_at _ is_operation = None

-- what a step does to what it makes stale; nothing where it makes another fact
unfoldable pub lost : Graph → ℕ → Fact → Step → Option Text
lost g callback (fact.Context v is.Stale) s = lost_at (instruction_at g callback s.point) false
lost g callback (fact.Operation v is.Stale) s = lost_at (instruction_at g callback s.point) true
lost g callback _ s = None

-- what a subject is at the end of a path that is shown; nothing where that isn't said
abbrev pub comes_to : Option Text → Text
comes_to None = []
comes_to (Some state) = codes " becomes " ++ state

-- what becomes of a subject: it is so on a path, and might be so where none is known
unfoldable pub becomes : Subject → Option Way → Fact → Option Text → Text
becomes u (Some w) f (Some lost) = codes " is " ++ lost
becomes u None f (Some lost) = codes " might be " ++ lost
becomes u (Some w) f None = comes_to (state_at_end u (Some w))
becomes u None f None = codes " might become " ++ fact_word f

-- how the call that made it so comes out, if it can fail
unfoldable pub call_side : Option Text → Text
call_side None = []
call_side (Some outcome) = codes ", where this " ++ outcome

-- where a subject becomes what it is
unfoldable pub made_here : Graph → Finding → Text → Option Way → Fact → Step → Text
made_here g found subject way f s =
    codes " " ++ (shown subject ++ (becomes found.subject way f (lost g found.callback f s)
    ++ (codes " here" ++ (call_side (step_call_outcome g found.callback s) ++ 10 ∷ []))))

-- the same of any fact: a lock is taken or released
unfoldable pub origin_told : Graph → Finding → Text → Option Way → Fact → Step → Text
origin_told g found subject way (fact.Lock l true) s = codes " taken here" ++ 10 ∷ []
origin_told g found subject way (fact.Lock l false) s = codes " released here" ++ 10 ∷ []
origin_told g found subject way f s = made_here g found subject way f s

-- ---- what is so at the point

-- what stands before a mode
unfoldable pub article : Text → Text
article mode = if bytes_eq mode (codes "IRP") then codes "an " else []

-- with which mode the operation might be there
unfoldable pub mode_told : Text → Text
mode_told mode = codes " the operation might be " ++ (article mode ++ (mode ++ (codes " here" ++ 10 ∷ [])))

-- what a subject is there. With which mode a callback is entered, and whether it is drained, is only possible
unfoldable pub state_told : Subject → Text → Text → Text
state_told about.Mode subject state = mode_told state
state_told about.Draining subject state =
    codes " " ++ (shown subject ++ (codes " might be " ++ (state ++ (codes " here" ++ 10 ∷ []))))
state_told _ subject state = codes " " ++ (shown subject ++ (codes " is " ++ (state ++ (codes " here" ++ 10 ∷ []))))

-- the same, where it is known
abbrev pub maybe_state : Subject → Text → Option Text → Text
maybe_state u subject None = 10 ∷ []
maybe_state u subject (Some state) = state_told u subject state

-- whether a state is said by this word
unfoldable pub is_word : Option Text → Text → Bool
is_word None word = false
is_word (Some state) word = bytes_eq state word

-- what a lock is on one path where it joins another
unfoldable pub joining_told : Text → Option Text → Option Text → Text
joining_told subject here there =
    if is_word here (codes "taken") && is_word there (codes "not taken")
    then codes " " ++ (shown subject ++ (codes " is held on this path" ++ 10 ∷ []))
    else (if is_word here (codes "not taken") && is_word there (codes "taken")
    then codes " " ++ (shown subject ++ (codes " isn't held on this path" ++ 10 ∷ []))
    else codes " this path leads on with other locks held" ++ 10 ∷ [])

-- what is wrong at the point: with R12 what the paths bring there, else what the subject is
abbrev pub point_by : Rule → Subject → Text → Answer → Text
point_by R12 u subject a = joining_told subject (state_at_end u (way_of a)) (state_at_end u (other_way a))
point_by _ u subject a = maybe_state u subject (state_at_end u (way_of a))

unfoldable pub point_told : Finding → Text → Answer → Text
point_told found subject a = point_by found.rule found.subject subject a

-- ---- all marks

-- what a mark says
unfoldable pub mark_told : Graph → Finding → Text → Answer → Sign → Text
mark_told g found subject a (sign.Origin f s) = origin_told g found subject (way_of a) f s
mark_told g found subject a sign.Point = point_told found subject a
mark_told g found subject a sign.Meeting = codes " the paths join here" ++ 10 ∷ []
