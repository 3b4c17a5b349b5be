-- Contexts: whose values are changed without a lock (W04), and that might not be set (W05). This project's own program.
use Rattle.std.specs.Prelude.{ℕ, List, [], ◌∷◌, codes, Option, Some, None}
use Rattle.std.specs.List.{concat}
use Rattle.flt_tree.specs.Names.{Text}
use Rattle.flt_tree.specs.declared.filter.Action.TheVariants.{ReadValue, WriteValue}
use Rattle.flt_tree.specs.declared.variable.ContextVariable.{ContextVariable}
use Rattle.flt_graph.specs.Instruction.{roles}
use Rattle.flt_graph.specs.declared.instruction.Instruction.{Instruction}
use Rattle.flt_graph.specs.declared.instruction.Instruction.TheVariants.{Act, Call}
use Rattle.flt_explain.specs.declared.finding.Subject.{Subject}
use Rattle.flt_explain.specs.declared.finding.Subject.TheVariants as about
use Rattle.flt_explain_texts.specs.Operands.{context_word}
use Rattle.flt_explain_texts.specs.Page.{marked, quoted}
use Rattle.flt_explain_warnings.specs.Warning.{site}
use Rattle.flt_explain_warnings.specs.declared.warning.Site.{Site}
use Rattle.flt_explain_warning_details.specs.Locks.{called}
use Rattle.flt_explain_warning_details.specs.Parsed.{Parsed, instruction}
use Rattle.flt_explain_warning_details.specs.Places.{marks_at}
use Rattle.flt_explain_warning_details.specs.declared.detail.RelatedPlace.{RelatedPlace}

-- the context that an instruction works on
abbrev pub worked_on : Instruction → Option ContextVariable
worked_on (Act (ReadValue n c) next) = Some c
worked_on (Act (WriteValue c a) next) = Some c
worked_on (Call c granted refused) = (roles c).context
worked_on _ = None

-- the variable in which a call gives the context that it found
abbrev pub found_in : Instruction → Option ContextVariable
found_in (Call c granted refused) = (roles c).output
found_in _ = None

-- what is named where an instruction works on a context
abbrev pub subject_of : Option ContextVariable → Subject
subject_of (Some c) = about.Context c
subject_of None = about.Call

-- the context that an instruction works on, in words
abbrev pub context_told : Option ContextVariable → Text
context_told (Some c) = quoted (context_word c)
context_told None = codes "this context"

-- the same of a point
abbrev pub told_at : Parsed → Site → Text
told_at x s = context_told (worked_on (instruction x s))

-- ---- W04

-- that a value is written under no common lock
unfoldable pub changed_title : Parsed → Site → Text
changed_title x s =
    concat (codes "the value of " ∷ told_at x s ∷ codes " is written with no lock in common with another use" ∷ [])

-- how to fix it
abbrev pub changed_help : Text
changed_help = codes "hold one lock wherever this value is read or written"

-- what may come of it
abbrev pub changed_note : Text
changed_note = codes "callbacks that run at the same time might lose one of two changes"

-- what an instruction does with a value
abbrev pub access : Instruction → Text
access (Act (WriteValue c a) next) = codes "writes the value of "
access _ = codes "reads the value of "

-- what the other use of a value does
unfoldable pub access_words : Parsed → Site → Text
access_words x s = concat (access (instruction x s) ∷ told_at x s ∷ [])

-- its place
abbrev pub access_place : Parsed → Site → RelatedPlace
access_place x s = record { marks = marks_at x s (subject_of (worked_on (instruction x s))); words = access_words x s }

-- ---- W05

-- that a context might not be set
unfoldable pub lost_title : Parsed → Site → Text
lost_title x s =
    concat (told_at x s ∷ codes " is used where " ∷ marked (called (instruction x s)) ∷ codes " might not have set it" ∷ [])

-- which context to use, by the variable that has it
abbrev pub lost_help_by : Text → Option ContextVariable → Text
lost_help_by own (Some other) =
    concat (codes "where the call fails, release " ∷ own ∷ codes " and use " ∷ quoted (context_word other)
    ∷ codes ", which has the context that is set" ∷ [])
lost_help_by own None =
    concat (codes "where the call fails, release " ∷ own ∷ codes " and use the context that is set: `old` and a variable receive it" ∷ [])

-- how to fix it
unfoldable pub lost_help : Parsed → Site → Text
lost_help x s = lost_help_by (told_at x s) (found_in (instruction x s))

-- what may come of it
unfoldable pub lost_note : Parsed → Site → Text
lost_note x s =
    concat (codes "where another context is set already, no other callback sees values written in " ∷ told_at x s ∷ [])

-- what is done where the context is used
unfoldable pub lost_words : Option ContextVariable → Text
lost_words c = concat (codes "uses " ∷ context_told c ∷ codes ", which might be set nowhere" ∷ [])

-- that place, by the call that might not set it
abbrev pub lost_place : Parsed → Site → ℕ → RelatedPlace
lost_place x s point = record {
  marks = marks_at x (site s.callback point) (subject_of (worked_on (instruction x s)));
  words = lost_words (worked_on (instruction x s));
}
