-- What is written under the name of a picture. This project's own program.
use Rattle.std.specs.Prelude.{List, [], ◌∷◌, Option, Some, None, Result, Ok, Err}
use Rattle.flt_syntax.specs.Texts.{AreSpelled}
use Rattle.flt_door.specs.Door.{at_door}
use Rattle.flt_model.specs.declared.verdict.Verdict.{Verdict}
use Rattle.flt_explain_picture.specs.Pictures.{IsPicture}
use Rattle.flt_explain_picture.specs.Titles.{title_of}
use Rattle.flt_tree.specs.declared.filter.Filter.{Filter}
use Rattle.flt_files.specs.Attempts.{Attempt, IsUndone, Wrote}
use Rattle.flt_files.specs.Inputs.{Text}
use Rattle.flt_commands_runs.specs.declared.answer.RunAnswer.{RunAnswer}
use Rattle.flt_commands_runs.specs.declared.answer.RunAnswer.TheVariants.{Shown}
use Rattle.flt_files.specs.declared.failure.Failure.{Failure}

-- what goes out of a picture with the title of this verdict on these filters is written under a name, and nothing else is done
abbrev pub IsDrawnOf : (Text → Text → Type 0) → (List Attempt → Type 0) → Text → List Filter → Verdict → Type 0
IsDrawnOf written does name filters v =
    (drawn : Text) × IsPicture (title_of filters v) drawn × written name (at_door drawn) × does (Wrote name (at_door drawn) ∷ [])

-- the same where one is named and there is an answer; where there is none, the file of the name couldn't be written, or nothing is done
abbrev pub IsDrawnIn : (Text → Text → Type 0) → (List Attempt → Type 0) → Option Text → List Filter → Verdict →
    Result RunAnswer Failure → Type 0
IsDrawnIn written does (Some name) filters v (Ok answer) = IsDrawnOf written does name filters v
IsDrawnIn written does (Some name) filters v (Err f) = IsUndone does name f
IsDrawnIn written does None filters v said = does []

-- the picture of a journal that is shown is written under a name: it has the title of the verdict on the filters that these texts spell
abbrev pub IsDrawn : (Text → Text → Type 0) → (List Attempt → Type 0) → Text → List Text → RunAnswer → Type 0
IsDrawn written does name texts (Shown rows v) =
    (filters : List Filter) × AreSpelled texts filters × IsDrawnOf written does name filters v
IsDrawn written does name texts _ = ⊥

-- the same where one is named and there is an answer
abbrev pub IsDrawnFor : (Text → Text → Type 0) → (List Attempt → Type 0) → Option Text → List Text → Result RunAnswer Failure → Type 0
IsDrawnFor written does (Some name) texts (Ok answer) = IsDrawn written does name texts answer
IsDrawnFor written does (Some name) texts (Err f) = IsUndone does name f
IsDrawnFor written does None texts said = does []
