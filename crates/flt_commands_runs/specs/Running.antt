-- What `run` says. This project's own program.
use Rattle.std.specs.Prelude.{◌≡◌, ◌<◌, List, [], ◌∷◌, length, Result, Ok, Err}
use Rattle.flt_stack_crew.specs.Running.{IsRun}
use Rattle.flt_stack_prepare.specs.Preparing.{Fails}
use Rattle.flt_stack_prepare.specs.declared.fault.RunFault.TheVariants as fault
use Rattle.flt_files.specs.Inputs.{Text}
use Rattle.flt_rules.specs.Limits.{max_filters}
use Rattle.flt_commands_runs.specs.declared.answer.RunAnswer.{RunAnswer}
use Rattle.flt_commands_runs.specs.declared.answer.RunAnswer.TheVariants.{Ran, FileRefused}
use Rattle.flt_files.specs.declared.failure.Failure.{Failure}
use Rattle.flt_files.specs.declared.failure.Failure.TheVariants.{NoFile, TooManyFiles, FileSyntax, ScriptLine, Altitude, OutOfMemory}

-- the journal is that of a stack of the filters that the texts spell; or this file is the first that no certificate covers, where the
-- script is one for them
abbrev pub IsAnswer : Text → List Text → RunAnswer → Type 0
IsAnswer script texts (Ran ran) = IsRun script texts ran
IsAnswer script texts (FileRefused number f) = Fails script texts (fault.Refused number f)
IsAnswer script texts _ = ⊥

-- the first fault of the texts, or else that of the script, or else, where no text is refused, of the altitudes; memory may run out
abbrev pub IsFailure : Text → List Text → Failure → Type 0
IsFailure script texts NoFile = length texts ≡ 0
IsFailure script texts TooManyFiles = max_filters < length texts
IsFailure script texts (FileSyntax number f) = Fails script texts (fault.Syntax number f)
IsFailure script texts (ScriptLine line) = Fails script texts (fault.Script line)
IsFailure script texts (Altitude number) = Fails script texts (fault.Altitude number)
IsFailure script texts OutOfMemory = Unit {0}
IsFailure script texts _ = ⊥

-- what is said of a script and some texts
abbrev pub Judges : Text → List Text → Result RunAnswer Failure → Type 0
Judges script texts (Ok a) = IsAnswer script texts a
Judges script texts (Err f) = IsFailure script texts f

-- what is said of the bytes of SCRIPT and of each FILE
abbrev pub IsRan : List Text → Result RunAnswer Failure → Type 0
IsRan (script ∷ texts) result = Judges script texts result
IsRan [] result = ⊥
