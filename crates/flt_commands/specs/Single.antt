-- What is one at most, where the inputs give one thing for each name. This project's own program.
use Rattle.std.specs.Prelude.{◌≡◌, ◌≢◌, ℕ, List, Option, Some, None, Result, Ok, Err}
use Rattle.flt_words.specs.Request.{Asked, Run, Show, Explain, Format, Pages, Emit, EmitInto}
use Rattle.flt_words.specs.declared.request.FormatMode.TheVariants.{Write}
use Rattle.flt_commands.specs.Answer.{answered, output, status_of}
use Rattle.flt_commands_texts.specs.Functions.{AreListed}
use Rattle.flt_files.specs.Inputs.{Giving, Text}
use Rattle.flt_commands.specs.declared.answer.Answer.{Answer}
use Rattle.flt_commands.specs.declared.answer.Answer.TheVariants.{OfText}
use Rattle.flt_files.specs.declared.failure.Failure.{Failure}
use Rattle.flt_files.specs.declared.failure.Failure.TheVariants.{CannotRead, Flawed, TooManyWords, OutOfMemory}

-- for each name one thing is given at most: its bytes, or none
abbrev pub GivesOne : Giving → Type 0
GivesOne gives = (name : Text) (a b : Option Text) → gives name a → gives name b → a ≡ b

-- a failure, whatever the address of the name in it
abbrev pub told : Failure → Failure
told (CannotRead name) = CannotRead (record { ref_ptr = (0, 0); now = name.now })
told (Flawed name flaw) = Flawed (record { ref_ptr = (0, 0); now = name.now }) flaw
told (TooManyWords name line column) = TooManyWords (record { ref_ptr = (0, 0); now = name.now }) line column
told f = f

-- what is seen of what is said: the output and the exit status, or why there is none
abbrev pub seen : Result Answer Failure → Result (List ℕ × ℕ) Failure
seen (Ok answer) = Ok (output answer, status_of answer)
seen (Err f) = Err (told f)

-- the same is seen of both, unless memory ran out for one of them
abbrev pub AreSame : Result Answer Failure → Result Answer Failure → Type 0
AreSame a b = a ≢ Err OutOfMemory → b ≢ Err OutOfMemory → seen a ≡ seen b

-- of what is asked for one thing is said at most: of all but a run, a journal that is shown, reports, pages, layouts that are written and a
-- part of a driver. A run's journal is legal, but which journal it is stands in no clause; nor is it said which of several runs a report
-- shows, and there is no more of rows than what stands below them, and of a page than how it begins. Of a driver it isn't said in which
-- order the contexts of the instance are listed, nor which of several contexts with two kinds is named
abbrev pub HasOneAnswer : Asked → Type 0
HasOneAnswer (Run workers quiet script files) = ⊥
HasOneAnswer (Show timeline picture journal files) = ⊥
HasOneAnswer (Explain form colour search journal warnings is_c files) = ⊥
HasOneAnswer (Format Write files) = ⊥
HasOneAnswer (Pages names) = ⊥
HasOneAnswer (Emit part file cert) = ⊥
HasOneAnswer (EmitInto folder is_forced file cert) = ⊥
HasOneAnswer _ = Unit {0}

-- the same of words; those that ask for nothing print nothing
abbrev pub AskForOne : Option Asked → Type 0
AskForOne None = Unit {0}
AskForOne (Some request) = HasOneAnswer request

-- of some bytes commands of one kind say one thing at most
abbrev pub SaysOne : {A : Type 0} → (A → Answer) → (List Text → Result A Failure → Type 0) → Type 0
SaysOne {A} kind IsSaidOf =
    (texts : List Text) (a b : Result A Failure) → IsSaidOf texts a → IsSaidOf texts b → AreSame (answered kind a) (answered kind b)

-- `draft --functions` lists one thing at most, whatever the folders of headers, the lines of directives and the names are
abbrev pub ListsOne : Giving → Type 0
ListsOne gives = (folders lines names : List Text) → SaysOne OfText (AreListed gives folders lines names)
