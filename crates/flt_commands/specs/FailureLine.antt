-- Why a command has no answer, in which words. This project's own program.
use Rattle.std.specs.Prelude.{List, ℕ, ◌++◌, codes}
use Rattle.std.specs.Fmt.{decimal}
use Rattle.flt_files.specs.Flaws.{flaw_line}
use Rattle.flt_explain_texts.specs.Closing.{syntax_line}
use Rattle.flt_words.specs.Shown.{visible}
use Rattle.flt_syntax.specs.declared.fault.SyntaxFault.{SyntaxFault}
use Rattle.flt_files.specs.declared.failure.Failure.{Failure}
use Rattle.flt_files.specs.declared.failure.Failure.TheVariants.{CannotRead, CannotWrite, NoFile, TooManyFiles, Syntax, FileSyntax}
use Rattle.flt_files.specs.declared.failure.Failure.TheVariants.{Certificate, JournalLine, ScriptLine, Flawed, TooManyWords}
use Rattle.flt_files.specs.declared.failure.Failure.TheVariants.{Altitude, OutOfMemory}

-- the first fault of the text of a file of several
abbrev pub file_syntax_line : ℕ → SyntaxFault → List ℕ
file_syntax_line file f = codes "file " ++ decimal file ++ codes " " ++ syntax_line f

-- the line that says why there is no answer
abbrev pub failure_line : Failure → List ℕ
failure_line (CannotRead name) = codes "cannot read " ++ visible name.now
failure_line (CannotWrite name why) = codes "cannot write " ++ visible name.now
failure_line NoFile = codes "no file"
failure_line TooManyFiles = codes "too many files"
failure_line (Syntax f) = syntax_line f
failure_line (FileSyntax file f) = file_syntax_line file f
failure_line (Certificate line) = codes "certificate line " ++ decimal line
failure_line (JournalLine line) = codes "journal line " ++ decimal line
failure_line (ScriptLine line) = codes "script line " ++ decimal line
failure_line (Flawed name flaw) = flaw_line (visible name.now) flaw
failure_line (TooManyWords name line column) =
    visible name.now ++ (codes ":" ++ (decimal line ++ (codes ":" ++ (decimal column ++ codes ": too many words"))))
failure_line (Altitude file) = codes "altitude file " ++ decimal file
failure_line OutOfMemory = codes "out of memory"
