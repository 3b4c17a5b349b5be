-- What `serve` reads and writes, and its exit status. This project's own program.
use Rattle.std.specs.Fmt.{decimal}
use Rattle.std.specs.Prelude.{◌≡◌, ℕ, List, [], ◌∷◌, ◌++◌, ◌⊎◌, Bool, false, true, Option, None, Some, codes, string_bytes}
use Rattle.std.specs.Str.Lossy.{utf8_lossy}
use Rattle.json.specs.Json.{string}
use Rattle.json.specs.Print.{print}
use Rattle.json.specs.Tree.{json_tokens}
use Rattle.flt_c.specs.Names.{is_c_file}
use Rattle.flt_explain_parts.specs.declared.drifted.DriftedFile.{DriftedFile}
use Rattle.flt_files.specs.declared.unread.UnreadFile.{UnreadFile}
use Rattle.flt_server_frames.specs.Handling.{IsServed, IsServedSoFar, Reply}
use Rattle.flt_explain_runs.specs.Whole.{IsPrint, Look}
use Rattle.flt_explain_outcomes.specs.declared.noted.Note.{Note}
use Rattle.flt_explain_texts.specs.declared.sources.Source.{Source}
use Rattle.flt_joined.specs.Texts.{AreAnnotations, Given}
use Rattle.flt_commands_explain.specs.Sources.{IsSourceOf}
use Rattle.flt_words.specs.Shown.{visible}
use Rattle.flt_words.specs.declared.request.Form.TheVariants.{Human}
use Rattle.flt_commands_explain.specs.Allowed.{options_of}
use Rattle.flt_commands_explain.specs.Annotated.{AreFlawed}
use Rattle.flt_commands_explain.specs.Drifts.{AreDrifted, drifts_told}
use Rattle.flt_files.specs.Inputs.{Text}
use Rattle.flt_commands_explain.specs.Remarks.{unread_lines}
use Rattle.flt_commands_explain.specs.declared.serving.Explaining.{Explaining}
use Rattle.flt_server.specs.Documents.{most_bytes}
use Rattle.flt_server.specs.declared.server.Server.{Server}
use Rattle.flt_server_session.specs.Answers.{IsHandled}
use Rattle.flt_server_session.specs.declared.document.KeptText.{KeptText}
use Rattle.flt_server_session.specs.declared.document.KeptText.TheVariants.{Whole, TooLong}
use Rattle.flt_server_session.specs.declared.phase.Phase.TheVariants.{Fresh}

-- how `explain` prints without options
abbrev pub look : Look
look = record {
  coloured = false;
  search = record { states = 40000; is_stack = false };
  options = options_of (record { strict = false; allowed = [] });
}

-- this is what `explain` prints of the text that this file makes, to the letter
pub record IsExplained (g : Given) (printed : Text) : Type 0 where
  pub source : Source
  pub of : IsSourceOf (λ name. name) (g ∷ []) source
  pub notes : List Note
  pub status : ℕ
  pub print : IsPrint look (source ∷ []) notes printed status

-- the same after the drifts of this file, if it is C
pub record IsExplainedWithDrifts (g : Given) (printed : Text) : Type 0 where
  pub drifted : List DriftedFile
  pub compared : AreDrifted [] (g ∷ []) drifted
  pub own : Text
  pub explained : IsExplained g own
  pub after : printed ≡ drifts_told Human drifted ++ own

-- the same of a C file of this name, by its annotations
pub record IsExplainedInC (name file printed : Text) : Type 0 where
  pub text : Text
  pub annotations : AreAnnotations file text
  pub explained : IsExplainedWithDrifts (record { name = name; text = text; code = Some file }) printed

-- this is what it says on the standard error of a file of this name that isn't read
pub record IsUnread (name printed : Text) : Type 0 where
  pub file : UnreadFile
  pub named : string_bytes file.name ≡ name
  pub lines : printed ≡ unread_lines file

-- the same of a C file: by its annotations, or that these make no text
abbrev pub IsSaidInC : Text → Text → Text → Type 0
IsSaidInC name file printed = IsExplainedInC name file printed ⊎ (AreFlawed file × IsUnread name printed)

abbrev pub IsSaidIf : Bool → Text → Text → Text → Type 0
IsSaidIf true name file printed = IsSaidInC name file printed
IsSaidIf false name file printed = IsExplained (record { name = name; text = file; code = None }) printed

-- this is what `explain` says of a file of this name and these bytes, which is C or not by the ending of its name
abbrev pub IsSaid : Text → Text → Text → Type 0
IsSaid name file printed = IsSaidIf (is_c_file name) name file printed

-- the line on a document of this name and of so many bytes, which are too many to be kept
abbrev pub too_long_line : Text → ℕ → Text
too_long_line name length =
    codes "error: `" ++ (visible name ++ (codes "` isn't read: it has " ++ (decimal length
    ++ codes " bytes, too many for a report while it is open: run `fltstack explain` on the file\n")))

-- this is said of a document of this name of which this is kept: what `explain` says of such a file, or that it is too long, whatever its
-- bytes are
abbrev pub IsSaidOf : Text → KeptText → Text → Type 0
IsSaidOf name (Whole bytes) printed = IsSaid name bytes printed
IsSaidOf name (TooLong length) printed = printed ≡ too_long_line name length

-- bytes as a JSON string
abbrev pub as_string : Text → Text
as_string bytes = print (json_tokens (string (utf8_lossy bytes)))

-- the report on a document of this name of which this is kept: what is said of it, as a JSON string
abbrev pub IsReport : Text → KeptText → Text → Type 0
IsReport name text report = (printed : Text) × IsSaidOf name text printed × (report ≡ as_string printed)

-- a server whose client has sent nothing yet
abbrev pub IsNew : Server Explaining → Type 0
IsNew server = (server.session.phase ≡ Fresh) × (server.session.documents ≡ [])

-- a server in the first state may answer this body so, and is then in the second
abbrev pub MayAnswer : Server Explaining → Text → Reply → Server Explaining → Type 0
MayAnswer old body reply new = IsHandled most_bytes IsReport old.session body reply new.session

-- a new server answered the frames of a stream one after the other, and ended with this status. The first two are the bytes of the stream
-- before and after it, the others what a writer had taken before and after it
abbrev pub Serves : Option Text → Option Text → Option Text → Option Text → ℕ → Type 0
Serves had left old new status = (first last : Server Explaining) × IsNew first × IsServed MayAnswer first last had left old new status

-- a new server answered some first frames of a stream, and stopped
abbrev pub ServesSoFar : Option Text → Option Text → Option Text → Type 0
ServesSoFar had old new = (first : Server Explaining) × IsNew first × IsServedSoFar MayAnswer first had old new

-- the same over streams of the host, of which nobody knows what they gave and took
abbrev pub ServesSomehow : ℕ → Type 0
ServesSomehow status = (had left old new : Option Text) × Serves had left old new status
