-- What is asked of the program. This project's own program.
use Rattle.std.specs.Prelude.{ℕ, List, [], Bool, Option, Some, None, option_map, map}
use Rattle.clap.specs.Walk.{Text}
use Rattle.flt_words.specs.declared.request.Colour.{Colour}
use Rattle.flt_words.specs.declared.request.Form.{Form}
use Rattle.flt_words.specs.declared.request.FormatMode.{FormatMode}
use Rattle.flt_words.specs.declared.request.Part.{Part}
use Rattle.flt_words.specs.declared.request.Request.{Request}
use Rattle.flt_words.specs.declared.request.Request.TheVariants as request
use Rattle.flt_words.specs.declared.request.SearchChoice.{SearchChoice}
use Rattle.flt_words.specs.declared.request.WarningChoice.{WarningChoice}

-- what is asked of warnings: whether one that is shown counts for the exit status, and the names of the kinds that are left out
pub record Choice : Type 0 where
  pub strict : Bool
  pub allowed : List Text

abbrev pub choice_of : WarningChoice → Choice
choice_of c = record { strict = c.is_strict; allowed = map (λ name. name.now) c.allowed.items }

-- what is asked for
pub data Asked : Type 0 where
  Check : (file : Text) (cert : Option Text) → Asked
  Analyse : (file : Text) → Asked
  Thin : (file : Text) (cert : Option Text) → Asked
  Run : (workers : ℕ) (quiet : Bool) (script : Text) (files : List Text) → Asked
  Replay : (journal : Text) (files : List Text) → Asked
  Show : (timeline : Bool) (picture : Option Text) (journal : Text) (files : List Text) → Asked
  Explain : (form : Form) (colour : Colour) (search : SearchChoice) (journal : Option Text) (warnings : Choice) (is_c : Bool)
      (files : List Text) → Asked
  Extract : (map : Bool) (files : List Text) → Asked
  Format : (mode : FormatMode) (files : List Text) → Asked
  Pages : (names : List Text) → Asked
  Emit : (part : Part) (file : Text) (cert : Option Text) → Asked
  EmitInto : (folder : Text) (is_forced : Bool) (file : Text) (cert : Option Text) → Asked
  Compare : (files : List Text) → Asked
  Functions : (defined undefined folders files : List Text) → Asked
  Serve : Asked

-- what a request asks for, none where it is for a text of the program's own: its use, or its version
abbrev pub asked_of : Request → Option Asked
asked_of (request.Check file cert) = Some (Check file.now (option_map (λ name. name.now) cert))
asked_of (request.Analyse file) = Some (Analyse file.now)
asked_of (request.Thin file cert) = Some (Thin file.now (option_map (λ name. name.now) cert))
asked_of (request.Run workers quiet script files) = Some (Run workers.count quiet script.now (map (λ name. name.now) files.items))
asked_of (request.Replay journal files) = Some (Replay journal.now (map (λ name. name.now) files.items))
asked_of (request.Show timeline picture journal files) =
    Some (Show timeline (option_map (λ name. name.now) picture) journal.now (map (λ name. name.now) files.items))
asked_of (request.Explain form colour search journal warnings is_c files) =
    Some (Explain form colour search (option_map (λ name. name.now) journal) (choice_of warnings) is_c
    (map (λ name. name.now) files.items))
asked_of (request.Extract of_map files) = Some (Extract of_map (map (λ name. name.now) files.items))
asked_of (request.Format mode files) = Some (Format mode (map (λ name. name.now) files.items))
asked_of (request.Pages names) = Some (Pages (map (λ name. name.now) names.items))
asked_of request.Serve = Some Serve
asked_of (request.Usage text) = None
asked_of (request.Emit part file cert) = Some (Emit part file.now (option_map (λ name. name.now) cert))
asked_of (request.EmitInto folder is_forced file cert) =
    Some (EmitInto folder.now is_forced file.now (option_map (λ name. name.now) cert))
asked_of (request.Compare files) = Some (Compare (map (λ name. name.now) files.items))
asked_of (request.Functions defined undefined folders files) =
    Some (Functions (map (λ name. name.now) defined.items) (map (λ name. name.now) undefined.items)
    (map (λ name. name.now) folders.items) (map (λ name. name.now) files.items))

-- the files of which `explain` reports
abbrev pub explained_files : Option Asked → List Text
explained_files (Some (Explain form colour search journal warnings is_c files)) = files
explained_files request = []

-- the same request, with these files where it is one of `explain` for files
abbrev pub with_files : List Text → Option Asked → Option Asked
with_files files (Some (Explain form colour search journal warnings is_c given)) =
    Some (Explain form colour search journal warnings is_c files)
with_files files request = request
