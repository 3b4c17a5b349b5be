-- The command that asks for the report on a document. Its name is this project's own.
use Rattle.std.specs.Prelude.{ℕ, List, Bool, codes, if◌then◌else◌, Option, Some, None, find, option_and_then}
use Rattle.std.specs.Str.{bytes_eq}
use Rattle.json.specs.Find.{as_str, at, get}
use Rattle.json.specs.Json.{Json}
use Rattle.flt_server_session.specs.declared.document.Document.{Document}
use Rattle.flt_server_session.specs.declared.document.KeptText.{KeptText}

-- a document has this name
abbrev pub is_named : List ℕ → Document → Bool
is_named uri document = bytes_eq document.uri uri

-- the first argument, if that is a text
abbrev pub argument_of : Json → Option (List ℕ)
argument_of params = option_and_then as_str (option_and_then (at 0) (get (codes "arguments") params))

abbrev pub if_explain : Option (List ℕ) → Option (List ℕ) → Option (List ℕ)
if_explain None argument = None
if_explain (Some command) argument = if bytes_eq command (codes "fltstack.explain") then argument else None

-- the name of the document on which the parameters ask for a report
abbrev pub explained_in : Json → Option (List ℕ)
explained_in params = if_explain (option_and_then as_str (get (codes "command") params)) (argument_of params)

-- the report that a request asks for: the id of the request, the name of the document, and what is kept of its text
pub record Report : Type 0 where
  pub id : List ℕ
  pub uri : List ℕ
  pub text : KeptText

abbrev pub report_on : List ℕ → List ℕ → Option Document → Option Report
report_on id uri None = None
report_on id uri (Some document) = Some (record { id = id; uri = uri; text = document.text })

-- the document of this name, if it is open
abbrev pub report_named : List Document → List ℕ → Option (List ℕ) → Option Report
report_named documents id None = None
report_named documents id (Some uri) = report_on id uri (find (is_named uri) documents)

-- the report that the parameters of a command ask for; none if the command is another one, or the document isn't open
abbrev pub report_asked : List Document → List ℕ → Option Json → Option Report
report_asked documents id params = report_named documents id (option_and_then explained_in params)
