-- What is said of inputs that aren't texts of filters. This project's own program.
use Rattle.std.specs.Prelude.{◌≡◌, ℕ, Bool, true, ◌&&◌, ◌||◌, not, nat_lt, List, [], ◌∷◌, ◌++◌, Option}
use Rattle.std.specs.Prelude.{Some, None, codes, drop, eqb, if◌then◌else◌, length, IsTrue}
use Rattle.std.specs.List.{starts_with}
use Rattle.std.specs.Fmt.{decimal}
use Rattle.flt_cert.specs.Spelling as certificates
use Rattle.flt_cert.specs.declared.cert.Cert.{Cert}
use Rattle.flt_model.specs.JournalText as journals
use Rattle.flt_explain_reasons.specs.declared.notice.Kind.{Kind}
use Rattle.flt_stack_script.specs.ScriptText as scripts
use Rattle.flt_explain_reasons.specs.declared.notice.Kind.TheVariants.{Certificate, Journal, Script}
use Rattle.flt_explain_reasons.specs.declared.notice.Notice.{Notice}
use Rattle.flt_explain_reasons.specs.declared.notice.Notice.TheVariants.{Whole, Malformed}

abbrev pub Text : Type 0
Text = List ℕ

-- a text spells a certificate of so many callbacks, in either format
pub record IsCertificate (text : Text) (count : ℕ) : Type 0 where
  pub cert : Cert
  pub is : IsTrue (certificates.is_cert cert)
  pub spelled : text ≡ certificates.spelling cert
  pub many : count ≡ certificates.callbacks_in cert

-- a text spells a journal of so many entries
pub record IsJournal (text : Text) (count : ℕ) : Type 0 where
  pub entries : journals.Entries
  pub is : journals.IsJournal entries
  pub spelled : text ≡ journals.spelling entries
  pub many : count ≡ length entries

-- a text spells a script of so many commands, for this stack
pub record IsScript (stack : scripts.Stack) (text : Text) (count : ℕ) : Type 0 where
  pub commands : scripts.Commands
  pub is : IsTrue (scripts.is_script stack commands)
  pub spelled : text ≡ scripts.spelling commands
  pub many : count ≡ length commands

-- the same of each kind
abbrev pub IsWhole : scripts.Stack → Kind → Text → ℕ → Type 0
IsWhole stack Certificate = IsCertificate
IsWhole stack Journal = IsJournal
IsWhole stack Script = IsScript stack

-- the first malformed line of a text, as the readers say it
abbrev pub IsFirstFault : scripts.Stack → Kind → Text → ℕ → Type 0
IsFirstFault stack Certificate text line = certificates.IsFirstFault text line
IsFirstFault stack Journal text line = (left : Text) × journals.IsFirstFault text line left
IsFirstFault stack Script text line = scripts.IsFirstFault stack text line

-- what is said of a text that is taken for a certificate, for a journal or for a script of this stack: it is one, or this is its first
-- malformed line
abbrev pub IsNotice : scripts.Stack → Kind → Text → Notice → Type 0
IsNotice stack kind text (Whole own count) = (own ≡ kind) × IsWhole stack kind text count
IsNotice stack kind text (Malformed own reason) = (own ≡ kind) × IsFirstFault stack kind text reason.line

-- 0 where nothing is wrong, else 2
abbrev pub status_of : Notice → ℕ
status_of (Whole kind count) = 0
status_of (Malformed kind reason) = 2

abbrev pub kind_name : Kind → List ℕ
kind_name Certificate = codes "certificate"
kind_name Journal = codes "journal"
kind_name Script = codes "script"

-- what is said last: the first malformed line, or that nothing is found
abbrev pub closing : Notice → List ℕ
closing (Whole kind count) = codes "nothing found" ++ 10 ∷ []
closing (Malformed kind reason) = kind_name kind ++ codes " line " ++ decimal reason.line ++ 10 ∷ []

-- a word ends before this: before nothing, a blank or a control character
abbrev pub ends_word : Text → Bool
ends_word [] = true
ends_word (b ∷ text) = not (nat_lt 32 b)

-- a text begins with this word
abbrev pub begins_with : Text → Text → Bool
begins_with text word = starts_with eqb text word && ends_word (drop (length word) text)

-- a text begins with the word of a script's command
abbrev pub begins_script : Text → Bool
begins_script text = begins_with text (codes "arrive") || (begins_with text (codes "cancel")
    || (begins_with text (codes "detach") || begins_with text (codes "refuse")))

-- what a text is taken for that begins with the word that begins a certificate or a journal, or with that of a command
abbrev pub kind_of : Text → Option Kind
kind_of text = if starts_with eqb text (codes "fltcert") then Some Certificate
    else if starts_with eqb text (codes "fltjournal") then Some Journal
    else if begins_script text then Some Script
    else None
