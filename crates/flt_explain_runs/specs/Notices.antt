-- What is said of certificates, journals and scripts above the last line. This project's own program.
use Rattle.std.specs.Prelude.{◌≡◌, ℕ, ◌==◌, Bool, true, false, ◌&&◌, ◌||◌, List, [], ◌∷◌, ◌++◌, codes, eqb, if◌then◌else◌, length}
use Rattle.std.specs.Prelude.{string_bytes}
use Rattle.std.specs.Fmt.{decimal}
use Rattle.std.specs.List.{concat, starts_with}
use Rattle.flt_tree.specs.Names.{Text}
use Rattle.flt_explain_reasons.specs.declared.notice.Kind.{Kind}
use Rattle.flt_explain_reasons.specs.declared.notice.Kind.TheVariants.{Certificate, Journal, Script}
use Rattle.flt_explain_reasons.specs.declared.notice.Notice.{Notice}
use Rattle.flt_explain_reasons.specs.declared.notice.Notice.TheVariants.{Whole, Malformed}
use Rattle.flt_explain_reasons.specs.declared.notice.Reason.{Reason}
use Rattle.flt_explain_reports.specs.Line.{line_report}
use Rattle.flt_explain_reports.specs.declared.line_report.MarkedLine.{MarkedLine}
use Rattle.flt_shown.specs.Shown.{shown}

-- a line detaches a filter, read from the start of a line or from within one
abbrev pub detaches_from : Bool → Text → Bool
detaches_from begins [] = false
detaches_from begins (b ∷ bytes) =
    (begins && starts_with eqb (b ∷ bytes) (codes "detach ")) || detaches_from (b == 10) bytes

-- a script has a line that detaches a filter
abbrev pub detaches : Text → Bool
detaches script = detaches_from true script

-- one thing, or several
abbrev pub things : ℕ → List ℕ → List ℕ → List ℕ
things count one several = if count == 1 then one else several

-- that nothing is known of the filters of a script that is alone
abbrev pub altitude_note : Bool → List ℕ
altitude_note true = codes "   = note: no text that parses is named beside it, so any altitude may be detached" ++ 10 ∷ []
altitude_note false = []

-- that a file of a name is well-formed, and how many things it has
unfoldable pub well_formed : Text → List ℕ → ℕ → List ℕ → List ℕ → List ℕ
well_formed name kind count one several =
    concat (shown name ∷ kind ∷ decimal count ∷ codes " " ∷ things count one several ∷ (10 ∷ []) ∷ [])

-- how it is used: a call, by its words before the name and after it
unfoldable pub use_of : List ℕ → Text → List ℕ → List ℕ
use_of call name rest = concat (codes "   = help: `fltstack " ∷ call ∷ shown name ∷ rest ∷ (10 ∷ []) ∷ [])

-- a certificate: that it is well-formed, how much it has, and its use
unfoldable pub certificate_lines : Text → ℕ → List ℕ
certificate_lines name count =
    well_formed name (codes ": a well-formed certificate of ") count (codes "callback") (codes "callbacks")
    ++ use_of (codes "check FILE ") name (codes "` says whether it covers a text")

-- the same of a journal
unfoldable pub journal_lines : Text → ℕ → List ℕ
journal_lines name count =
    well_formed name (codes ": a well-formed journal of ") count (codes "entry") (codes "entries")
    ++ use_of (codes "replay ") name (codes " FILE..` says what it breaks on filters")

-- the same of a script
unfoldable pub script_lines : Bool → Text → ℕ → List ℕ
script_lines is_alone name count =
    well_formed name (codes ": a well-formed script of ") count (codes "command") (codes "commands")
    ++ (altitude_note is_alone ++ use_of (codes "run ") name (codes " FILE..` drives filters by it"))

-- one that is well-formed
abbrev pub whole_lines : Bool → Text → Kind → ℕ → List ℕ
whole_lines is_alone name Certificate count = certificate_lines name count
whole_lines is_alone name Journal count = journal_lines name count
whole_lines is_alone name Script count = script_lines is_alone name count

-- the report of the first malformed line of a file, with its reason
pub record IsReasonReport (coloured : Bool) (name : Text) (r : Reason) (lines : List ℕ) : Type 0 where
  pub marked : MarkedLine
  pub named : marked.name.now ≡ name
  pub line : marked.line ≡ r.file_line
  pub column : marked.column ≡ r.column
  pub shown : marked.shown.now ≡ r.shown.now
  pub many : marked.marked ≡ length r.found.now
  pub message : marked.message.now ≡ r.message.items
  pub meant : marked.meant.now ≡ r.meant.items
  pub help : marked.help.now ≡ string_bytes r.help
  pub whole : lines ≡ line_report coloured marked

-- either one that is well-formed, or the first malformed line of another
abbrev pub AreNoticeLines : Bool → Bool → Text → Notice → List ℕ → Type 0
AreNoticeLines coloured is_alone name (Whole kind count) lines = lines ≡ whole_lines is_alone name kind count
AreNoticeLines coloured is_alone name (Malformed kind reason) lines = IsReasonReport coloured name reason lines
