-- The page on texts that `explain` makes. This project's own program.
use Rattle.std.specs.Prelude.{◌≡◌, ℕ, ◌==◌, false, List, [], ◌∷◌, ◌++◌, Option, Some, None, flat_map, map}
use Rattle.std.specs.List.{slice_split}
use Rattle.flt_tree.specs.declared.tree.Tree.{Tree}
use Rattle.flt_model.specs.Program.{filters_of}
use Rattle.flt_model.specs.declared.verdict.Verdict.TheVariants as verdicts
use Rattle.flt_search.specs.declared.judging.BreakingJournal.{BreakingJournal}
use Rattle.flt_explain_outcomes.specs.declared.schedules.Schedule.{Schedule}
use Rattle.flt_explain_outcomes.specs.declared.schedules.Schedule.TheVariants.{Breaks}
use Rattle.flt_shown.specs.Shown.{shown}
use Rattle.flt_explain_warning_details.specs.declared.options.WarningOptions.{WarningOptions}
use Rattle.flt_explain_picture.specs.Pictures.{IsPicture}
use Rattle.flt_explain_picture.specs.Titles.{title_of}
use Rattle.flt_explain_texts.specs.Reports.{texts_of}
use Rattle.flt_places.specs.declared.files.SourceFile.{SourceFile}
use Rattle.flt_explain_texts.specs.declared.sources.Source.{Source}
use Rattle.flt_explain_outcomes.specs.Noted.{own_of, schedule_of}
use Rattle.flt_explain_outcomes.specs.Parsed.{AreParsed}
use Rattle.flt_explain_runs.specs.Reported.{AreReports}
use Rattle.flt_explain_runs.specs.Whole.{IsPrint, Look}
use Rattle.flt_explain_outcomes.specs.declared.noted.Note.{Note}
use Rattle.flt_explain_html.specs.Page.{IsPage}
use Rattle.flt_explain_html.specs.declared.texts.ShownText.{ShownText}
use Rattle.flt_files.specs.Inputs.{Text}

-- ---- texts

-- a file in which a text is, as reports show it: its name, and its lines without their ends
abbrev pub shown_file : SourceFile → ShownText
shown_file f = record { name = shown f.name.now; lines = map shown (slice_split (λ b. b == 10) f.lines) }

-- the files of some texts
abbrev pub shown_files : List Source → List ShownText
shown_files sources = flat_map (λ (s : Source). map shown_file s.files.all.now) sources

-- ---- pictures

-- the run that breaks something
abbrev pub run_in : Schedule → Option BreakingJournal
run_in (Breaks run) = Some run
run_in _ = None

-- the run of a finding
abbrev pub run_of : Note → Option BreakingJournal
run_of n = run_in (schedule_of n.scheduled)

-- a picture of a run of a finding: its title has the names of the filters that run, and what the run breaks and where
abbrev pub IsDrawn : List Tree → Note → BreakingJournal → Text → Type 0
IsDrawn trees n run picture =
    IsPicture (title_of (filters_of (own_of trees n.filter n.scheduled)) (verdicts.Breaks run.violation run.entry)) picture

-- a picture for each finding that has a run, in their order; these are the trees of the texts that parse
pub data AreDrawn (trees : List Tree) : List Note → List Text → Type 0 where
  no_note : AreDrawn trees [] []
  drawn : {notes : List Note} {pictures : List Text} (n : Note) (run : BreakingJournal) (picture : Text) → AreDrawn trees notes pictures →
      run_of n ≡ Some run → IsDrawn trees n run picture → AreDrawn trees (notes ++ n ∷ []) (pictures ++ picture ∷ [])
  undrawn : {notes : List Note} {pictures : List Text} (n : Note) → AreDrawn trees notes pictures → run_of n ≡ None →
      AreDrawn trees (notes ++ n ∷ []) pictures

-- the same, where the trees are those of the texts that parse
pub record HasPictures (sources : List Source) (notes : List Note) (pictures : List Text) : Type 0 where
  pub trees : List Tree
  pub parsed : AreParsed (texts_of sources) (filters_of trees)
  pub drawn : AreDrawn trees notes pictures

-- ---- the page

-- a page on what is printed of texts, with the pictures of the runs of these findings
pub record HasPage (sources : List Source) (notes : List Note) (printed written : Text) : Type 0 where
  pub pictures : List Text
  pub drawn : HasPictures sources notes pictures
  pub page : IsPage (shown_files sources) printed pictures written

-- a page on what is reported of texts, after these drifts
pub record IsPageOn (options : WarningOptions) (drifts : Text) (sources : List Source) (written : Text) (status : ℕ) : Type 0 where
  pub printed : Text
  pub notes : List Note
  pub reports : AreReports options sources printed status
  pub page : HasPage sources notes (drifts ++ printed) written

-- without colours
abbrev pub plain : Look → Look
plain look = record { coloured = false; search = look.search; options = look.options }

-- a page on what is printed of texts without colours, after these drifts
pub record IsPaged (look : Look) (drifts : Text) (sources : List Source) (notes : List Note) (written : Text) (status : ℕ) : Type 0 where
  pub printed : Text
  pub print : IsPrint (plain look) sources notes printed status
  pub page : HasPage sources notes (drifts ++ printed) written
