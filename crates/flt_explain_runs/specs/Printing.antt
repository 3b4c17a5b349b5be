-- Reports and notes, put together. This project's own program.
use Rattle.std.specs.Prelude.{◌≡◌, ◌≤◌, ℕ, true, false, Bool, List, ◌++◌, Option, flat_map, length, take}
use Rattle.flt_door.specs.Lines.{Shows}
use Rattle.flt_tree.specs.declared.filter.Filter.{Filter}
use Rattle.flt_tree.specs.declared.tree.Tree.{Tree}
use Rattle.flt_model.specs.Program.{filters_of}
use Rattle.flt_places.specs.declared.files.Files.{Files}
use Rattle.flt_explain_origins.specs.declared.grouping.Group.{Group}
use Rattle.flt_explain_texts.specs.Reports.{name_of}
use Rattle.flt_explain_texts.specs.declared.scene.Scene.{Scene}
use Rattle.flt_explain_texts.specs.declared.sources.Source.{Source}
use Rattle.flt_explain_ways.specs.declared.tracing.Traces.{Traces}
use Rattle.flt_explain_reasons.specs.Notice as notices
use Rattle.flt_explain_reasons.specs.declared.notice.Notice.{Notice}
use Rattle.flt_explain_warning_details.specs.Details.{AreWarningDetails}
use Rattle.flt_explain_warning_details.specs.declared.detail.WarningDetail.{WarningDetail}
use Rattle.flt_explain_warning_details.specs.declared.options.WarningOptions.{WarningOptions}
use Rattle.flt_explain_outcomes.specs.Noted.{AreNotesIn}
use Rattle.flt_explain_runs.specs.Notices.{AreNoticeLines}
use Rattle.flt_explain_outcomes.specs.Noting.{AreNotesFor, IsParsed}
use Rattle.flt_explain_runs.specs.Parts.{block_bytes, body_bytes, body_notes, notes_in, report_bytes}
use Rattle.flt_explain_runs.specs.Quiet.{quieted}
use Rattle.flt_explain_outcomes.specs.Readings.{known_in, sources_read, texts_read}
use Rattle.flt_explain_runs.specs.Reported.{AreParts, IsAllButLast, IsReport, faults_in}
use Rattle.flt_explain_runs.specs.Told.{Say}
use Rattle.flt_explain_runs.specs.Totals.{with_tally}
use Rattle.flt_explain_runs.specs.Warned.{Warned}
use Rattle.flt_explain_runs.specs.Whole.{AreBlocks, ArePrints, IsBlock, IsBody, IsKnownPrint, IsNoticePrint}
use Rattle.flt_explain_runs.specs.Whole.{IsUnreadPrint, Look, is_alone, warned_at}
use Rattle.flt_explain_outcomes.specs.declared.noted.Note.{Note}
use Rattle.flt_explain_outcomes.specs.declared.noting.ParsedText.{ParsedText}
use Rattle.flt_explain_runs.specs.declared.parts.Block.{Block}
use Rattle.flt_explain_runs.specs.declared.parts.Body.{Body}
use Rattle.flt_explain_runs.specs.declared.parts.TextReport.{TextReport}
use Rattle.flt_explain_runs.specs.declared.printing.Printer.{Printer}
use Rattle.flt_explain_outcomes.specs.declared.readings.Reading.{Reading}
use Rattle.flt_explain_outcomes.specs.declared.readings.Reading.TheVariants as reading
use Rattle.flt_explain_outcomes.specs.declared.readings.StudiedText.{StudiedText}
use Rattle.flt_explain_outcomes.specs.declared.schedules.RunSearch.{RunSearch}
use Rattle.flt_explain_runs.specs.declared.together.PrintedTexts.{PrintedTexts}
use Rattle.flt_explain_runs.specs.declared.totals.Total.{Total}

-- how reports are printed
abbrev pub look_of : Printer → Look
look_of p = record { coloured = p.coloured; search = p.stage.search; options = p.options }

-- ---- one text

-- a text that parses has this tree, these points, findings and warnings
pub record IsKnownIn (look : Look) (trees : List Tree) (k : ParsedText) (details : List WarningDetail) : Type 0 where
  pub parsed : IsParsed trees k
  pub warned : AreWarningDetails k.source.files k.source.text.now k.tree.now.filter k.graph.now k.found.now look.options.allowed
      details

-- the same, as a text with warnings
abbrev pub warned_in : Look → List Tree → ParsedText → Warned
warned_in look trees k = warned_at look trees k.place k.source k.tree.now

-- a block has what is printed of a group, with its note
abbrev pub IsBlockOf : Printer → Scene → Traces → Group → Note → Block → Type 0
IsBlockOf p s traces group n b =
    IsBlock (look_of p) p.stage.trees.now p.files.now s.files s.lines.now s.tree.now.filter s.graph.now traces group n (block_bytes b)

-- the same of blocks, groups and notes
abbrev pub AreBlocksOf : Printer → Scene → Traces → List Group → List Note → List Block → Type 0
AreBlocksOf p s traces groups notes blocks =
    AreBlocks (look_of p) p.stage.trees.now p.files.now s.files s.lines.now s.tree.now.filter s.graph.now traces groups notes
    (flat_map block_bytes blocks)

-- a body has what is printed of a text that parses above the last line
abbrev pub IsBodyOf : Printer → ParsedText → List WarningDetail → Body → Type 0
IsBodyOf p k details b =
    IsBody (look_of p) p.stage.trees.now p.files.now k.place k.source k.tree.now k.graph.now k.found.now details (body_notes b)
    (body_bytes b)

-- ---- the whole of one text

-- the report of a text
abbrev pub HasReport : WarningOptions → List Filter → Source → TextReport → Type 0
HasReport options filters s p = IsReport options filters s (report_bytes p) p.tally.status p.tally.findings

-- the report of a certificate, a journal or a script, where these are the trees of the texts that parse
pub record IsNoticeOf (look : Look) (trees : List Tree) (s : Source) (n : Notice) (p : TextReport) : Type 0 where
  pub lines : List ℕ
  pub are : AreNoticeLines look.coloured (is_alone trees s.text.now) (name_of s) n lines
  pub whole : report_bytes p ≡ quieted lines ++ notices.closing n
  pub worth : p.tally.status ≡ notices.status_of n
  pub many : p.tally.findings ≡ faults_in n

-- what is printed of a text that doesn't parse, taken for something else or not
abbrev pub IsUnreadPart : Look → Source → TextReport → Type 0
IsUnreadPart look s p = IsUnreadPrint look s (report_bytes p) p.tally.status p.tally.findings

abbrev pub IsNoticePart : Look → List Tree → Source → TextReport → Type 0
IsNoticePart look trees s p = IsNoticePrint look trees s (report_bytes p) p.tally.status p.tally.findings

-- what is printed of a text that parses, whose tree is that of this place
abbrev pub IsKnownPart : Look → List Tree → List Files → ℕ → Source → TextReport → Type 0
IsKnownPart look trees files place s p =
    IsKnownPrint look trees files place s (notes_in p) (report_bytes p) p.tally.status p.tally.findings

-- what is printed of a text, by what it is found to be
abbrev pub IsPrintOf : Look → List Tree → List Files → Source → Reading → TextReport → Type 0
IsPrintOf look trees files s (reading.Unread f) p = IsUnreadPart look s p
IsPrintOf look trees files s (reading.Other kind) p = IsNoticePart look trees s p
IsPrintOf look trees files s (reading.Known place) p = IsKnownPart look trees files place s p

-- the report of a text, with its notes
pub record IsPart (look : Look) (trees : List Tree) (files : List Files) (s : StudiedText) (p : TextReport) : Type 0 where
  pub report : HasReport look.options (filters_of trees) s.source p
  pub notes : AreNotesFor look.search.is_stack trees s.source.text.now s.reading (notes_in p)
  pub said : Say trees look.search (notes_in p) (report_bytes p)
  pub print : IsPrintOf look trees files s.source s.reading p

-- ---- several texts

-- the reports of texts, each with an empty line behind it, and their notes; so much is found in them
pub record AreTold (look : Look) (trees : List Tree) (files : List Files) (each : List StudiedText) (notes : List Note) (printed : List ℕ)
    (total : Total) : Type 0 where
  pub parts : AreParts look.options (filters_of trees) (sources_read each) printed total.status total.findings total.files
  pub noted : AreNotesIn look.search.is_stack trees (known_in each) (texts_read each) notes
  pub said : Say trees look.search notes printed
  pub prints : ArePrints look trees files (known_in each) (sources_read each) notes printed total.status total.findings total.files

abbrev pub ArePrinted : Look → List Tree → List Files → List StudiedText → PrintedTexts → Type 0
ArePrinted look trees files each p = AreTold look trees files each p.noted p.bytes.items p.total

-- the reports with that of one more text, and what comes behind it
pub record IsMore (look : Look) (trees : List Tree) (files : List Files) (s : StudiedText) (behind : List ℕ) (old new : PrintedTexts)
    : Type 0 where
  pub part : TextReport
  pub is : IsPart look trees files s part
  pub bytes : new.bytes.items ≡ old.bytes.items ++ (report_bytes part ++ behind)
  pub noted : new.noted ≡ old.noted ++ notes_in part
  pub total : new.total ≡ with_tally old.total part.tally

-- all or nothing is put out
pub record HoldsBack (is_held : Bool) (p : PrintedTexts) : Type 0 where
  pub none : is_held ≡ true → p.sent ≡ 0
  pub all : is_held ≡ false → p.sent ≡ length p.bytes.items

-- so much of what is printed is put out: the reports of all texts but the last, or nothing where that is held back
pub record IsPutOut (options : WarningOptions) (sources : List Source) (search : RunSearch) (is_held : Bool) (old new : Option (List ℕ))
    (p : PrintedTexts) : Type 0 where
  pub within : p.sent ≤ length p.bytes.items
  pub added : Shows old new (take p.sent p.bytes.items)
  pub early : is_held ≡ false → IsAllButLast options sources search (take p.sent p.bytes.items)
  pub late : is_held ≡ true → p.sent ≡ 0
