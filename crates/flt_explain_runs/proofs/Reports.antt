-- The reports of texts, of certificates, journals and scripts.
use Rattle.std.proofs.Common.{inl, inr, ◌≡◌, ◌<◌, ◌≤◌, ◌+◌, ℕ, List, [], ◌∷◌, ◌++◌, IfOk, Option, Some, Result, Ok, Err}
use Rattle.std.proofs.Common.{arith, refl, sym, ap, subst, ◌∙◌, flat_map, get_or, length, map, take, string_bytes, Global, String, Vec}
use Rattle.std.proofs.lemmas.List.{flat_map_more, length-map, take_all, take_more}
use Rattle.std.specs.declared.alloc.AllocError.{AllocError}
use Rattle.flt_syntax.specs.declared.fault.SyntaxFault.{SyntaxFault}
use Rattle.flt_places.specs.declared.files.Files.{Files}
use Rattle.flt_tree.specs.Names.{Text}
use Rattle.flt_tree.specs.declared.filter.Filter.{Filter}
use Rattle.flt_tree.specs.declared.tree.Tree.{Tree}
use Rattle.flt_graph.specs.declared.graph.Graph.{Graph}
use Rattle.flt_explain.specs.declared.finding.Finding.{Finding}
use Rattle.flt_model.specs.Program.{filters_of}
use Rattle.flt_explain_origins.specs.declared.grouping.Group.{Group}
use Rattle.flt_explain_reasons.specs.Notice as notices
use Rattle.flt_explain_reasons.specs.declared.notice.Kind.{Kind}
use Rattle.flt_explain_reasons.specs.declared.notice.Notice.{Notice}
use Rattle.flt_explain_texts.specs.Closing.{fault_closing, findings_closing}
use Rattle.flt_explain_texts.specs.declared.judged.TextJudgement.TheVariants.{Unread, Known as Found}
use Rattle.flt_explain_texts.specs.declared.sources.Source.{Source}
use Rattle.flt_explain_ways.specs.declared.tracing.Traces.{Traces}
use Rattle.flt_explain_reports.specs.Fault.{IsFaultReport}
use Rattle.flt_explain_ways.specs.Reported.{AreReportedBy, reported_of}
use Rattle.flt_explain_ways.specs.declared.reported.ReportedFinding.{ReportedFinding}
use Rattle.flt_explain_warning_details.specs.Options.{warned_status}
use Rattle.flt_explain_warning_details.specs.Orderly.{TextsWithoutCirclesAreOrderly}
use Rattle.flt_explain_warning_details.specs.declared.detail.WarningDetail.{WarningDetail}
use Rattle.flt_explain_outcomes.specs.Noted.{AreNotesOf, reported_in}
use Rattle.flt_explain_outcomes.specs.Noting.{AreAllNotes}
use Rattle.flt_explain_outcomes.specs.Parsed.{IsOther, IsUnread}
use Rattle.flt_explain_runs.specs.Parts.{block_bytes, body_bytes, body_notes, notes_in}
use Rattle.flt_explain_runs.specs.Printing.{IsKnownIn, IsKnownPart, IsNoticeOf, IsNoticePart, IsPart, IsUnreadPart, warned_in}
use Rattle.flt_explain_runs.specs.Quiet.{quieted}
use Rattle.flt_explain_runs.specs.Reported.{IsReport, stack_of}
use Rattle.flt_explain_runs.specs.Rows.{AreAgainRows, AreRowsBy}
use Rattle.flt_explain_outcomes.specs.Setters.{IsSetter}
use Rattle.flt_explain_runs.specs.Warnings.{ArePromised}
use Rattle.flt_explain_runs.specs.Whole.{AreBlocks, AreReportsWithNotes, IsBlock, IsBody, IsKnownPrint, IsNoticePrint, IsUnreadPrint}
use Rattle.flt_explain_runs.specs.Whole.{Look, one_block_more}
use Rattle.flt_explain_outcomes.specs.declared.again.Setting.{Setting}
use Rattle.flt_explain_outcomes.specs.declared.noted.Note.{Note}
use Rattle.flt_explain_outcomes.specs.declared.noted.SetterOutcome.{SetterOutcome}
use Rattle.flt_explain_outcomes.specs.declared.noted.SetterOutcome.TheVariants.{Runs, RunsNowhere}
use Rattle.flt_explain_outcomes.specs.declared.noting.ParsedText.{ParsedText}
use Rattle.flt_explain_runs.specs.declared.parts.Block.{Block}
use Rattle.flt_explain_runs.specs.declared.parts.Body.{Body}
use Rattle.flt_explain_runs.specs.declared.parts.RunLines.{RunLines}
use Rattle.flt_explain_runs.specs.declared.parts.TextReport.{TextReport}
use Rattle.flt_explain_outcomes.specs.declared.readings.Reading.TheVariants as reading
use Rattle.flt_explain_outcomes.specs.declared.readings.StudiedText.{StudiedText}
use Rattle.flt_explain_runs.proofs.Closing.{quiet_fault, quiet_findings, quiet_notice}
use Rattle.flt_explain_runs.proofs.QuietLines.{quieted_same}
use Rattle.flt_explain_runs.proofs.Said.{said_known, said_notice, said_unread}

-- ---- blocks

module _ (look : Look) (trees : List Tree) (files : List Files) (own : Files) (text : Text) (f : Filter) (graph : Graph) (traces : Traces)
  where
    -- the block of the next group, with the next note
    pub next_block : (groups : List Group) (notes : List Note) (i : ℕ) (group : Group) (n : Note) (old new : List Block) (b : Block) →
        i < length groups → group ≡ get_or groups i group → i < length notes → n ≡ get_or notes i n →
        AreBlocks look trees files own text f graph traces (take i groups) (take i notes) (flat_map block_bytes old) →
        IsBlock look trees files own text f graph traces group n (block_bytes b) → new ≡ old ++ b ∷ [] →
        AreBlocks look trees files own text f graph traces (take (i + 1) groups) (take (i + 1) notes) (flat_map block_bytes new)
    next_block groups notes i group n old new b h is k at are one added =
        let group_more : take (i + 1) groups ≡ take i groups ++ group ∷ [] =
        take_more groups i group h ∙ ap (λ x. take i groups ++ x ∷ []) (sym is) in
        let note_more : take (i + 1) notes ≡ take i notes ++ n ∷ [] = take_more notes i n k ∙ ap (λ x. take i notes ++ x ∷ []) (sym at) in
        rw (group_more, note_more, added, sym (flat_map_more block_bytes [] old b)) (one_block_more are one)

    -- the blocks of all groups
    pub all_blocks : (groups : List Group) (notes : List Note) (i : ℕ) (blocks : List Block) → length groups ≤ i →
        length notes ≡ length groups →
        AreBlocks look trees files own text f graph traces (take i groups) (take i notes) (flat_map block_bytes blocks) →
        AreBlocks look trees files own text f graph traces groups notes (flat_map block_bytes blocks)
    all_blocks groups notes i blocks h many are =
        let enough : length notes ≤ i = omega (arith, h, many) in
        subst (λ ns. AreBlocks look trees files own text f graph traces groups ns (flat_map block_bytes blocks)) (take_all i notes enough)
        (subst (λ gs. AreBlocks look trees files own text f graph traces gs (take i notes) (flat_map block_bytes blocks))
        (take_all i groups h)
        are)

-- the lines on runs of a block are those of its note
pub block_whole : (report line rows again more own other : List ℕ) → line ≡ own → again ≡ other →
    report ++ line ++ rows ++ again ++ more ≡ report ++ own ++ rows ++ other ++ more
block_whole report line rows again more own other is are = rw (is, are) refl

-- rows of an outcome with one more callback are those of its note
pub again_rows : (text : Text) (files : Files) (setting : Setting) (again : SetterOutcome) (noted : Option SetterOutcome)
    (result : Result RunLines AllocError) → IsSetter text setting.setter → noted ≡ Some again →
    IfOk result (λ l. AreRowsBy setting.setter files again l.rows.items) → IfOk result (λ l. AreAgainRows text files noted l.rows.items)
again_rows text files setting again noted (Err e) is same are = tt
again_rows text files setting (Runs run) noted (Ok l) is same are = rw same (record { setter = setting.setter; is = is; are = are })
again_rows text files setting RunsNowhere noted (Ok l) is same are = rw same are

-- there are as many notes as groups
pub as_many : (graph : Graph) (found : List Finding) (traces : Traces) (all : List ReportedFinding) (notes : List Note) →
    AreReportedBy graph found traces all → map reported_in notes ≡ all → length notes ≡ length traces.groups
as_many graph found traces all notes are same =
    sym (length-map notes reported_in) ∙ ap length (same ∙ are.each) ∙ length-map traces.groups (reported_of traces)

-- ---- a text that parses

-- the blocks of all groups are the reports of what is found in the text
pub found_is : (look : Look) (trees : List Tree) (files : List Files) (k : ParsedText) (text : Text) (traces : Traces)
    (reported : List ReportedFinding) (notes : List Note) (blocks : List Block) → text ≡ k.source.text.now →
    AreReportedBy k.graph.now k.found.now traces reported → map reported_in notes ≡ reported →
    AreBlocks look trees files k.source.files text k.tree.now.filter k.graph.now traces traces.groups notes (flat_map block_bytes blocks) →
    AreReportsWithNotes look trees files k.source k.tree.now k.graph.now k.found.now notes (flat_map block_bytes blocks)
found_is look trees files k text traces reported notes blocks own are same each = record {
  traces = traces;
  reported = rw same are;
  blocks = subst (λ t. AreBlocks look trees files k.source.files t k.tree.now.filter k.graph.now traces traces.groups notes
      (flat_map block_bytes blocks)) own each;
}

-- they are what is above the last line where something is found
pub body_some : (look : Look) (trees : List Tree) (files : List Files) (k : ParsedText) (details : List WarningDetail)
    (result : Result Body AllocError) → 1 ≤ length k.found.now →
    IfOk result (λ b. AreReportsWithNotes look trees files k.source k.tree.now k.graph.now k.found.now (body_notes b) (body_bytes b)) →
    IfOk result (λ b. IsBody look trees files k.place k.source k.tree.now k.graph.now k.found.now details (body_notes b) (body_bytes b))
body_some look trees files k details (Err e) some are = tt
body_some look trees files k details (Ok b) some are = go k.found.now some are
  where
    go : (found : List Finding) → 1 ≤ length found →
        AreReportsWithNotes look trees files k.source k.tree.now k.graph.now found (body_notes b) (body_bytes b) →
        IsBody look trees files k.place k.source k.tree.now k.graph.now found details (body_notes b) (body_bytes b)
    go [] some are = absurd (omega (arith, some))
    go (f ∷ found) some are = are

-- where nothing is, what that promises and the warnings are
pub body_none : (look : Look) (trees : List Tree) (files : List Files) (k : ParsedText) (details : List WarningDetail) (lines : List ℕ) →
    length k.found.now < 1 → ArePromised (warned_in look trees k) details lines →
    IsBody look trees files k.place k.source k.tree.now k.graph.now k.found.now details [] (quieted lines)
body_none look trees files k details lines few are = go k.found.now few
  where
    go : (found : List Finding) → length found < 1 →
        IsBody look trees files k.place k.source k.tree.now k.graph.now found details [] (quieted lines)
    go [] few = record { none = refl; lines = lines; are = are; whole = refl }
    go (f ∷ found) few = absurd (omega (arith, few))

-- what is printed of it, with the line that ends it
pub known_print : TextsWithoutCirclesAreOrderly → (look : Look) (trees : List Tree) (files : List Files) (k : ParsedText)
    (details : List WarningDetail) (p : TextReport) → IsKnownIn look trees k details →
    IsBody look trees files k.place k.source k.tree.now k.graph.now k.found.now details (notes_in p) (body_bytes p.body) →
    AreAllNotes look.search.is_stack trees k (notes_in p) → string_bytes p.closing ≡ findings_closing k.source.files k.found.now →
    p.tally.status ≡ warned_status look.options.is_strict k.found.now details → p.tally.findings ≡ length k.found.now →
    IsKnownPart look trees files k.place k.source p
known_print law look trees files k details p known body notes closing status count = record {
  tree = k.tree.now;
  own = known.parsed.own;
  graph = k.graph.now;
  found = k.found.now;
  known = known.parsed.known;
  noted = notes.each;
  details = details;
  warned = known.warned;
  above = body_bytes p.body;
  order = law k.source.files k.source.text.now k.tree.now k.graph.now k.found.now look.options.allowed details known.parsed.known
      known.warned;
  body = body;
  whole = ap (λ z. body_bytes p.body ++ quieted z) closing
      ∙ ap (λ z. body_bytes p.body ++ z)
      (quieted_same (findings_closing k.source.files k.found.now) (quiet_findings k.source.files k.found.now));
  worth = status;
  many = count;
}

-- ---- one that doesn't

-- what is printed of it, with the line that ends it
pub unread_print : (look : Look) (s : Source) (f : SyntaxFault) (lines : List ℕ) (p : TextReport) → IsUnread s.text.now f →
    IsFaultReport look.coloured s.files s.text.now lines → body_bytes p.body ≡ quieted lines →
    string_bytes p.closing ≡ fault_closing s.files f → p.tally.status ≡ 2 → p.tally.findings ≡ 1 → IsUnreadPart look s p
unread_print look s f lines p unread are body closing status count = record {
  fault = f;
  unread = unread;
  lines = lines;
  are = are;
  whole = ap (λ z. body_bytes p.body ++ quieted z) closing
      ∙ ap (λ z. body_bytes p.body ++ z) (quieted_same (fault_closing s.files f) (quiet_fault s.files f))
      ∙ ap (λ z. z ++ fault_closing s.files f) body;
  worth = status;
  many = count;
}

-- the same of a certificate, a journal or a script
pub notice_whole : (n : Notice) (lines : Vec ℕ Global) (closing : String Global) → string_bytes closing ≡ notices.closing n →
    quieted lines.items ++ quieted (string_bytes closing) ≡ quieted lines.items ++ notices.closing n
notice_whole n lines closing same =
    ap (λ z. quieted lines.items ++ quieted z) same
    ∙ ap (λ z. quieted lines.items ++ z) (quieted_same (notices.closing n) (quiet_notice n))

-- what is said of a notice is printed of a text that is taken for it
pub notice_parts : (look : Look) (trees : List Tree) (s : Source) (kind : Kind) (n : Notice) (result : Result TextReport AllocError) →
    IsOther s.text.now kind → notices.IsNotice (stack_of (filters_of trees)) kind s.text.now n →
    IfOk result (IsNoticeOf look trees s n) → IfOk result (IsNoticePart look trees s)
notice_parts look trees s kind n (Ok p) other is said = record {
  kind = kind;
  other = other;
  notice = n;
  is = is;
  lines = said.lines;
  are = said.are;
  whole = said.whole;
  worth = said.worth;
  many = said.many;
}
notice_parts look trees s kind n (Err e) other is said = tt

-- ---- any text

-- what is printed of a text is its report
report_known : (look : Look) (trees : List Tree) (files : List Files) (filters : List Filter) (place : ℕ) (s : Source) (notes : List Note)
    (printed : List ℕ) (status count : ℕ) → IsKnownPrint look trees files place s notes printed status count →
    IsReport look.options filters s printed status count
report_known look trees files filters place s notes printed status count is = record {
  is = inl (record {
    judged = Found is.tree is.graph is.found;
    is = is.known;
    own = record { details = is.details; are = is.warned; worth = is.worth };
    counted = is.many;
    ends = (is.above, is.whole);
  });
}

report_unread : (look : Look) (filters : List Filter) (s : Source) (printed : List ℕ) (status count : ℕ) →
    IsUnreadPrint look s printed status count → IsReport look.options filters s printed status count
report_unread look filters s printed status count is = record {
  is = inl (record {
    judged = Unread is.fault;
    is = is.unread;
    own = is.worth;
    counted = is.many;
    ends = (quieted is.lines, is.whole);
  });
}

report_notice : (look : Look) (trees : List Tree) (s : Source) (printed : List ℕ) (status count : ℕ) →
    IsNoticePrint look trees s printed status count → IsReport look.options (filters_of trees) s printed status count
report_notice look trees s printed status count is = record {
  is = inr (record {
    kind = is.kind;
    other = is.other;
    notice = is.notice;
    is = is.is;
    own = is.worth;
    counted = is.many;
    ends = (quieted is.lines, is.whole);
  });
}

module _ (look : Look) (trees : List Tree) (files : List Files) (s : StudiedText) where
  -- the whole report of a text that parses
  pub known_part : (place : ℕ) (result : Result TextReport AllocError) → s.reading ≡ reading.Known place →
      IfOk result (IsKnownPart look trees files place s.source) →
      IfOk result (λ p. AreNotesOf look.search.is_stack trees s.source.text.now place (notes_in p)) →
      IfOk result (IsPart look trees files s)
  known_part place (Ok p) same print notes = record {
    report = report_known look trees files (filters_of trees) place s.source _ _ _ _ print;
    notes = rw same notes;
    said = said_known look trees files place s.source _ _ _ _ print;
    print = rw same print;
  }
  known_part place (Err e) same print notes = tt

  -- of one that isn't taken for anything else
  pub unread_part : (f : SyntaxFault) (result : Result TextReport AllocError) → s.reading ≡ reading.Unread f →
      IfOk result (IsUnreadPart look s.source) → IfOk result (λ p. notes_in p ≡ []) → IfOk result (IsPart look trees files s)
  unread_part f (Ok p) same print none = record {
    report = report_unread look (filters_of trees) s.source _ _ _ print;
    notes = rw same none;
    said = rw none (said_unread look trees files s.source _ _ _ print);
    print = rw same print;
  }
  unread_part f (Err e) same print none = tt

  -- and of one that is
  pub other_part : (kind : Kind) (result : Result TextReport AllocError) → s.reading ≡ reading.Other kind →
      IfOk result (IsNoticePart look trees s.source) → IfOk result (λ p. notes_in p ≡ []) → IfOk result (IsPart look trees files s)
  other_part kind (Ok p) same print none = record {
    report = report_notice look trees s.source _ _ _ print;
    notes = rw same none;
    said = rw none (said_notice look trees files s.source _ _ _ print);
    print = rw same print;
  }
  other_part kind (Err e) same print none = tt
