-- Lines on runs, and others, one behind the other.
use Rattle.std.proofs.Common.{◌≡◌, ℕ, true, List, [], ◌∷◌, ◌++◌, sym, ap, ◌∙◌, append_assoc}
use Rattle.std.proofs.lemmas.List.{append-nil}
use Rattle.flt_tree.specs.Names.{Text}
use Rattle.flt_tree.specs.declared.filter.Filter.{Filter}
use Rattle.flt_tree.specs.declared.tree.Tree.{Tree}
use Rattle.flt_graph.specs.declared.graph.Graph.{Graph}
use Rattle.flt_explain.specs.declared.finding.Finding.{Finding}
use Rattle.flt_places.specs.declared.files.Files.{Files}
use Rattle.flt_explain_origins.specs.declared.grouping.Group.{Group}
use Rattle.flt_explain_texts.specs.Closing.{fault_closing, findings_closing}
use Rattle.flt_explain_texts.specs.declared.sources.Source.{Source}
use Rattle.flt_explain_ways.specs.declared.tracing.Traces.{Traces}
use Rattle.flt_explain_reasons.specs.Notice as notices
use Rattle.flt_explain_warning_details.specs.declared.detail.WarningDetail.{WarningDetail}
use Rattle.flt_explain_runs.specs.Lines.{again_line, note_line}
use Rattle.flt_explain_runs.specs.Quiet.{is_quiet, quieted}
use Rattle.flt_explain_runs.specs.Told.{Say, nothing, others, note}
use Rattle.flt_explain_runs.specs.Whole.{AreBlocks, IsBody, IsKnownPrint, IsNoticePrint, IsUnreadPrint, Look, no_block, one_block_more}
use Rattle.flt_explain_outcomes.specs.declared.noted.Note.{Note}
use Rattle.flt_explain_outcomes.specs.declared.schedules.RunSearch.{RunSearch}
use Rattle.flt_explain_runs.proofs.Closing.{quiet_fault, quiet_findings, quiet_notice}
use Rattle.flt_explain_runs.proofs.QuietLines.{quiet_quieted}

-- with lines more
pub said_more : (trees : List Tree) (search : RunSearch) (notes : List Note) (printed lines new : List ℕ) → Say trees search notes printed →
    is_quiet lines ≡ true → new ≡ printed ++ lines → Say trees search notes new
said_more trees search notes printed lines new said quiet added = rw added (others notes printed lines said quiet)

-- prints behind each other
pub said_both : (trees : List Tree) (search : RunSearch) (ns : List Note) (p : List ℕ) {ms : List Note} {q : List ℕ} →
    Say trees search ns p →
    Say trees search ms q → Say trees search (ns ++ ms) (p ++ q)
said_both trees search ns p first nothing = rw (append-nil ns, append-nil p) first
said_both trees search ns p first (others notes printed lines said quiet) =
    rw (sym (append_assoc p printed lines)) (others (ns ++ notes) (p ++ printed) lines (said_both trees search ns p first said) quiet)
said_both trees search ns p first (note notes printed n rows said quiet) =
    let line = note_line trees search n in
    let again = again_line n.again in
    rw (
      sym (append_assoc ns notes (n ∷ [])),
      sym (append_assoc p (printed ++ line ++ rows) again),
      sym (append_assoc p (printed ++ line) rows),
      sym (append_assoc p printed line),
    )
    (note (ns ++ notes) (p ++ printed) n rows (said_both trees search ns p first said) quiet)

-- quieted lines alone say nothing
said_quieted : (trees : List Tree) (search : RunSearch) (lines : List ℕ) → Say trees search [] (quieted lines)
said_quieted trees search lines = others [] [] (quieted lines) nothing (quiet_quieted lines)

five_behind : (o a b c d e : List ℕ) → o ++ (a ++ b ++ c ++ d ++ e) ≡ o ++ a ++ b ++ c ++ d ++ e
five_behind o a b c d e = simp append_assoc

module _ (look : Look) (trees : List Tree) (files : List Files) where
  -- the lines on runs in blocks are those of the notes
  said_of_blocks : (own : Files) (text : Text) (f : Filter) (graph : Graph) (traces : Traces) {groups : List Group} {notes : List Note}
      {printed : List ℕ} → AreBlocks look trees files own text f graph traces groups notes printed → Say trees look.search notes printed
  said_of_blocks own text f graph traces no_block = nothing
  said_of_blocks own text f graph traces (one_block_more {groups} {notes} {printed} {group} {n} {block} are is) =
      let above = printed ++ quieted is.report in
      let line = note_line trees look.search n in
      let again = again_line n.again in
      let whole : printed ++ block ≡ above ++ line ++ quieted is.rows ++ again ++ quieted is.again =
      ap (λ z. printed ++ z) is.whole ∙ five_behind printed (quieted is.report) line (quieted is.rows) again (quieted is.again) in
      rw whole
      (others (notes ++ n ∷ []) (above ++ line ++ quieted is.rows ++ again) (quieted is.again)
      (note notes above n (quieted is.rows)
      (others notes printed (quieted is.report) (said_of_blocks own text f graph traces are) (quiet_quieted is.report))
      (quiet_quieted is.rows)) (quiet_quieted is.again))

  said_of_body : (place : ℕ) (s : Source) (tree : Tree) (graph : Graph) (found : List Finding) (details : List WarningDetail)
      (notes : List Note) (printed : List ℕ) → IsBody look trees files place s tree graph found details notes printed →
      Say trees look.search notes printed
  said_of_body place s tree graph [] details notes printed is = rw (is.none, is.whole) (said_quieted trees look.search is.lines)
  said_of_body place s tree graph (f ∷ found) details notes printed is =
      said_of_blocks s.files s.text.now tree.filter graph is.traces is.blocks

  -- the same of all that is printed of a text that parses
  pub said_known : (place : ℕ) (s : Source) (notes : List Note) (printed : List ℕ) (status count : ℕ) →
      IsKnownPrint look trees files place s notes printed status count → Say trees look.search notes printed
  said_known place s notes printed status count is =
      said_more trees look.search notes is.above (findings_closing s.files is.found) printed
      (said_of_body place s is.tree is.graph is.found is.details notes is.above is.body) (quiet_findings s.files is.found) is.whole

  -- and of one that doesn't
  pub said_unread : (s : Source) (printed : List ℕ) (status count : ℕ) → IsUnreadPrint look s printed status count →
      Say trees look.search [] printed
  said_unread s printed status count is =
      said_more trees look.search [] (quieted is.lines) (fault_closing s.files is.fault) printed
      (said_quieted trees look.search is.lines) (quiet_fault s.files is.fault) is.whole

  pub said_notice : (s : Source) (printed : List ℕ) (status count : ℕ) → IsNoticePrint look trees s printed status count →
      Say trees look.search [] printed
  said_notice s printed status count is =
      said_more trees look.search [] (quieted is.lines) (notices.closing is.notice) printed
      (said_quieted trees look.search is.lines) (quiet_notice is.notice) is.whole
