use Rattle.std.proofs.Common.{rules}
use Rattle.flt_explain_runs.specs.Parts.{notes_in}
use Rattle.flt_explain_outcomes.proofs.Notes.{notes_are_of}
use Rattle.flt_explain_runs.proofs.printing.Printer.parsed_report.Goals as goal

pub returns-clause-notes : goal.returns-clause-notes
returns-clause-notes g c =
    notes_are_of notes_in c.args.self.now.stage.search.is_stack c.args.self.now.stage.trees.now _ c.known_report.result
    (record { own = c.tree_at-tree.ensures.own; known = search rules }) c.known_report.ensures.notes
