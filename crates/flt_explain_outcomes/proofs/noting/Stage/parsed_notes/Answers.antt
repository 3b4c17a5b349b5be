use Rattle.std.proofs.Common.{rules}
use Rattle.flt_explain_outcomes.proofs.Notes.{notes_are_of}
use Rattle.flt_explain_outcomes.proofs.noting.Stage.parsed_notes.Goals as goal

pub returns : goal.returns
returns g c =
    notes_are_of (λ notes. notes) c.args.self.now.search.is_stack c.args.self.now.trees.now _ c.known_notes.result
    (record { own = c.tree_at-tree.ensures.own; known = search rules }) c.known_notes.ensures
