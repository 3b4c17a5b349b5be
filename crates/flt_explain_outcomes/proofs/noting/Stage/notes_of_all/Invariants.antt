use Rattle.std.proofs.Common.{take}
use Rattle.flt_explain_outcomes.specs.Noted.{AreNotesIn}
use Rattle.flt_explain_outcomes.specs.Readings.{known_in, texts_read}
use Rattle.flt_explain_outcomes.proofs.noting.Stage.notes_of_all.Given as goal

abbrev pub invariant-loop-studied : goal.invariant-loop-studied
invariant-loop-studied g l =
    AreNotesIn l.self.search.is_stack l.self.trees.now (known_in (take l.studied-index l.each)) (texts_read (take l.studied-index l.each))
    l.all
