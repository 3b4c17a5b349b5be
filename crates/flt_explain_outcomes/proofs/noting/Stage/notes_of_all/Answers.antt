use Rattle.std.proofs.Common.{subst, sym}
use Rattle.flt_explain_outcomes.specs.Noted.{no_text}
use Rattle.flt_explain_outcomes.specs.Readings.{IsStudied}
use Rattle.flt_explain_outcomes.proofs.Notes.{one_text_more}
use Rattle.flt_explain_outcomes.proofs.Studied.{studied_at}
use Rattle.flt_explain_outcomes.proofs.noting.Stage.notes_of_all.Goals as goal

pub loop-studied-init : goal.loop-studied-init
loop-studied-init g c = rw c.new-all.ensures no_text

pub notes_of-requires : goal.notes_of-requires
notes_of-requires g c = record {
  text = subst (IsStudied c.args.self.now.trees.now) (sym c.studied-item.is)
      (studied_at c.args.self.now.trees.now 0 c.args.each.now c.loop-studied.studied-index c.studied-item.result c.requires.texts
      c.loop-studied-test.true);
}

pub loop-studied-preserved : goal.loop-studied-preserved
loop-studied-preserved g c =
    one_text_more c.args.self.now.search.is_stack c.args.self.now.trees.now c.args.each.now c.loop-studied.studied-index
    c.studied-item.result c.loop-studied.all
    c.in_ok-own.own c.append.new.self c.requires.texts c.loop-studied-test.true c.studied-item.is c.loop-studied.invariant
    c.in_ok-own.ensures c.in_ok-append.ensures
