use Rattle.std.proofs.Common.{◌++◌, ◌∷◌, [], ℕ, List, ap, arith, length, subst, sym, ◌+◌, ◌∙◌, drop}
use Rattle.flt_model.specs.declared.moves.JournalEntry.{JournalEntry}
use Rattle.flt_explain_timeline.specs.Course.{next_refused, next_told}
use Rattle.flt_explain_timeline.specs.Tellings.{AreToldBy}
use Rattle.flt_explain_timeline.specs.declared.course.Progress.{Progress}
use Rattle.flt_explain_timeline.specs.declared.running.DescribedEntry.{DescribedEntry}
use Rattle.flt_explain_timeline.proofs.NextEntry.{refused_all, refused_on_lent, told_all, told_on_lent}
use Rattle.flt_explain_timeline.proofs.course.course_of.Goals as goal

pub loop-entry-init : goal.loop-entry-init
loop-entry-init c = record {
  so_far = [];
  told = c.new-course.ensures.told;
  all = ap (λ (q : Progress). next_told c.args.stage.now.stack.now c.args.verdict q 0 c.args.scene.now c.args.journal.now)
      c.new-course.ensures.starts;
  refused =
      ap (λ (q : Progress). next_refused c.args.stage.now.stack.now c.args.verdict q 0 c.args.scene.now c.args.journal.now)
      c.new-course.ensures.starts;
  clear = λ going. ap (λ (q : Progress). q.refusal) c.new-course.ensures.starts;
  each = ap length c.new-course.ensures.empty.0;
  on = ap length c.new-course.ensures.empty.1;
}

pub loop-entry-preserved : goal.loop-entry-preserved
loop-entry-preserved c = record {
  so_far = c.loop-entry.invariant.so_far ++ c.in_ok-here.here ∷ [];
  told = c.in_ok-add.ensures.told c.loop-entry.invariant.so_far c.loop-entry.invariant.told;
  all =
      ap (λ (q : Progress). (c.loop-entry.invariant.so_far ++ c.in_ok-here.here ∷ [])
      ++ next_told c.args.stage.now.stack.now c.args.verdict q (c.loop-entry.entry-index + 1) c.next.new.scene
      (drop (c.loop-entry.entry-index + 1) c.args.journal.now)) c.in_ok-add.ensures.same
      ∙ told_on_lent
      (λ (n : ℕ) (ws : List JournalEntry). next_told c.args.stage.now.stack.now c.args.verdict c.next.new.self n c.next.new.scene ws)
      (λ (n : ℕ) (ws : List JournalEntry). next_told c.args.stage.now.stack.now c.args.verdict c.loop-entry.course.progress
      n c.loop-entry.scene ws)
      c.loop-entry.invariant.so_far _ c.in_ok-here.here c.entries-entry-items.result.now c.args.journal.now c.len-number.result
      c.loop-entry.entry-index _ c.entries-entry-items.ensures c.loop-entry-test.true
      (omega (arith, c.len-number.ensures, c.loop-entry.invariant.each)) c.in_ok-here.ensures.told c.loop-entry.invariant.all;
  refused =
      ap (λ (q : Progress). next_refused c.args.stage.now.stack.now c.args.verdict q (c.loop-entry.entry-index + 1) c.next.new.scene
      (drop (c.loop-entry.entry-index + 1) c.args.journal.now)) c.in_ok-add.ensures.same
      ∙ refused_on_lent
      (λ (n : ℕ) (ws : List JournalEntry). next_refused c.args.stage.now.stack.now c.args.verdict c.next.new.self n c.next.new.scene ws)
      (λ (n : ℕ) (ws : List JournalEntry). next_refused c.args.stage.now.stack.now c.args.verdict c.loop-entry.course.progress
      n c.loop-entry.scene ws)
      _ c.entries-entry-items.result.now c.args.journal.now c.len-number.result c.loop-entry.entry-index _ c.entries-entry-items.ensures
      c.loop-entry-test.true (omega (arith, c.len-number.ensures, c.loop-entry.invariant.each)) c.in_ok-here.ensures.refused
      c.loop-entry.invariant.refused;
  clear =
      λ going. ap (λ (q : Progress). q.refusal) c.in_ok-add.ensures.same
      ∙ c.in_ok-here.ensures.clear (sym (ap (λ (q : Progress). q.is_over) c.in_ok-add.ensures.same) ∙ going);
  each = omega (arith, c.in_ok-add.ensures.each, c.loop-entry.invariant.each);
  on = omega (arith, c.in_ok-add.ensures.on, c.loop-entry.invariant.on);
}

pub returns : goal.returns
returns c = record {
  told =
      let P : List DescribedEntry → Type 0 =
      λ heres. AreToldBy c.loop-entry.course.tellings c.loop-entry.course.told c.loop-entry.course.whos heres in
      subst P (told_all c.args.stage.now.stack.now c.args.verdict c.loop-entry.invariant.so_far _ c.loop-entry.course.progress
      c.loop-entry.entry-index c.loop-entry.entry-index c.loop-entry.scene c.args.journal.now
      (omega (arith, c.loop-entry-test.false, ap length c.entries-entry-items.ensures)) c.loop-entry.invariant.all)
      c.loop-entry.invariant.told;
  refused =
      refused_all c.args.stage.now.stack.now c.args.verdict _ c.loop-entry.course.progress c.loop-entry.entry-index c.loop-entry.entry-index
      c.loop-entry.scene c.args.journal.now (omega (arith, c.loop-entry-test.false, ap length c.entries-entry-items.ensures))
      c.loop-entry.invariant.clear c.loop-entry.invariant.refused;
  each =
      omega (
        arith,
        c.loop-entry.invariant.each,
        c.loop-entry-test.false,
        c.loop-entry.auto.entry-index-end,
        ap length c.entries-entry-items.ensures,
      );
  on =
      omega (
        arith,
        c.loop-entry.invariant.on,
        c.loop-entry-test.false,
        c.loop-entry.auto.entry-index-end,
        ap length c.entries-entry-items.ensures,
      );
}
