use Rattle.std.proofs.Common.{◌∙◌}
use Rattle.flt_model.specs.JournalText.{last_line}
use Rattle.flt_model.proofs.WritingSteps.{entry_taken, end_taken}
use Rattle.flt_model.proofs.writer.write.Goals as goal

pub loop-entry-preserved : goal.loop-entry-preserved
loop-entry-preserved g c =
    let ok = rw c.entries-entry-items.ensures at c.in_ok-put_entry.ensures.ok in
    record {
      taken = entry_taken _ _ _ c.args.journal.now c.loop-entry.entry-index _
          (rw c.entries-entry-items.ensures at c.loop-entry-test.true) c.loop-entry.invariant.taken ok;
      fine = c.in_ok-put_entry.ensures.fine ∙ c.loop-entry.invariant.fine;
    }

pub returns-clause-ok : goal.returns-clause-ok
returns-clause-ok g c =
    end_taken c.put_all-2.result _ _ _ last_line c.args.journal.now c.loop-entry.entry-index
    (rw c.entries-entry-items.ensures at c.loop-entry-test.false) c.loop-entry.invariant.taken
    c.put_all-2.ensures.ok
