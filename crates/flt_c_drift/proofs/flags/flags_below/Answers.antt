use Rattle.std.proofs.Common.{subst}
use Rattle.std.proofs.lemmas.List.{drop_all}
use Rattle.flt_c_drift.proofs.Raising.{AreFlags, flags_end, flags_next}
use Rattle.flt_c_drift.proofs.flags.flags_below.Goals as goal

pub loop-mark-preserved : goal.loop-mark-preserved
loop-mark-preserved c =
    flags_next c.args.question c.args.marks.now c.args.count c.loop-mark.found.items c.raise.new.found.items c.loop-mark.mark-index _
    c.subject.result c.loop-mark-test.true c.loop-mark.invariant c.subject.ensures c.raise.ensures

pub returns : goal.returns
returns c =
    flags_end c.args.question c.args.marks.now c.args.count c.loop-mark.found.items
    (subst (AreFlags c.args.question c.args.marks.now c.args.count c.loop-mark.found.items)
    (drop_all c.loop-mark.mark-index c.args.marks.now c.loop-mark-test.false) c.loop-mark.invariant)
