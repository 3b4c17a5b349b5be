use Rattle.std.proofs.Common.{get_or, refl, rules}
use Rattle.flt_explain_outcomes.proofs.Runs.{suspects_more, unreported}
use Rattle.flt_explain_outcomes.proofs.noting.suspects_of.Goals as goal

pub finding_at-finding-requires : goal.finding_at-finding-requires
finding_at-finding-requires c = record { within = c.requires.within c.loop-one.one-index unreported c.loop-one-test.true }

pub loop-one-preserved : goal.loop-one-preserved
loop-one-preserved c =
    suspects_more c.args.found.now c.args.reported.now c.loop-one.one-index (get_or c.args.reported.now c.loop-one.one-index unreported)
    c.loop-one.all.items c.push.new.self.items _ c.loop-one-test.true (search rules) c.loop-one.invariant
    (record { number = refl; is = c.finding_at-finding.ensures }) c.in_ok-push.ensures.items
