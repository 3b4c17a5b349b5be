use Rattle.flt_model.specs.declared.event.Object.TheVariants.{Visit}
use Rattle.flt_machine_calls.proofs.Tallies.{none_gained, none_lost, more_gained, more_lost}
use Rattle.flt_machine_calls.proofs.continuing.+counts_of.Goals as goal

pub returns-in-empty-clause-gained : goal.returns-in-empty-clause-gained
returns-in-empty-clause-gained t c = λ a own. none_gained a (Visit c.args.visit) c.args.events.now c.in-empty.len_below

pub returns-in-empty-clause-lost : goal.returns-in-empty-clause-lost
returns-in-empty-clause-lost t c = λ a own. none_lost a (Visit c.args.visit) c.args.events.now c.in-empty.len_below

pub returns-in-len1-up-clause-gained : goal.returns-in-len1-up-clause-gained
returns-in-len1-up-clause-gained t c = λ a own.
    more_gained a (Visit c.args.visit) c.args.events.now _ c.counted-one.result.gained c.counts_of-others.result.gained
    c.in-len1-up.len_at_least own
    (c.counted-one.ensures.gained a) (c.counts_of-others.ensures.gained a)

pub returns-in-len1-up-clause-lost : goal.returns-in-len1-up-clause-lost
returns-in-len1-up-clause-lost t c = λ a own.
    more_lost a (Visit c.args.visit) c.args.events.now _ c.counted-one.result.lost c.counts_of-others.result.lost
    c.in-len1-up.len_at_least own
    (c.counted-one.ensures.lost a) (c.counts_of-others.ensures.lost a)
