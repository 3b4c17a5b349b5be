use Rattle.flt_machine_calls.proofs.Returned.{return_planned}
use Rattle.flt_machine_calls.proofs.settling.plan_return.Goals as goal

pub returns-in_ok-push-in-Some-clause-planned : goal.returns-in_ok-push-in-Some-clause-planned
returns-in_ok-push-in-Some-clause-planned c = λ p t actors acts granted refused loaded h.
    let made = return_planned p t c.args.store.now actors acts c.args.a c.args.status c.args.r c.in-Some.visit c.there-x.result
    c.way_of-way.result c.new-events.result.items c.tell_status.new.events.items c.tell_back.new.events.items
    c.push.new.list.items granted refused
    h c.in-Some.is c.if-r.true c.there-x.ensures (c.way_of-way.ensures p loaded) c.new-events.ensures.items c.in_ok-tell_status.ensures.told
    c.in_ok-tell_back-in-Some.ensures.told c.in_ok-push-in-Some.ensures.items in
    rw (c.made_plan.ensures) made
