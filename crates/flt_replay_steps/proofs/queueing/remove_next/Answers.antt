use Rattle.flt_model.specs.World.{queue_at}
use Rattle.flt_replay_steps.proofs.Queues.{nothing_removed, entry_removed}
use Rattle.flt_replay_steps.proofs.queueing.remove_next.Goals as goal

pub returns-in-None : goal.returns-in-None
returns-in-None c =
    nothing_removed c.give_entry.result c.args.world.now c.take_first.new.self c.give_entry.new.world c.args.a c.filter.result
    c.args.o c.args.d
    c.args.to.granted.now c.args.to.refused.now c.args.events.now.items c.push_event.new.events.items c.give_entry.new.events.items
    c.filter.ensures c.in-None.ensures.0 c.in-None.ensures.1 c.in_ok-push_event.ensures c.give_entry.ensures

pub returns-in-Some : goal.returns-in-Some
returns-in-Some c =
    entry_removed c.give_entry-in-Some.result c.args.world.now c.take_first.new.self c.give_entry-in-Some.new.world c.args.a
    c.filter.result c.args.o c.args.d
    c.args.to.granted.now c.args.to.refused.now c.args.events.now.items c.push_event.new.events.items c.give_entry-in-Some.new.events.items
    _ (queue_at c.take_first.new.self.store c.filter.result)
    c.filter.ensures c.in-Some.ensures.0 c.in-Some.ensures.1 c.in_ok-push_event.ensures c.give_entry-in-Some.ensures
