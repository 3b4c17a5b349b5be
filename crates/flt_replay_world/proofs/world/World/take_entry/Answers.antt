use Rattle.flt_model.specs.Moves.{is_entry_of}
use Rattle.flt_model.specs.World.{World, queue_at}
use Rattle.flt_replay_records.specs.Tickets.{is_of}
use Rattle.flt_replay_world.proofs.EntryVisits.{taken_out}
use Rattle.flt_replay_world.proofs.world.World.take_entry.Goals as goal

pub returns : goal.returns
returns c =
    let was = c.self.inside in
    let world : World = record {
      actors = was.actors.items;
      activations = was.activations.items;
      store = record {
        presences = was.presences.items;
        queues = was.waiting.0;
        holders = was.holders.items;
        arrivals = was.arrivals.items;
        routes = was.routes.items;
        visits = was.visits.0;
        settled = was.visits.1;
        contexts = was.contexts;
        items = was.waiting.1;
      };
    } in
    let tells = rw (← c.self.view_is) at c.in_ok-visits.ensures in
    let same = c.same_tests_find_the_same.ensures.law (is_of c.in_ok-visits.visits.items)
    (is_entry_of world.store c.args.operation) (queue_at world.store c.args.filter) tells in
    let taken = rw c.as_slice.ensures.value at c.take_entry.ensures in
    rw (← c.self.view_is)
    (taken_out world c.args.filter c.args.operation c.in_ok-visits.visits.items c.take_entry.result c.take_entry.new.self same taken)
