use Rattle.flt_sound.proofs.laws.unloading_leaks_nothing.Goals as goal
use Rattle.flt_sound.proofs.points.Placed.{Laws}
use Rattle.flt_sound.proofs.rest.Gone.{unloading_leaks_nothing}

pub returns : goal.returns
returns c =
    let laws : Laws = record {
      whole = c.lists_have_points.ensures.whole;
      first = c.lists_have_points.ensures.first;
      next = c.lists_have_points.ensures.next;
      count = c.callbacks_have_graphs.ensures.count;
      each = c.callbacks_have_graphs.ensures.each;
      served = c.instructions_are_served.ensures;
      follows = c.transfer_follows_situations.ensures;
      posts = c.graphs_are_registered_alike.ensures.posts;
      pairs = c.graphs_are_registered_alike.ensures.pairs;
      below = c.is_partial_order.ensures.computed;
    } in
    unloading_leaks_nothing laws
