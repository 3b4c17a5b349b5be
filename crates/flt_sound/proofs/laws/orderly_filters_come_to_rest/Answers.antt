use Rattle.flt_sound.proofs.laws.orderly_filters_come_to_rest.Goals as goal
use Rattle.flt_sound.proofs.points.Placed.{Laws}
use Rattle.flt_sound.proofs.progress.Finishing.{Spending, callbacks_can_end}
use Rattle.flt_sound.proofs.progress.Reaching.{all_can_rest, operations_can_complete}
use Rattle.flt_sound.proofs.progress.Unloading.{filters_can_unload}
use Rattle.flt_sound.proofs.progress.Waiting.{no_deadlock}
use Rattle.flt_sound.proofs.run.Journals.{all_by_altitude}
use Rattle.flt_sound.specs.Progress.{IsOrderly}

pub returns : goal.returns
returns c =
    let laws : Laws = record {
      whole = c.lists_have_points.ensures.whole;
      first = c.lists_have_points.ensures.first;
      next = c.lists_have_points.ensures.next;
      count = c.callbacks_have_graphs.ensures.count;
      each = c.callbacks_have_graphs.ensures.each;
      served = c.instructions_are_served.ensures;
      follows = c.transfer_follows_situations.ensures;
      posts = c.graphs_are_registered_alike.ensures.posts;
      pairs = c.graphs_are_registered_alike.ensures.pairs;
      below = c.is_partial_order.ensures.computed;
    } in
    let spending : Spending = record { local_spends = c.steps_spend.ensures.hidden; board_spends = c.steps_spend.ensures.seen } in
    record {
      moving = no_deadlock laws;
      ending = callbacks_can_end laws spending;
      unloading = filters_can_unload laws spending;
      completing = operations_can_complete laws spending;
      resting = all_can_rest laws spending;
      ordered = all_by_altitude IsOrderly;
    }
