use Rattle.flt_model.specs.Program.{filter_at}
use Rattle.flt_machine_frames.proofs.Filters.{lowered_at}
use Rattle.flt_machine_frames.proofs.Firsts.{first_is, next_is, told_is}
use Rattle.flt_machine_frames.proofs.Stepping.{Laws}
use Rattle.flt_machine_frames.proofs.points.standings_have_points.Goals as goal
use Rattle.flt_machine_frames.specs.Loading.{graph_at}

pub returns-clause-first : goal.returns-clause-first
returns-clause-first c =
    let laws : Laws = record {
      first = c.lists_have_points.ensures.first;
      each = c.callbacks_have_graphs.ensures.each;
      next = c.lists_have_turns.ensures.next;
      left = c.lists_have_turns.ensures.left;
      cost = c.lists_have_turns.ensures.cost;
      nested = c.lists_have_turns.ensures.nested;
    } in
    λ p l filter s act made h. first_is laws (filter_at p filter) (graph_at l.graphs filter)
    (lowered_at p l.graphs filter made.graphs) s act.rest h.stands

pub returns-clause-next : goal.returns-clause-next
returns-clause-next c =
    let laws : Laws = record {
      first = c.lists_have_points.ensures.first;
      each = c.callbacks_have_graphs.ensures.each;
      next = c.lists_have_turns.ensures.next;
      left = c.lists_have_turns.ensures.left;
      cost = c.lists_have_turns.ensures.cost;
      nested = c.lists_have_turns.ensures.nested;
    } in
    λ p l filter s act outcome made h. next_is laws (filter_at p filter) (graph_at l.graphs filter)
    (lowered_at p l.graphs filter made.graphs) s act.rest h.stands outcome

pub returns-clause-told : goal.returns-clause-told
returns-clause-told c =
    let laws : Laws = record {
      first = c.lists_have_points.ensures.first;
      each = c.callbacks_have_graphs.ensures.each;
      next = c.lists_have_turns.ensures.next;
      left = c.lists_have_turns.ensures.left;
      cost = c.lists_have_turns.ensures.cost;
      nested = c.lists_have_turns.ensures.nested;
    } in
    λ p l filter s act made h. told_is laws (filter_at p filter) (graph_at l.graphs filter)
    (lowered_at p l.graphs filter made.graphs) s act.rest h.stands
