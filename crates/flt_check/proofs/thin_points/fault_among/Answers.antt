use Rattle.flt_check.proofs.Thin.Looked.{ready_begins}
use Rattle.flt_check.proofs.thin_points.fault_among.Goals as goal

pub first_broken-requires-clause-ready : goal.first_broken-requires-clause-ready
first_broken-requires-clause-ready g c =
    ready_begins c.args.graph.now c.args.callback c.args.slots.now c.nothing_waits-states.result g.row.N c.requires.room
    c.nothing_waits-states.ensures.count c.nothing_waits-states.ensures.none
