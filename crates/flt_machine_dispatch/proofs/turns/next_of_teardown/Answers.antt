use Rattle.std.proofs.Common.{sym}
use Rattle.flt_machine_store.specs.Stores.{world_of}
use Rattle.flt_machine_dispatch.proofs.Turning.{drain_enabled, ends, waits}
use Rattle.flt_machine_dispatch.proofs.turns.next_of_teardown.Goals as goal

pub returns-in-Some-clause-enabled : goal.returns-in-Some-clause-enabled
returns-in-Some-clause-enabled c p actors activations loaded is =
    drain_enabled p (world_of c.args.store.now actors activations) c.args.altitude c.number-filter.result
    (c.number-filter.ensures p loaded) (sym c.if-not-is_detaching.ensures) c.in-Some.serial (sym c.in-Some.ensures)

pub returns-then-is_drained-clause-next : goal.returns-then-is_drained-clause-next
returns-then-is_drained-clause-next c p actors activations loaded is =
    ends p (world_of c.args.store.now actors activations) c.args.altitude c.number-filter.result (c.number-filter.ensures p loaded)
    (sym c.if-not-is_detaching.ensures) (sym c.in_default.ensures) c.in_default-front.ensures c.in_default-first_key.ensures.none
    (sym (c.if-is_drained.ensures actors activations (rw (c.number-filter.ensures p loaded) is)))

pub returns-else-is_drained-clause-next : goal.returns-else-is_drained-clause-next
returns-else-is_drained-clause-next c p actors activations loaded is =
    waits p (world_of c.args.store.now actors activations) c.args.altitude c.number-filter.result (c.number-filter.ensures p loaded)
    (sym c.if-not-is_detaching.ensures) (sym c.in_default.ensures) c.in_default-front.ensures c.in_default-first_key.ensures.none
    (sym (c.if-is_drained.ensures actors activations (rw (c.number-filter.ensures p loaded) is)))
