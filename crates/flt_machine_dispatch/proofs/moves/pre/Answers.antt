use Rattle.std.proofs.Common.{length, sym, ap}
use Rattle.flt_model.specs.declared.parts.Arrival.{Arrival}
use Rattle.flt_model.specs.World.{arrival_at, route_at}
use Rattle.flt_machine_store.specs.Stores.{world_of}
use Rattle.flt_machine_dispatch.proofs.Starting.{pre_is}
use Rattle.flt_machine_dispatch.proofs.moves.pre.Goals as goal

pub returns-clause-decided : goal.returns-clause-decided
returns-clause-decided c p actors activations loaded same =
    let s = c.args.store.now in
    let o = c.args.serial in
    pre_is p (world_of s actors activations) (length s.presences) o (route_at s o).position c.in_ok-filter.filter c.pre.result
    c.visits.result c.arrival-kind.result.kind (arrival_at s o).kind (sym c.in_ok-filter.ensures) same
    (ap (λ (a : Arrival). a.kind) c.arrival-kind.ensures) c.visits.ensures
    (sym (c.if-not-calls_pre.ensures p loaded)) (c.pre.ensures.body p loaded)
