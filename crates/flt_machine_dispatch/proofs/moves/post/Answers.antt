use Rattle.std.proofs.Common.{Some, sym, ap, ◌∙◌}
use Rattle.flt_model.specs.declared.parts.Arrival.{Arrival}
use Rattle.flt_model.specs.World.{Frame, route_at}
use Rattle.flt_machine_store.specs.Stores.{world_of}
use Rattle.flt_machine_dispatch.proofs.Starting.{post_is}
use Rattle.flt_machine_dispatch.proofs.moves.post.Goals as goal

pub returns-clause-decided : goal.returns-clause-decided
returns-clause-decided c p actors activations loaded same =
    let s = c.args.store.now in
    let o = c.args.serial in
    post_is p (world_of s actors activations) o (route_at s o).position c.frame.inside.filter c.frame.inside.context c.post.result
    c.visits.result c.arrival-kind.result.kind
    (sym c.in_ok-frame.ensures ∙ ap (λ (frame : Frame). Some frame) (sym c.frame.view_is))
    (ap (λ (a : Arrival). a.kind) c.arrival-kind.ensures) c.visits.ensures (c.post.ensures.body p loaded)
