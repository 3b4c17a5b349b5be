use Rattle.std.proofs.Common.{Some, sym, ap, ◌∙◌}
use Rattle.flt_model.specs.declared.parts.Arrival.{Arrival}
use Rattle.flt_model.specs.World.{Frame, route_at}
use Rattle.flt_machine_store.specs.Stores.{world_of}
use Rattle.flt_machine_dispatch.proofs.Starting.{drain_is, frame_found}
use Rattle.flt_machine_dispatch.proofs.teardown.drain.Goals as goal

pub returns-clause-decided : goal.returns-clause-decided
returns-clause-decided c p actors activations loaded same =
    let s = c.args.store.now in
    let o = c.args.serial in
    let f = c.args.filter in
    drain_is p (world_of s actors activations) f o c.frame.inside.context c.post.result c.visits.result c.arrival-kind.result.kind
    (sym c.if-not-is_detaching.ensures)
    (frame_found f c.frame.inside.filter c.frame.inside.context (route_at s o).frames
    (sym c.in_ok-frame.ensures ∙ ap (λ (frame : Frame). Some frame) (sym c.frame.view_is)))
    (ap (λ (a : Arrival). a.kind) c.arrival-kind.ensures) c.visits.ensures (c.post.ensures.body p loaded)

pub returns-clause-possible : goal.returns-clause-possible
returns-clause-possible c =
    let s = c.args.store.now in
    frame_found c.args.filter c.frame.inside.filter c.frame.inside.context (route_at s c.args.serial).frames
    (sym c.in_ok-frame.ensures ∙ ap (λ (frame : Frame). Some frame) (sym c.frame.view_is))
