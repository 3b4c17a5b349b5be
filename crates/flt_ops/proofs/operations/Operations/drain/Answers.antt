use Rattle.std.proofs.Common.{◌<◌, sym, ap}
use Rattle.flt_model.specs.World.{Frame}
use Rattle.flt_ops.proofs.Changes.{drain_kept, found_filter}
use Rattle.flt_ops.proofs.operations.Operations.drain.Goals as goal

pub invariant_of-self-2 : goal.invariant_of-self-2
invariant_of-self-2 c =
    let there : c.frame.inside.filter < c.self.inside.filters =
    rw (ap (λ (frame : Frame). frame.filter) c.frame.view_is)
    (found_filter _ _ _ _ c.self.invariant c.args.serial c.args.filter c.in-Some.frame (sym c.in-Some.ensures)) in
    rw (c.take_frame.ensures, c.in_ok-visit.ensures.ok) (drain_kept _ _ _ _ c.self.invariant c.args.serial c.frame.inside.filter _ _ there)
