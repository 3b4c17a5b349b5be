use Rattle.std.proofs.Common.{◌≡◌, ◌<◌, Some, get_or, sym, ap, subst}
use Rattle.flt_model.specs.World.{Frame, no_route}
use Rattle.flt_ops.specs.Operating.{Operating, frame_at, frame_in}
use Rattle.flt_ops.proofs.Changes.{post_kept, next_filter}
use Rattle.flt_ops.proofs.operations.Operations.pop_frame.Goals as goal

pub invariant_of-self-2 : goal.invariant_of-self-2
invariant_of-self-2 c =
    let r = get_or c.self.inside.routes c.args.serial no_route in
    let next : frame_in r.frames r.position ≡ Some c.in-Some.frame =
    sym (subst (λ (ops : Operating). Some c.in-Some.frame ≡ frame_at ops c.args.serial) (sym c.self.view_is) c.in-Some.ensures) in
    let there : c.frame.inside.filter < c.self.inside.filters =
    rw (ap (λ (frame : Frame). frame.filter) c.frame.view_is) (next_filter _ _ _ _ c.self.invariant c.args.serial c.in-Some.frame next) in
    rw (c.pop_frame.ensures, c.in_ok-visit.ensures.ok) (post_kept _ _ _ _ c.self.invariant c.args.serial _ _ there)
