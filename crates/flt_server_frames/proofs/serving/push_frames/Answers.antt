use Rattle.std.proofs.Common.{rules}
use Rattle.flt_server_frames.proofs.Sending.{frame_more}
use Rattle.flt_server_frames.proofs.serving.push_frames.Goals as goal

pub loop-body-preserved : goal.loop-body-preserved
loop-body-preserved c =
    frame_more (λ body. body.items) c.args.bodies.now c.loop-body.body-index c.body-item.result c.loop-body.out.items
    c.push_frame.new.out.items _
    c.loop-body-test.true c.body-item.is c.loop-body.invariant (search rules)
