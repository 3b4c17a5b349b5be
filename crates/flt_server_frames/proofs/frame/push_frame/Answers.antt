use Rattle.std.specs.Prelude.{codes}
use Rattle.std.specs.Fmt.{decimal}
use Rattle.std.proofs.Common.{length}
use Rattle.flt_server_frames.proofs.Sending.{frame_pushed}
use Rattle.flt_server_frames.proofs.frame.push_frame.Goals as goal

pub returns : goal.returns
returns c =
    frame_pushed c.args.out.now.items _ _ _ _ (codes "Content-Length: ") (decimal (length c.args.body.now)) (codes "\r\n\r\n")
    c.args.body.now
    c.in_ok-extend_from_slice.ensures.items c.as_bytes.ensures.value c.in_ok-header.ensures.ok c.in_ok-extend_from_slice-2.ensures.items
