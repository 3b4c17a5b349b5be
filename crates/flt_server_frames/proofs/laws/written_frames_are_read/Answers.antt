use Rattle.flt_server_frames.proofs.Written.{frames_read}
use Rattle.flt_server_frames.proofs.laws.written_frames_are_read.Goals as goal

pub returns : goal.returns
returns c = frames_read
