use Rattle.flt_server_frames.proofs.Written.{one_reading}
use Rattle.flt_server_frames.proofs.laws.streams_have_one_reading.Goals as goal

pub returns : goal.returns
returns c = one_reading
