use Rattle.flt_model.proofs.Altitudes.{put_there}
use Rattle.flt_model.proofs.program.filters_have_places.Goals as goal

pub returns : goal.returns
returns c = put_there
