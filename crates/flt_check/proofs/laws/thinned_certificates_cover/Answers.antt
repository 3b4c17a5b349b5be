use Rattle.flt_check.proofs.Either.{thinned_covers}
use Rattle.flt_check.proofs.laws.thinned_certificates_cover.Goals as goal

pub returns : goal.returns
returns c = thinned_covers c.thin_certificates_cover.ensures.covers
