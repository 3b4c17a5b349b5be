use Rattle.flt_cert.proofs.Slots.{thin_is_thin}
use Rattle.flt_cert.proofs.laws.thin_certificates_are_left.Goals as goal

pub returns : goal.returns
returns c = thin_is_thin
