use Rattle.flt_cert.proofs.Formats.{spelled_once}
use Rattle.flt_cert.proofs.laws.one_certificate_is_spelled.Goals as goal

pub returns : goal.returns
returns c = spelled_once
