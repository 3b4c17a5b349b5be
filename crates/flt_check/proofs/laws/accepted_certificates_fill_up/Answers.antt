use Rattle.flt_check.proofs.Either.{full_of_is_certificate, full_of_covers}
use Rattle.flt_check.proofs.laws.accepted_certificates_fill_up.Goals as goal

pub returns : goal.returns
returns c = record { certificate = full_of_is_certificate c.thin_certificates_fill_up.ensures.certificate; covers = full_of_covers }
