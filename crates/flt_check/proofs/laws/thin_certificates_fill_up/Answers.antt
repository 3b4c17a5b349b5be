use Rattle.flt_check.proofs.Thin.Certificates.{full_is_certificate}
use Rattle.flt_check.proofs.Thin.Known.{Laws}
use Rattle.flt_check.proofs.laws.thin_certificates_fill_up.Goals as goal

pub returns : goal.returns
returns c =
    let laws : Laws = record {
      reflexive = c.joins_are_least.ensures.reflexive;
      transitive = c.joins_are_least.ensures.transitive;
      monotone = c.transfer_is_monotone.ensures;
      proper = c.transfer_keeps_states_proper.ensures;
    } in
    record { certificate = full_is_certificate laws; covers = λ g t h. h.covers }
