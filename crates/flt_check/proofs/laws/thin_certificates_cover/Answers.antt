use Rattle.flt_check.proofs.Thin.Certificates.{thin_covers, again_certificate_below}
use Rattle.flt_check.proofs.Thin.Known.{Laws}
use Rattle.flt_check.proofs.laws.thin_certificates_cover.Goals as goal

pub returns : goal.returns
returns c =
    let laws : Laws = record {
      reflexive = c.joins_are_least.ensures.reflexive;
      transitive = c.joins_are_least.ensures.transitive;
      monotone = c.transfer_is_monotone.ensures;
      proper = c.transfer_keeps_states_proper.ensures;
    } in
    record {
      rising = thin_covers laws;
      covers = λ f g k fine low. thin_covers laws g k (c.edges_lead_onwards.ensures f g fine low);
      below = again_certificate_below laws;
    }
