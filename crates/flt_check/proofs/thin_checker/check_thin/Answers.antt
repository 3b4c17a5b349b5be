use Rattle.flt_check.specs.Full.{full}
use Rattle.flt_check.proofs.Thin.Accepted.{accepted_iff}
use Rattle.flt_check.proofs.Thin.Certificates.{full_is_certificate}
use Rattle.flt_check.proofs.Thin.Known.{Laws}
use Rattle.flt_check.proofs.thin_checker.check_thin.Goals as goal

pub returns-clause-accepted : goal.returns-clause-accepted
returns-clause-accepted c =
    let g = c.args.graph.now in
    let t = c.args.thin.now in
    let laws : Laws = record {
      reflexive = c.joins_are_least.ensures.reflexive;
      transitive = c.joins_are_least.ensures.transitive;
      monotone = c.transfer_is_monotone.ensures;
      proper = c.transfer_keeps_states_proper.ensures;
    } in
    accepted_iff g t c.first_fault.result
    (λ h. c.covering_is_faultless.ensures.covers g (full g t) (full_is_certificate laws g t c.callbacks-callbacks.ensures.thin) h)
    (λ h. c.covering_is_faultless.ensures.faultless g (full g t) h)
    c.first_fault.ensures.accepted c.first_fault.ensures.refused
