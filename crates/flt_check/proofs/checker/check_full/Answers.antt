use Rattle.flt_check.proofs.Covering.{accepted_iff}
use Rattle.flt_check.proofs.checker.check_full.Goals as goal

pub returns-clause-accepted : goal.returns-clause-accepted
returns-clause-accepted c = accepted_iff _ _ _ c.callbacks-callbacks.ensures.certificate c.first_fault.ensures.accepted
    c.first_fault.ensures.refused
