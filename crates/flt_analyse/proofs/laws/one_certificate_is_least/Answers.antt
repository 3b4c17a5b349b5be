use Rattle.flt_analyse.proofs.LeastOnce.{least_once}
use Rattle.flt_analyse.proofs.laws.one_certificate_is_least.Goals as goal

pub returns : goal.returns
returns c = least_once c.is_partial_order.ensures.antisymmetric
