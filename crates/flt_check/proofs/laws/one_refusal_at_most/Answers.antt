use Rattle.flt_check.proofs.Either.{refused_once, not_refused}
use Rattle.flt_check.proofs.laws.one_refusal_at_most.Goals as goal

pub returns : goal.returns
returns c = record {
  one = refused_once c.one_fault_is_least.ensures c.one_thin_fault_is_least.ensures;
  none = not_refused c.covering_is_faultless.ensures.faultless;
}
