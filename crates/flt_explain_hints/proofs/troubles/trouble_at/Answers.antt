use Rattle.flt_explain_hints.proofs.Declared.{has_tokens}
use Rattle.flt_explain_hints.proofs.troubles.trouble_at.Goals as goal

pub with_token-requires-clause-few : goal.with_token-requires-clause-few
with_token-requires-clause-few c = has_tokens _ _ _ c.spot_at-spot.ensures c.in-Some.is
