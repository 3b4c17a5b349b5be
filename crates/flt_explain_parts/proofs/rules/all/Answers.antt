use Rattle.std.proofs.Common.{refl}
use Rattle.flt_explain_parts.specs.Rules.{all}
use Rattle.flt_explain_parts.proofs.rules.all.Goals as goal

pub returns : goal.returns
unfolding all
returns c = refl
