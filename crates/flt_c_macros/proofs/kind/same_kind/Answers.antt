use Rattle.std.proofs.Common.{rules, sym, ◌∙◌}
use denote.Enum.Bare.{same_true}
use Rattle.flt_c_tokens.specs.contracts.token.Kind.{the_type}
use Rattle.flt_c_macros.proofs.kind.same_kind.Goals as goal

pub returns-clause-same : goal.returns-clause-same
returns-clause-same c is = same_true the_type (search rules) _ _ (sym c.eq.ensures ∙ is)
