use Rattle.flt_prefix.proofs.Prefixes.{goes_on_in_texts}
use Rattle.flt_prefix.proofs.StuckFiles.{nothing_goes_on}
use Rattle.flt_prefix.proofs.laws.nothing_goes_on_from_the_token.Goals as goal

pub returns-clause-tokens : goal.returns-clause-tokens
returns-clause-tokens c = nothing_goes_on c.fails_exactly_where_nothing_is_spelled.ensures.tokens

pub returns-clause-texts : goal.returns-clause-texts
returns-clause-texts c = goes_on_in_texts (nothing_goes_on c.fails_exactly_where_nothing_is_spelled.ensures.tokens)
