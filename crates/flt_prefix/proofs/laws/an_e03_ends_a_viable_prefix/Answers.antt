use Rattle.flt_prefix.proofs.OnePlace.{viable_prefix}
use Rattle.flt_prefix.proofs.laws.an_e03_ends_a_viable_prefix.Goals as goal

pub returns : goal.returns
returns c = viable_prefix c.fails_exactly_where_nothing_is_spelled.ensures.tokens
