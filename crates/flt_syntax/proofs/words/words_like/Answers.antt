use Rattle.std.proofs.Common.{refl, rules}
use Rattle.flt_syntax.proofs.words.words_like.Goals as goal
use Rattle.flt_syntax.proofs.FirstBytes.{found_by_four}

pub returns-in-70 : goal.returns-in-70
returns-in-70 c = found_by_four _ _ c.args.name.now c.in-70.len_at_least (search rules) (search rules)
    (search rules) refl c.calls_from.ensures
