use Rattle.std.proofs.Common.{arith}
use Rattle.flt_cancel.proofs.Steps.{collects, collected_were_asked}
use Rattle.flt_cancel.proofs.words.Words.collect.Goals as goal

pub swap-requires : goal.swap-requires
swap-requires c = (c.requires.token, omega (arith, c.args.self.now.size, c.requires.word), collects _ _ _ _ c.requires.word)

pub returns-clause-were_asked : goal.returns-clause-were_asked
returns-clause-were_asked c = collected_were_asked c.swap.ensures.2.2.0 _ _ _ _ c.swap.ensures.2.2.1
