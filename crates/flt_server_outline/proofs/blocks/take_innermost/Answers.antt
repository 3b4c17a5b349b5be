use Rattle.flt_server_outline.proofs.Braces.{taken}
use Rattle.flt_server_outline.proofs.blocks.take_innermost.Goals as goal

pub returns-clause-token : goal.returns-clause-token
returns-clause-token c = (taken _ _ _ c.pop.ensures).0

pub returns-clause-others : goal.returns-clause-others
returns-clause-others c = (taken _ _ _ c.pop.ensures).1
