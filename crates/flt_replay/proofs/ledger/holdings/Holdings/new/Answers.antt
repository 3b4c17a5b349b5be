use Rattle.flt_replay.specs.Holdings.{times_held}
use Rattle.flt_replay.proofs.ledger.holdings.Holdings.new.Goals as goal

pub returns : goal.returns
unfolding times_held
returns c = λ a x. c.new.ensures x a
