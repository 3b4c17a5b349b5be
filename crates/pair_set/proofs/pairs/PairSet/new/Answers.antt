use Rattle.std.proofs.Common.{refl}
use Rattle.pair_set.specs.Pairs.{has}
use Rattle.pair_set.proofs.pairs.PairSet.new.Goals as goal

pub returns : goal.returns
unfolding has
returns c = λ f o. rw c.new.ensures.empty refl
