use Rattle.std.proofs.Common.{refl}
use Rattle.flt_replay_records.specs.Places.{has}
use Rattle.flt_replay_records.proofs.place_set.Places.new.Goals as goal

pub returns : goal.returns
unfolding has
returns c = λ i j k. rw c.new.ensures.empty refl
