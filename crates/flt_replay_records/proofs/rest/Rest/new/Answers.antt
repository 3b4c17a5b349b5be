use Rattle.std.proofs.lemmas.List.{append-nil}
use Rattle.flt_replay_records.specs.Rest.{before}
use Rattle.flt_replay_records.proofs.rest.Rest.new.Goals as goal

pub returns : goal.returns
unfolding before
returns c = append-nil c.args.block.now
