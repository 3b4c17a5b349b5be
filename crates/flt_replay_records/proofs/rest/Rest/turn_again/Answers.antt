use Rattle.flt_replay_records.specs.Kept.{contents}
use Rattle.flt_replay_records.proofs.Turning.{turn_of}
use Rattle.flt_replay_records.proofs.rest.Rest.turn_again.Goals as goal

pub returns-clause-turned : goal.returns-clause-turned
returns-clause-turned c is =
    turn_of c.args.self.now.block.now c.args.self.now.outer.now (contents c.args.kept.now).after (contents c.turn_again.new.self).after
    c.in-Some.body.now c.in_default.len_below c.in_default-outer.len_below c.in-Some.ensures.turned
