use Rattle.std.proofs.Common.{◌≤◌, length, arith, sym, ◌∙◌}
use Rattle.std.proofs.lemmas.Grind.{common_steps}
use Rattle.flt_replay_world.proofs.Stacks.{level_missing}
use Rattle.flt_replay_world.proofs.stack.Stack.level.Goals as goal

pub returns-in-None : goal.returns-in-None
returns-in-None c =
    let past : length c.args.self.now ≤ c.args.filter = grind (arith, common_steps) in
    c.entry_level.ensures ∙ sym (level_missing c.args.self.now c.args.filter c.args.place c.args.locks.now past)
