use Rattle.std.proofs.Common.{rules, sym}
use Rattle.flt_replay_steps.proofs.Together.{made_together}
use Rattle.flt_replay_steps.proofs.board.steps_unseen.Goals as goal
use Rattle.flt_replay_steps.proofs.board.steps_unseen.Goals.{in-Some, in-None}

pub returns : goal.returns
returns c = elim c.match-get_mut.branch [
  | in-Some w ↦ rw w.result-is
      (made_together w.step_locally_often.result c.args.steps c.args.world.now _ c.args.a w.in-Some.activation.now
      w.step_locally_often.new.self c.has_flag-draining.result (search rules) (search rules) (search rules)
      (sym c.has_flag-draining.ensures) (search rules) w.step_locally_often.ensures)
  | in-None w ↦ rw w.result-is (search rules)
]
