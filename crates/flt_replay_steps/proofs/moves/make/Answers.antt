use Rattle.flt_replay_steps.proofs.moves.make.Goals as goal

pub returns-in-Detached : goal.returns-in-Detached
returns-in-Detached c =
    rw (c.in-Detached.is, ← c.number_of-in-Detached.ensures) (c.detached.ensures c.args.events.now.items)
