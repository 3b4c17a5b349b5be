use Rattle.std.proofs.Common.{sym}
use Rattle.flt_explain_waits.proofs.LocalSteps.{local_of_list}
use Rattle.flt_explain_waits.proofs.settling.goes_locally.Goals as goal
use Rattle.flt_replay_world.specs.Happening.{later}

pub returns : goal.returns
returns c comes =
    local_of_list c.args.world.now c.args.a c.is_local.result (sym c.if-has_ended.ensures)
    (c.is_local.ensures _ _ _ (later c.args.world.now c.args.a) comes)
