use Rattle.flt_explain.proofs.Clearing.{look_clear}
use Rattle.flt_explain.proofs.walk.Walk.look.Goals as goal

pub returns-clause-clear : goal.returns-clause-clear
returns-clause-clear c =
    look_clear c.args.spot c.past-ways.result c.args.self.now c.follow.new.self c.tell_faults.new.findings c.follow.new.findings
    c.earliest.result c.earliest-from.result c.args.spot.point c.requires.clear c.in_ok-follow.ensures.led c.earliest.ensures
    c.earliest-from.ensures
