use Rattle.std.proofs.Common.{rules, subst}
use Rattle.std.specs.Prelude.{All}
use Rattle.std.proofs.lemmas.List.{take_all}
use Rattle.std.proofs.lemmas.List.Elements.{All-more}
use Rattle.flt_search_deadlocks.specs.Deadlocks.{IsHeldAmong}
use Rattle.flt_search_deadlocks.proofs.judging.are_held_among.Goals as goal

pub loop-wait-preserved : goal.loop-wait-preserved
loop-wait-preserved c =
    All-more (IsHeldAmong c.args.round.now) c.args.round.now c.loop-wait.wait-index _ c.loop-wait-test.true c.loop-wait.invariant
    (c.if-not-is_held_among.ensures (search rules))

pub returns : goal.returns
returns c is =
    subst (All (IsHeldAmong c.args.round.now)) (take_all c.loop-wait.wait-index c.args.round.now c.loop-wait-test.false)
    c.loop-wait.invariant
