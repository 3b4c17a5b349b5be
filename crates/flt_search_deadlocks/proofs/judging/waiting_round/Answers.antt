use Rattle.std.specs.Prelude.{Contains}
use Rattle.std.proofs.lemmas.List.Elements.{All-push}
use Rattle.flt_search_deadlocks.proofs.Rounds.{one_waits_more}
use Rattle.flt_search_deadlocks.proofs.judging.waiting_round.Goals as goal

pub loop-acquisition-preserved : goal.loop-acquisition-preserved
loop-acquisition-preserved c = (
  rw c.in_ok-push.ensures.items
      (All-push (Contains c.args.waits.now) c.loop-acquisition.round.items c.in-Some.wait c.loop-acquisition.invariant.0
      c.in-Some.ensures.0),
  one_waits_more c.args.filter c.args.circle.now c.loop-acquisition.acquisition-index _ _ _ _ c.loop-acquisition-test.true
      c.loop-acquisition.invariant.1 c.in-Some.ensures.1 c.in_ok-push.ensures.items,
)
