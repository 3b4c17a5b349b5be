use Rattle.std.proofs.Common.{◌≡◌, ◌+◌, ap, ◌∙◌}
use Rattle.flt_pool.specs.Hands.{newcomer}
use Rattle.flt_pool.specs.Seats.{IsPutSeatOf, put_hand}
use Rattle.flt_pool.specs.declared.seats.PutSeat.{PutSeat}
use Rattle.flt_pool.proofs.Pushes.{longer, all_more}
use Rattle.flt_pool.proofs.opening.put_seats.Goals as goal

pub loop-preserved : goal.loop-preserved
loop-preserved c =
    let more = c.in_ok-push.ensures.items in (
      longer _ _ _ more ∙ ap (λ n. n + 1) c.loop.invariant.0,
      all_more _ _ _ more (λ (seat : PutSeat). IsPutSeatOf c.args.pool.now seat × (put_hand seat ≡ newcomer)) c.loop.invariant.1
          (c.pass-pass.ensures.0, c.pass-pass.ensures.1),
    )
