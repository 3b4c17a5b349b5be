use Rattle.std.proofs.Common.{◌≡◌, arith}
use Rattle.std.proofs.lemmas.List.{length_push}
use Rattle.flt_stack_threads.proofs.Lists.{all_more, map_more}
use Rattle.flt_stack_threads.proofs.opening.worker_seats.Goals as goal

pub seats-preserved : goal.seats-preserved
seats-preserved g c =
    let i = c.seats.invariant in
    let pushed = c.in_ok-push.ensures.items in
    record {
      places = map_more _ _ _ pushed (λ seat. seat.place) c.seats.yielded i.places;
      left = omega (arith, length_push c.seats.yielded c.in-Some.place, i.left);
      none = omega arith;
      fulls_left = omega (arith, length_push c.seats.yielded c.in-Some.place, i.fulls_left);
      no_fulls = omega arith;
      fulls = all_more _ _ _ pushed (λ seat. (seat.fulls.parts ≡ 1) × (seat.fulls.amount ≡ 0)) i.fulls (omega arith, omega arith);
      shares = all_more _ _ _ pushed (λ seat. (seat.share.parts ≡ 1) × (seat.share.amount ≡ 0)) i.shares (omega arith, omega arith);
    }
