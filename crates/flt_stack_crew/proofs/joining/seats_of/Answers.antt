use Rattle.std.proofs.Common.{◌≡◌}
use Rattle.flt_stack_threads.specs.Places.{IsWorkerOf}
use Rattle.flt_stack_crew.proofs.Elements.{as_many, each_value}
use Rattle.flt_stack_crew.proofs.joining.seats_of.Goals as goal

pub returns-clause-seats : goal.returns-clause-seats
returns-clause-seats g c =
    each_value c.args.all.items c.in_ok-ended.ended.seats.items (λ worked. worked.seat) c.in_ok-ended.ensures.seats
    (λ seat. IsWorkerOf c.args.stack.now.exchange seat.place × (seat.share.parts ≡ 1)) c.requires

pub returns-clause-count : goal.returns-clause-count
returns-clause-count g c =
    as_many c.args.all.items c.in_ok-ended.ended.seats.items (λ worked. worked.seat) c.in_ok-ended.ensures.seats
