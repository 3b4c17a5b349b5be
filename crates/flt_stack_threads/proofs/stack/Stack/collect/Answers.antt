use Rattle.std.proofs.Common.{rules, ◌≡◌, Err, OnErr, subst, sym}
use Rattle.flt_stack_threads.proofs.Sweeping.{nothing_taken}
use Rattle.flt_stack_threads.specs.Requests.{AreSetAgain}
use Rattle.flt_stack_threads.proofs.stack.Stack.collect.Goals as goal

pub returns-in_err-made-clause-again : goal.returns-in_err-made-clause-again
returns-in_err-made-clause-again g c =
    let fails : c.from_residual.result ≡ Err c.in_err-made.field-0.0 = search rules in
    subst (λ r. OnErr r (AreSetAgain c.args.seat.now.place.requests c.cancel_all.new.seat.place.requests)) (sym fails)
    (nothing_taken c.args.seat.now.place.requests c.cancel_all.new.seat.place.requests c.in_err-made.ensures.pads)
