use Rattle.std.proofs.Common.{rules, ◌≡◌, IfErr, Err, subst, sym}
use Rattle.flt_stack_threads.specs.Places.{hands_by}
use Rattle.flt_stack_threads.specs.Left.{Leaves}
use Rattle.flt_stack_threads.proofs.Leaving.{turn_leaves}
use Rattle.flt_stack_threads.proofs.stack.Stack.work.Goals as goal

pub returns-in_err-made-2-clause-left : goal.returns-in_err-made-2-clause-left
returns-in_err-made-2-clause-left g c =
    let fails : c.from_residual-in_err-made-2.result ≡ Err c.in_err-made-2.field-0.0 = search rules in
    subst (λ r. IfErr r (λ f. Leaves f c.serve.new.seat.place c.serve.new.seat.waiting c.serve.new.seat.requests)) (sym fails)
    (turn_leaves c.in_err-made-2.field-0.0 c.in-Some.ticket (hands_by c.loop.seat.place) c.take.new.place c.serve.new.seat.place
    c.serve.new.seat.waiting c.serve.new.seat.requests c.in-Some.ensures.taken c.in_err-made-2.ensures.kept)
