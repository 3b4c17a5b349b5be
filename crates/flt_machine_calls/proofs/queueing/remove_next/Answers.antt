use Rattle.std.proofs.Common.{List, [], arith, refl}
use Rattle.std.proofs.lemmas.Result.{IfOk-weaker}
use Rattle.flt_model.specs.Calls as calls
use Rattle.flt_model.specs.World.{World, queue_at}
use Rattle.flt_rules.specs.declared.call.Call.TheVariants as call
use Rattle.flt_tree.specs.declared.filter.Statement.{Statement}
use Rattle.flt_machine_calls.specs.Following.{Follows}
use Rattle.flt_machine_calls.specs.Own.{AreOwn}
use Rattle.flt_machine_calls.proofs.Queued.{owned_call, removed_up_to}
use Rattle.flt_machine_calls.proofs.queueing.remove_next.Goals as goal

pub returns-clause-own : goal.returns-clause-own
returns-clause-own c =
    let a = c.args.caller.now.activation in
    let queue = queue_at c.args.store.now c.args.caller.now.filter in
    let effect : World → List Statement → List Statement → _ =
    λ w granted refused. calls.removed w a c.args.operation c.args.output granted refused queue in
    IfOk-weaker c.removed.result
    (λ plan. Follows c.args.store.now c.args.caller.now c.push.new.list.items plan effect) (λ plan. AreOwn a plan.events)
    (λ plan planned.
    owned_call c.args.store.now c.args.caller.now plan call.RemoveNextIo [] c.push.new.list.items [] effect
    (rw (c.in_ok-push.ensures.items, c.new-events.ensures.items) refl)
    planned (tt, omega arith) (omega arith) (λ w. removed_up_to w a c.args.operation c.args.output [] [] queue))
    c.removed.ensures.planned
