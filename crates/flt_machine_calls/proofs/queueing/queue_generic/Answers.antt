use Rattle.std.proofs.Common.{List, [], arith, refl}
use Rattle.std.proofs.lemmas.Result.{IfOk-weaker}
use Rattle.flt_model.specs.Calls as calls
use Rattle.flt_model.specs.Effects.{optional}
use Rattle.flt_model.specs.World.{World}
use Rattle.flt_rules.specs.declared.call.Call.TheVariants as call
use Rattle.flt_tree.specs.declared.filter.Statement.{Statement}
use Rattle.flt_machine_calls.specs.Following.{Follows}
use Rattle.flt_machine_calls.specs.Own.{AreOwn}
use Rattle.flt_machine_store.specs.Changes.{AreCounted, IsPossible}
use Rattle.flt_machine_calls.proofs.Queued.{owned_call, one_optional, queue_up_to}
use Rattle.flt_machine_calls.proofs.queueing.queue_generic.Goals as goal

pub returns-clause-own : goal.returns-clause-own
returns-clause-own c =
    let a = c.args.caller.now.activation in
    let x = c.named_in-named.result in
    let effect : World → List Statement → List Statement → _ =
    λ w granted refused. calls.queue_by w a c.args.routine c.args.grant granted refused x in
    IfOk-weaker c.queue_by.result
    (λ plan. (s : _) → Follows s c.args.caller.now c.need_optional.new.events.items plan effect) (λ plan. AreOwn a plan.events)
    (λ plan planned.
    owned_call c.args.store.now c.args.caller.now plan call.QueueGenericWorkItem [] c.need_optional.new.events.items (optional x) effect
    (rw (c.in_ok-need_optional.ensures.added, c.in_ok-push.ensures.items, c.new-events.ensures.items) refl)
    (planned c.args.store.now) (tt, omega arith) (omega (arith, one_optional x))
    (λ w. queue_up_to w a c.args.routine c.args.grant [] [] x))
    c.queue_by.ensures.planned

pub returns-clause-possible : goal.returns-clause-possible
returns-clause-possible c =
    IfOk-weaker c.queue_by.result
    (λ plan. (s : _) → IsPossible s plan.change) (λ plan. AreCounted c.args.store.now → IsPossible c.args.store.now plan.change)
    (λ plan possible counted. possible c.args.store.now) c.queue_by.ensures.possible
