use Rattle.std.proofs.Common.{List, [], ◌∷◌, Option, arith, refl}
use Rattle.std.proofs.lemmas.Result.{IfOk-weaker}
use Rattle.flt_model.specs.Calls as calls
use Rattle.flt_model.specs.Effects.{operation, optional}
use Rattle.flt_model.specs.World.{World}
use Rattle.flt_model.specs.declared.event.Object.{Object}
use Rattle.flt_rules.specs.declared.call.Call.TheVariants as call
use Rattle.flt_tree.specs.declared.filter.Statement.{Statement}
use Rattle.flt_machine_calls.specs.Following.{Follows}
use Rattle.flt_machine_calls.specs.Own.{AreOwn}
use Rattle.flt_machine_store.specs.Changes.{AreCounted, IsPossible}
use Rattle.flt_machine_calls.proofs.Queued.{owned_call, one_optional, defer_up_to}
use Rattle.flt_machine_calls.proofs.queueing.queue_deferred.Goals as goal

pub returns-clause-own : goal.returns-clause-own
returns-clause-own c =
    let a = c.args.caller.now.activation in
    let v = c.handed-handed.result.visit in
    let x = c.handed-handed.result.context in
    let needs : List (Option Object) = operation v ∷ optional x in
    let effect : World → List Statement → List Statement → _ =
    λ w granted refused. calls.defer_by w a c.args.routine c.args.grant granted refused v x in
    IfOk-weaker c.defer_by.result
    (λ plan. (s : _) → Follows s c.args.caller.now c.need_named.new.events.items plan effect) (λ plan. AreOwn a plan.events)
    (λ plan planned.
    owned_call c.args.store.now c.args.caller.now plan call.QueueDeferredIoWorkItem [] c.need_named.new.events.items needs effect
    (rw (c.in_ok-need_named.ensures.added, c.in_ok-push.ensures.items, c.new-events.ensures.items) refl)
    (planned c.args.store.now) (tt, omega arith) (omega (arith, one_optional x))
    (λ w. defer_up_to w a c.args.routine c.args.grant [] [] v x))
    c.defer_by.ensures.planned

pub returns-clause-possible : goal.returns-clause-possible
returns-clause-possible c =
    IfOk-weaker c.defer_by.result
    (λ plan. (s : _) → IsPossible s plan.change) (λ plan. AreCounted c.args.store.now → IsPossible c.args.store.now plan.change)
    (λ plan possible counted. possible c.args.store.now) c.defer_by.ensures.possible
