use Rattle.std.proofs.Common.{List, [], ◌∷◌, Option, arith, refl}
use Rattle.std.proofs.lemmas.Result.{IfOk-weaker}
use Rattle.flt_model.specs.Calls as calls
use Rattle.flt_model.specs.Effects.{operation, optional}
use Rattle.flt_model.specs.World.{World}
use Rattle.flt_model.specs.declared.event.Object.{Object}
use Rattle.flt_rules.specs.declared.call.Call.TheVariants as call
use Rattle.flt_tree.specs.declared.filter.Statement.{Statement}
use Rattle.flt_machine_calls.specs.Following.{Follows}
use Rattle.flt_machine_calls.specs.Own.{AreOwn}
use Rattle.flt_machine_calls.proofs.Queued.{owned_call, one_optional, insert_up_to}
use Rattle.flt_machine_calls.proofs.queueing.insert.Goals as goal

pub returns-clause-own : goal.returns-clause-own
returns-clause-own c =
    let a = c.args.caller.now.activation in
    let v = c.handed-handed.result.visit in
    let x = c.handed-handed.result.context in
    let needs : List (Option Object) = operation v ∷ optional x in
    let effect : World → List Statement → List Statement → _ = λ w granted refused. calls.insert_by w a granted refused v x in
    IfOk-weaker c.insert_by.result
    (λ plan. Follows c.args.store.now c.args.caller.now c.need_named.new.events.items plan effect) (λ plan. AreOwn a plan.events)
    (λ plan planned.
    owned_call c.args.store.now c.args.caller.now plan call.InsertIo [] c.need_named.new.events.items needs effect
    (rw (c.in_ok-need_named.ensures.added, c.in_ok-push.ensures.items, c.new-events.ensures.items) refl)
    planned (tt, omega arith) (omega (arith, one_optional x)) (λ w. insert_up_to w a [] [] v x))
    c.insert_by.ensures.planned
