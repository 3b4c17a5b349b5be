use Rattle.std.proofs.Common.{◌≡◌, [], ◌∷◌, ◌++◌, option_map, sym, refl}
use Rattle.flt_rules.specs.declared.call.Call.TheVariants as call
use Rattle.flt_tree.specs.declared.variable.OperationVariable.TheVariants.{Data}
use Rattle.flt_model.specs.Calls as calls
use Rattle.flt_model.specs.Effects.{uses, empties}
use Rattle.flt_model.specs.Variables.{operation_in}
use Rattle.flt_model.specs.World.{activation_at, actor_at}
use Rattle.flt_model.specs.declared.event.Event.TheVariants as event
use Rattle.flt_machine_calls.proofs.Answering.{answers_own, answers_at}
use Rattle.flt_machine_calls.proofs.Owned.{own_call, none_up_to, needs_few, delete_at_up_to}
use Rattle.flt_machine_calls.proofs.contexts.delete_at.Goals as goal

pub returns-clause-planned : goal.returns-clause-planned
returns-clause-planned c =
    let a = c.args.caller.now.activation in
    let f = c.args.caller.now.filter in
    let x = c.operation-given.result in
    let told : c.need_anchor.new.events.items ≡ event.Call a (call.DeleteContextOf c.args.on) ∷
    (uses a (calls.needs_of c.args.on x) ++ empties a (calls.needs_of c.args.on x)) =
    rw (c.in_ok-need_anchor.ensures.told, c.in_ok-push.ensures.items, c.new-events.ensures.items) refl in
    answers_at c.args.store.now c.args.caller.now (call.DeleteContextOf c.args.on) c.need_anchor.new.events.items x
    (λ act. operation_in act Data) (λ y. calls.needs_of c.args.on y)
    (λ w y l granted refused. calls.delete_by w a c.args.old granted refused l) (λ g y. calls.link_of c.args.store.now g c.args.on y)
    (option_map (λ k. record { filter = f; key = k }) c.key_of.result)
    c.delete_by.result (λ rest. sym c.operation-given.ensures) told (c.key_of.ensures f) c.delete_by.ensures.planned

pub returns-clause-own : goal.returns-clause-own
returns-clause-own c =
    let a = c.args.caller.now.activation in
    answers_own c.args.store.now c.args.caller.now c.delete_by.result
    (λ w granted refused. calls.delete_at w a c.args.on c.args.old granted refused) (returns-clause-planned c)
    (λ w. let y = operation_in (activation_at w a) Data in let l = calls.link_of w.store (actor_at w a).filter c.args.on y in
    own_call w a (call.DeleteContextOf c.args.on) [] (calls.needs_of c.args.on y) (calls.delete_by w a c.args.old [] [] l)
    (none_up_to a 1) (needs_few c.args.on y) (delete_at_up_to w a c.args.old [] [] l))
