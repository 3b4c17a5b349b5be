use Rattle.std.proofs.Common.{◌≡◌, [], ◌∷◌, ◌++◌, option_map, sym, refl}
use Rattle.flt_rules.specs.declared.call.Call.TheVariants as call
use Rattle.flt_tree.specs.declared.variable.OperationVariable.TheVariants.{Data}
use Rattle.flt_model.specs.Calls as calls
use Rattle.flt_model.specs.Effects.{uses, empties, context}
use Rattle.flt_model.specs.Variables.{context_in, operation_in}
use Rattle.flt_model.specs.World.{activation_at, actor_at}
use Rattle.flt_model.specs.declared.event.Event.TheVariants as event
use Rattle.flt_machine_calls.proofs.Answering.{answers_own, answers_at, pair_same}
use Rattle.flt_machine_calls.proofs.Owned.{own_call, none_up_to, needs_few_more, set_up_to}
use Rattle.flt_machine_calls.proofs.contexts.set_context.Goals as goal

pub returns-clause-planned : goal.returns-clause-planned
returns-clause-planned c =
    let a = c.args.caller.now.activation in
    let f = c.args.caller.now.filter in
    let x = c.context-named.result in
    let v = c.operation-given.result in
    let told : c.need_to_set.new.events.items ≡ event.Call a (call.SetContext c.args.on c.args.existing) ∷
    (uses a (context x ∷ calls.needs_of c.args.on v) ++ empties a (context x ∷ calls.needs_of c.args.on v)) =
    rw (c.in_ok-need_to_set.ensures.told, c.in_ok-push.ensures.items, c.new-events.ensures.items) refl in
    answers_at c.args.store.now c.args.caller.now (call.SetContext c.args.on c.args.existing) c.need_to_set.new.events.items (x, v)
    (λ act. (context_in act c.args.context, operation_in act Data)) (λ y. context y.0 ∷ calls.needs_of c.args.on y.1)
    (λ w y l granted refused. calls.set_by w a c.args.existing c.args.old granted refused y.0 l)
    (λ g y. calls.link_of c.args.store.now g c.args.on y.1)
    (option_map (λ k. record { filter = f; key = k }) c.key_of.result)
    c.set_by.result (λ rest. pair_same (sym c.context-named.ensures) (sym c.operation-given.ensures)) told
    (c.key_of.ensures f) c.set_by.ensures.planned

pub returns-clause-own : goal.returns-clause-own
returns-clause-own c =
    let a = c.args.caller.now.activation in
    answers_own c.args.store.now c.args.caller.now c.set_by.result
    (λ w granted refused. calls.set_context w a c.args.on c.args.existing c.args.context c.args.old granted refused)
    (returns-clause-planned c)
    (λ w. let x = context_in (activation_at w a) c.args.context in let y = operation_in (activation_at w a) Data in
    let l = calls.link_of w.store (actor_at w a).filter c.args.on y in
    own_call w a (call.SetContext c.args.on c.args.existing) [] (context x ∷ calls.needs_of c.args.on y)
    (calls.set_by w a c.args.existing c.args.old [] [] x l) (none_up_to a 1) (needs_few_more c.args.on y x)
    (set_up_to w a c.args.existing c.args.old [] [] x l))
