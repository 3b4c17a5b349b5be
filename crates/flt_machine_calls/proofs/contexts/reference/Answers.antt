use Rattle.std.proofs.Common.{◌≡◌, [], ◌∷◌, ◌++◌, sym, refl, arith}
use Rattle.flt_rules.specs.declared.call.Call.TheVariants as call
use Rattle.flt_model.specs.Calls as calls
use Rattle.flt_model.specs.Effects.{uses, empties, context}
use Rattle.flt_model.specs.Variables.{context_in}
use Rattle.flt_model.specs.World.{activation_at}
use Rattle.flt_model.specs.declared.event.Event.TheVariants as event
use Rattle.flt_machine_calls.proofs.Answering.{answers_own, answers_plainly}
use Rattle.flt_machine_calls.proofs.Owned.{own_call, none_up_to, referenced_up_to}
use Rattle.flt_machine_calls.proofs.contexts.reference.Goals as goal

pub returns-clause-planned : goal.returns-clause-planned
returns-clause-planned c =
    let a = c.args.caller.now.activation in
    let x = c.context-named.result in
    let told : c.need.new.events.items ≡ event.Call a call.ReferenceContext ∷ (uses a (context x ∷ []) ++ empties a (context x ∷ [])) =
    rw (c.in_ok-need.ensures.added, c.in_ok-push.ensures.items, c.new-events.ensures.items, c.context.ensures) refl in
    answers_plainly c.args.store.now c.args.caller.now call.ReferenceContext c.need.new.events.items x
    (λ act. context_in act c.args.context) (λ y. context y ∷ [])
    (λ w y granted refused. calls.referenced w a c.args.output granted y) c.referenced.result
    (λ rest. sym c.context-named.ensures) told c.referenced.ensures.planned

pub returns-clause-own : goal.returns-clause-own
returns-clause-own c =
    let a = c.args.caller.now.activation in
    answers_own c.args.store.now c.args.caller.now c.referenced.result
    (λ w granted refused. calls.reference w a c.args.context c.args.output granted) (returns-clause-planned c)
    (λ w. let y = context_in (activation_at w a) c.args.context in
    own_call w a call.ReferenceContext [] (context y ∷ []) (calls.referenced w a c.args.output [] y) (none_up_to a 1) (omega arith)
    (referenced_up_to w a c.args.output [] y))
