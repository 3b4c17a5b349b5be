use Rattle.std.proofs.Common.{◌≡◌, [], ◌∷◌, ◌++◌, Some, if◌then◌else◌, length, ℕ, refl, arith}
use Rattle.flt_rules.specs.declared.call.Call.TheVariants as call
use Rattle.flt_model.specs.Calls as calls
use Rattle.flt_model.specs.Effects.{uses, empties, gives_nothing}
use Rattle.flt_model.specs.declared.event.Event.TheVariants as event
use Rattle.flt_machine_calls.proofs.Answering.{answers_own, answers}
use Rattle.flt_machine_calls.proofs.Owned.{own_call, none_up_to, allocate_up_to}
use Rattle.flt_machine_calls.proofs.contexts.allocate.Goals as goal

pub returns-clause-planned : goal.returns-clause-planned
returns-clause-planned c =
    let a = c.args.caller.now.activation in
    let told : c.push.new.list.items ≡ event.Call a call.AllocateContext ∷ (uses a [] ++ empties a []) =
    rw (c.in_ok-push.ensures.items, c.new-events.ensures.items) refl in
    answers {X = ℕ} c.args.store.now c.args.caller.now call.AllocateContext c.push.new.list.items 0 (λ act. 0) (λ y. [])
    (λ w y granted refused. if c.args.grant then calls.allocated w a c.args.output granted
    (length w.store.contexts) else gives_nothing w a (Some c.args.output) refused)
    c.allocated.result (λ rest. refl) told c.allocated.ensures.planned

pub returns-clause-own : goal.returns-clause-own
returns-clause-own c =
    let a = c.args.caller.now.activation in
    answers_own c.args.store.now c.args.caller.now c.allocated.result
    (λ w granted refused. calls.allocate w a c.args.output c.args.grant granted refused) (returns-clause-planned c)
    (λ w. own_call w a call.AllocateContext [] []
    (if c.args.grant then calls.allocated w a c.args.output [] (length w.store.contexts) else gives_nothing w a (Some c.args.output) [])
    (none_up_to a 1) (omega arith) (allocate_up_to w a c.args.output c.args.grant [] []))
