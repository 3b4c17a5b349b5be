use Rattle.std.proofs.Common.{◌≡◌, [], ◌∷◌, ◌++◌, sym, refl, arith}
use Rattle.flt_model.specs.Effects.{uses, empties, context}
use Rattle.flt_model.specs.Reads as reads
use Rattle.flt_model.specs.Variables.{context_in}
use Rattle.flt_model.specs.World.{activation_at}
use Rattle.flt_machine_calls.proofs.Called.{plans_read, of_events}
use Rattle.flt_machine_calls.proofs.Owned.{own_read, read_value_up_to}
use Rattle.flt_machine_calls.specs.Own.{AreOwn}
use Rattle.flt_machine_calls.proofs.reads.read_value.Goals as goal

pub returns-clause-planned : goal.returns-clause-planned
returns-clause-planned c =
    let a = c.args.caller.now.activation in
    let x = c.context-named.result in
    let told : c.need.new.events.items ≡ uses a (context x ∷ []) ++ empties a (context x ∷ []) =
    rw (c.in_ok-need.ensures.added, c.new-events.ensures.items, c.context.ensures) refl in
    plans_read c.args.store.now c.args.caller.now c.value_read.result c.need.new.events.items x (λ act. context_in act c.args.context)
    (λ y. context y ∷ [])
    (λ w y granted refused. reads.read_value_of w a c.args.number granted y) (λ rest. sym c.context-named.ensures) told
    (λ actors activations granted refused h. c.value_read.ensures.planned actors activations granted refused)

pub returns-clause-own : goal.returns-clause-own
returns-clause-own c =
    let a = c.args.caller.now.activation in
    of_events (AreOwn a) c.args.store.now c.args.caller.now c.value_read.result
    (λ w granted refused. reads.read_value w a c.args.number c.args.context granted) (returns-clause-planned c)
    (λ w. let act = activation_at w a in let y = context_in act c.args.context in
    own_read w a (context y ∷ []) (reads.read_value_of w a c.args.number [] y) (omega arith) (read_value_up_to w a c.args.number [] y))
