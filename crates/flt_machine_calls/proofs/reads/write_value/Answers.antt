use Rattle.std.proofs.Common.{◌≡◌, [], ◌∷◌, ◌++◌, sym, subst, refl, ◌∙◌, arith}
use Rattle.flt_model.specs.Effects.{uses, empties, context, needing}
use Rattle.flt_model.specs.Reads as reads
use Rattle.flt_model.specs.Variables.{context_in, atom_value}
use Rattle.flt_model.specs.World.{activation_at}
use Rattle.flt_machine_calls.proofs.Answering.{atom_same}
use Rattle.flt_machine_calls.proofs.Called.{of_events, needed, read_is}
use Rattle.flt_machine_calls.proofs.Owned.{own_read, write_value_up_to}
use Rattle.flt_machine_calls.specs.Own.{AreOwn}
use Rattle.flt_machine_calls.specs.Plans.{IsPlanned, world_of}
use Rattle.flt_machine_calls.proofs.reads.write_value.Goals as goal

pub returns-clause-planned : goal.returns-clause-planned
returns-clause-planned c =
    let a = c.args.caller.now.activation in
    let x = c.context-named.result in
    let value = c.args.value in
    let told : c.need.new.events.items ≡ uses a (context x ∷ []) ++ empties a (context x ∷ []) =
    rw (c.in_ok-need.ensures.added, c.new-events.ensures.items, c.context.ensures) refl in
    λ actors activations granted refused h.
    let w = world_of c.args.store.now actors activations in
    let number = read_is (λ act. atom_value act value) c.args.caller.now actors activations c.atom.result h
    (λ rest. atom_same c.args.caller.now.standing rest value ∙ sym c.atom.ensures) in
    subst (λ y. IsPlanned w a c.value_written.result [] granted refused
    (needing w a (context y ∷ []) (reads.write_value_of w a value granted y)))
    (read_is (λ act. context_in act c.args.context) c.args.caller.now actors activations x h (λ rest. sym c.context-named.ensures))
    (needed w a c.value_written.result c.need.new.events.items (context x ∷ []) granted refused
    (reads.write_value_of w a value granted x) told
    (c.value_written.ensures.planned actors activations granted refused (sym number)))

pub returns-clause-own : goal.returns-clause-own
returns-clause-own c =
    let a = c.args.caller.now.activation in
    of_events (AreOwn a) c.args.store.now c.args.caller.now c.value_written.result
    (λ w granted refused. reads.write_value w a c.args.context c.args.value granted) (returns-clause-planned c)
    (λ w. let y = context_in (activation_at w a) c.args.context in
    own_read w a (context y ∷ []) (reads.write_value_of w a c.args.value [] y) (omega arith) (write_value_up_to w a c.args.value [] y))
