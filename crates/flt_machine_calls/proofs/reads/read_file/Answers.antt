use Rattle.std.proofs.Common.{◌≡◌, [], ◌∷◌, ◌++◌, sym, refl, arith}
use Rattle.flt_model.specs.Effects.{uses, empties, operation}
use Rattle.flt_model.specs.Reads as reads
use Rattle.flt_model.specs.Variables.{operation_in}
use Rattle.flt_model.specs.World.{activation_at}
use Rattle.flt_machine_calls.proofs.Called.{plans_read, of_events}
use Rattle.flt_machine_calls.proofs.Owned.{own_read, read_file_up_to}
use Rattle.flt_machine_calls.specs.Own.{AreOwn}
use Rattle.flt_machine_calls.proofs.reads.read_file.Goals as goal

pub returns-clause-planned : goal.returns-clause-planned
returns-clause-planned c =
    let a = c.args.caller.now.activation in
    let x = c.operation-visit.result in
    let told : c.need.new.events.items ≡ uses a (operation x ∷ []) ++ empties a (operation x ∷ []) =
    rw (c.in_ok-need.ensures.added, c.new-events.ensures.items, c.operation.ensures) refl in
    plans_read c.args.store.now c.args.caller.now c.file_read.result c.need.new.events.items x (λ act. operation_in act c.args.operation)
    (λ y. operation y ∷ [])
    (λ w y granted refused. reads.read_file_of w a c.args.number granted y) (λ rest. sym c.operation-visit.ensures) told
    (λ actors activations granted refused h. c.file_read.ensures.planned actors activations granted refused)

pub returns-clause-own : goal.returns-clause-own
returns-clause-own c =
    let a = c.args.caller.now.activation in
    of_events (AreOwn a) c.args.store.now c.args.caller.now c.file_read.result
    (λ w granted refused. reads.read_file w a c.args.number c.args.operation granted) (returns-clause-planned c)
    (λ w. let act = activation_at w a in let y = operation_in act c.args.operation in
    own_read w a (operation y ∷ []) (reads.read_file_of w a c.args.number [] y) (omega arith) (read_file_up_to w a c.args.number [] y))
