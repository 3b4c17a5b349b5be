use Rattle.std.proofs.Common.{◌+◌, arith, refl, true}
use Rattle.std.proofs.lemmas.List.{length-drop, take_rest}
use Rattle.flt_door.proofs.Fronts.{front_by, one_hidden, one_passes}
use Rattle.flt_door.proofs.door.let_piece_out.Goals as goal

pub returns-then-passes-clause-out : goal.returns-then-passes-clause-out
returns-then-passes-clause-out c =
    one_passes c.args.bytes.now _ c.args.at (c.piece-more.result.0 + 1) refl
    (front_by _ c.piece-more.result true (rw (take_rest c.args.bytes.now c.args.at) at c.piece-more.ensures.value) c.if-passes.true)

pub returns-clause-out : goal.returns-clause-out
returns-clause-out c =
    let within = rw (take_rest c.args.bytes.now c.args.at) at c.piece-more.ensures.within in
    one_hidden c.args.bytes.now _ c.args.at c.sign_of-sign.result _ c.piece-more.result
    (rw (take_rest c.args.bytes.now c.args.at) at c.piece-more.ensures.value) c.if-passes.false
    (omega (arith, within, c.requires, length-drop c.args.at c.args.bytes.now)) c.sign_of-sign.ensures c.hide.ensures
