use Rattle.std.proofs.Common.{◌+◌, arith, true}
use Rattle.std.proofs.lemmas.List.{take_rest}
use Rattle.flt_door.proofs.Fronts.{front_by, front_out, passing_on, signs_out}
use Rattle.flt_door.proofs.door.put_front.Goals as goal

pub returns-then-passes-clause-ok : goal.returns-then-passes-clause-ok
returns-then-passes-clause-ok g c =
    let count = c.piece-more.result.0 + 1 in
    front_out _ _ c.args.bytes.now (count + c.passing.result) _
    (passing_on c.args.bytes.now count c.passing.result
    (front_by c.args.bytes.now c.piece-more.result true c.piece-more.ensures.value c.if-passes.true)
    (rw (take_rest c.args.bytes.now count) at c.passing.ensures.front))
    c.in_ok-put_all.ensures.ok (omega arith)

pub returns-clause-ok : goal.returns-clause-ok
returns-clause-ok g c = (
  _,
  c.in_ok-put_signs.ensures.ok,
  signs_out c.args.bytes.now c.piece-more.result _ _ c.piece-more.ensures.value c.if-passes.false c.piece-more.ensures.within
      c.sign_of.ensures,
)
