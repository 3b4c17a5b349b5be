use Rattle.flt_syntax.specs.Spelling.{Spells}
use Rattle.flt_syntax.specs.TextFails.{Fails}
use Rattle.flt_syntax.proofs.AllTexts.{first_fault, spelled_more}
use Rattle.flt_syntax.proofs.texts.parse_all.Goals as goal

pub returns-in-Err-Syntax-clause-err : goal.returns-in-Err-Syntax-clause-err
returns-in-Err-Syntax-clause-err c =
    let said : Fails c.as_slice.result.now c.in-Err-Syntax.fault =
    rw c.in-Err-Syntax.field-0-is at c.in-Err-Syntax.ensures.fault in
    let fault : Fails c.index-texts-number.result.items c.in-Err-Syntax.fault = rw c.as_slice.ensures.value at said in
    rw c.in-Err-Syntax.fault-is (first_fault c.args.texts.now c.loop-number.number c.index-texts-number.result _
    c.loop-number-test.true c.index-texts-number.is
    _ c.in-Err-Syntax.fault c.loop-number.invariant fault)

pub loop-number-preserved : goal.loop-number-preserved
loop-number-preserved c =
    let spelled : Spells c.index-texts-number.result.items c.in-Ok.tree.filter = rw c.as_slice.ensures.value at c.in-Ok.ensures.spelled in
    spelled_more c.args.texts.now c.loop-number.number c.index-texts-number.result _ c.loop-number-test.true c.index-texts-number.is
    c.loop-number.trees.items _ c.in-Ok.tree c.loop-number.invariant spelled c.in_ok-push-in-Ok.ensures.items
