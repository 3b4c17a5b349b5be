use Rattle.std.proofs.Common.{sym, ◌∙◌, arith}
use Rattle.flt_c_headers.proofs.Folders.{at_other, at_slash}
use Rattle.flt_c_headers.proofs.candidates.folder_of.Goals as goal

pub returns-then-name-length-eq47 : goal.returns-then-name-length-eq47
returns-then-name-length-eq47 c =
    let loop = c.loop-length in
    sym (at_slash c.args.name.now loop.length c.loop-length-test.true loop.invariant.within c.if-name-length-eq47.true)
    ∙ loop.invariant.same

pub loop-length-preserved : goal.loop-length-preserved
loop-length-preserved c =
    let loop = c.loop-length in
    record {
      within = omega (arith, loop.invariant.within);
      same =
          sym (at_other c.args.name.now loop.length c.loop-length-test.true loop.invariant.within c.if-name-length-eq47.false)
          ∙ loop.invariant.same;
    }
