use Rattle.std.proofs.Common.{sym, ◌∙◌, arith}
use Rattle.flt_c_headers.proofs.Places.{before_header, in_header}
use Rattle.flt_c_headers.proofs.headers.last_before.Goals as goal

pub returns-then-files-number : goal.returns-then-files-number
returns-then-files-number c =
    let loop = c.loop-number in
    sym (in_header c.args.files.now loop.number c.index-files-number.result c.args.place c.loop-number-test.true loop.invariant.within
    c.index-files-number.is c.if-files-number.true)
    ∙ loop.invariant.same

pub loop-number-preserved : goal.loop-number-preserved
loop-number-preserved c =
    let loop = c.loop-number in
    record {
      within = omega (arith, loop.invariant.within);
      same =
          sym (before_header c.args.files.now loop.number c.index-files-number.result c.args.place c.loop-number-test.true
          loop.invariant.within c.index-files-number.is c.if-files-number.false)
          ∙ loop.invariant.same;
    }
