use Rattle.std.proofs.Common.{◌≡◌, arith, inr, length}
use Rattle.flt_joined.proofs.Grouping.{group_of, is_last_group, last_group_of, off_at}
use Rattle.flt_joined.proofs.beginning.end_of.Goals as goal

pub returns-then-not-goes_on-clause-group : goal.returns-then-not-goes_on-clause-group
returns-then-not-goes_on-clause-group c =
    group_of c.args.files.now c.args.first c.loop-next.next c.index-files-next.result c.loop-next.invariant
    (inr (
      c.loop-next-test.true,
      off_at c.args.files.now c.loop-next.next c.index-files-next.result c.index-files-next-in-loop-next.result c.loop-next-test.true
          c.index-files-next.is c.index-files-next-in-loop-next.is c.if-not-goes_on.ensures,
    ))

pub returns-then-not-goes_on-clause-code : goal.returns-then-not-goes_on-clause-code
returns-then-not-goes_on-clause-code c = is_last_group c.args.files.now c.args.first c.loop-next.next c.loop-next.invariant

pub returns-clause-group : goal.returns-clause-group
returns-clause-group c =
    let end : c.loop-next.next ≡ length c.args.files.now =
    omega (arith, c.loop-next.invariant.within, c.loop-next-test.false) in
    rw end at (last_group_of c.args.files.now c.args.first c.loop-next.next c.loop-next.invariant end)

pub returns-clause-code : goal.returns-clause-code
returns-clause-code c =
    let end : c.loop-next.next ≡ length c.args.files.now =
    omega (arith, c.loop-next.invariant.within, c.loop-next-test.false) in
    rw end at (is_last_group c.args.files.now c.args.first c.loop-next.next c.loop-next.invariant)
