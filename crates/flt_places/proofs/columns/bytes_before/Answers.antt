use Rattle.std.proofs.Common.{◌≡◌, ◌<◌, ◌≤◌, arith, drop, refl, slice_index}
use Rattle.std.proofs.lemmas.List.{drop_all}
use Rattle.flt_places.proofs.Before.{as_many, goes, no_more, stops}
use Rattle.flt_places.proofs.columns.bytes_before.Goals as goal
use Rattle.flt_places.specs.Columns.{bytes_before, units_of}

pub returns-then-left-next-clause-value : goal.returns-then-left-next-clause-value
returns-then-left-next-clause-value c =
    let large : c.loop-byte.left < units_of (slice_index c.args.line.now c.loop-byte.byte-index) =
    omega (arith, c.if-left-next.true, c.units_of-next.ensures.value) in
    omega (arith, c.loop-byte.invariant, stops c.args.line.now c.loop-byte.byte-index c.loop-byte.left c.loop-byte-test.true large)

pub returns-then-left-next-clause-few : goal.returns-then-left-next-clause-few
returns-then-left-next-clause-few c = no_more c.args.line.now c.args.units c.loop-byte.count (returns-then-left-next-clause-value c)

pub returns-then-left-next-clause-many : goal.returns-then-left-next-clause-many
returns-then-left-next-clause-many c = as_many c.args.line.now c.args.units c.loop-byte.count (returns-then-left-next-clause-value c)

pub loop-byte-preserved : goal.loop-byte-preserved
loop-byte-preserved c =
    let small : units_of (slice_index c.args.line.now c.loop-byte.byte-index) ≤ c.loop-byte.left =
    omega (arith, c.if-left-next.false, c.units_of-next.ensures.value) in
    let next = goes c.args.line.now c.loop-byte.byte-index c.loop-byte.left c.loop-byte-test.true small in
    rw c.units_of-next.ensures.value (omega (arith, c.loop-byte.invariant.0), omega (arith, c.loop-byte.invariant.1, next))

pub returns-clause-value : goal.returns-clause-value
returns-clause-value c =
    let none : bytes_before (drop c.loop-byte.byte-index c.args.line.now) c.loop-byte.left ≡ 0 =
    rw (drop_all c.loop-byte.byte-index c.args.line.now c.loop-byte-test.false) refl in
    omega (arith, c.loop-byte.invariant, none)

pub returns-clause-few : goal.returns-clause-few
returns-clause-few c = no_more c.args.line.now c.args.units c.loop-byte.count (returns-clause-value c)
