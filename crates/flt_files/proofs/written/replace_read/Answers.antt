use Rattle.std.proofs.Common.{◌∙◌, ◌+◌, refl}
use Rattle.flt_files.specs.System.{replaced}
use Rattle.flt_files.proofs.Doing.{if_failed, leaves, left_either, left_so_far, next}
use Rattle.flt_files.proofs.written.replace_read.Goals as goal

pub returns-in_err-part-clause-refused : goal.returns-in_err-part-clause-refused
returns-in_err-part-clause-refused g c =
    if_failed _ c.from_residual.result (left_so_far _ _ _ c.loop-tried.tried c.loop-tried.invariant.so_far)

pub returns-in_err-put_part_over-clause-refused : goal.returns-in_err-put_part_over-clause-refused
returns-in_err-put_part_over-clause-refused g c =
    if_failed _ c.from_residual-in_err-put_part_over.result
    (left_either _ _ _ _ c.loop-tried.tried c.loop-tried.invariant.so_far
    (rw (c.as_str.ensures.value, c.in_ok-part.ensures) at c.in_err-put_part_over.ensures.refused))

pub returns-in-Ok-true-clause-written : goal.returns-in-Ok-true-clause-written
returns-in-Ok-true-clause-written g c =
    let part = rw (c.in-Ok-true.is, c.in-Ok-true.field-0-test, c.as_str.ensures.value, c.in_ok-part.ensures)
    at c.in_ok-put_part_over.ensures.put in
    let done = part refl in
    replaced (c.loop-tried.tried + 1) done.0 done.1

pub returns-in-Err-clause-left : goal.returns-in-Err-clause-left
returns-in-Err-clause-left g c =
    leaves _ _ _ _ c.loop-tried.tried c.loop-tried.invariant.so_far c.in-Err.why
    (rw (c.in-Err.is, c.as_str.ensures.value, c.in_ok-part.ensures) at c.in_ok-put_part_over.ensures.done)

pub loop-tried-preserved : goal.loop-tried-preserved
loop-tried-preserved g c = record {
  so_far = next _ _ _ _ c.loop-tried.tried c.loop-tried.invariant.so_far
      (rw (c.in-Ok-false.is, c.in-Ok-false.field-0-test, c.as_str.ensures.value, c.in_ok-part.ensures) at c.in_ok-put_part_over.ensures.done);
  same = c.in_ok-put_part_over.ensures.same ∙ c.loop-tried.invariant.same;
}

pub returns-clause-left : goal.returns-clause-left
returns-clause-left g c = left_so_far _ _ _ c.loop-tried.tried c.loop-tried.invariant.so_far
