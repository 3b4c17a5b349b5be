use Rattle.flt_files.specs.Deeds.{left_free, left_over, put_free, put_over}
use Rattle.flt_files.specs.declared.system.Place.TheVariants as place
use Rattle.flt_files.proofs.Doing.{if_failed}
use Rattle.flt_files.proofs.Attempting.{barred_by, cut_by, err, failed_by, ok_err, ok_ok, unlooked_by, wrote_by}
use Rattle.flt_files.proofs.Attempting.{unasked_by}
use Rattle.flt_files.proofs.written.WrittenFilesPictures.rewrite.Goals as goal

pub returns-in_err-place-clause-refused : goal.returns-in_err-place-clause-refused
returns-in_err-place-clause-refused g c = if_failed _ c.from_residual.result (unlooked_by _ _ _ c.in_err-place.ensures.refused)

pub returns-in-Ok-Stream-clause-failed : goal.returns-in-Ok-Stream-clause-failed
returns-in-Ok-Stream-clause-failed g c =
    unasked_by _ _ _ (rw (c.in-Ok-Stream.is, c.in-Ok-Stream.field-0-is) at c.in_ok-place.ensures.done)

pub returns-in-Ok-Free-clause-wrote : goal.returns-in-Ok-Free-clause-wrote
returns-in-Ok-Free-clause-wrote g c =
    let first = rw (c.in-Ok-Free.is, c.in-Ok-Free.field-0-is) at c.in_ok-place.ensures.done in
    ok_ok _ _ (wrote_by _ _ _ _ c.args.bytes.now place.Free put_free first) c.replace_read.result c.replace_read.ensures.put

pub returns-in-Ok-Free-clause-failed : goal.returns-in-Ok-Free-clause-failed
returns-in-Ok-Free-clause-failed g c =
    let first = rw (c.in-Ok-Free.is, c.in-Ok-Free.field-0-is) at c.in_ok-place.ensures.done in
    ok_err _ _ (failed_by _ _ _ _ place.Free left_free first) c.replace_read.result c.replace_read.ensures.left

pub returns-in-Ok-Free-clause-refused : goal.returns-in-Ok-Free-clause-refused
returns-in-Ok-Free-clause-refused g c =
    let first = rw (c.in-Ok-Free.is, c.in-Ok-Free.field-0-is) at c.in_ok-place.ensures.done in
    err _ _ (cut_by _ _ _ _ place.Free left_free first) c.replace_read.result c.replace_read.ensures.refused

pub returns-in-Ok-File-clause-wrote : goal.returns-in-Ok-File-clause-wrote
returns-in-Ok-File-clause-wrote g c =
    let first = rw (c.in-Ok-File.is, c.in-Ok-File.field-0-is) at c.in_ok-place.ensures.done in
    ok_ok _ _ (wrote_by _ _ _ _ c.args.bytes.now place.File put_over first) c.replace_read-in-Ok-File.result c.replace_read-in-Ok-File.ensures.put

pub returns-in-Ok-File-clause-failed : goal.returns-in-Ok-File-clause-failed
returns-in-Ok-File-clause-failed g c =
    let first = rw (c.in-Ok-File.is, c.in-Ok-File.field-0-is) at c.in_ok-place.ensures.done in
    ok_err _ _ (failed_by _ _ _ _ place.File left_over first) c.replace_read-in-Ok-File.result c.replace_read-in-Ok-File.ensures.left

pub returns-in-Ok-File-clause-refused : goal.returns-in-Ok-File-clause-refused
returns-in-Ok-File-clause-refused g c =
    let first = rw (c.in-Ok-File.is, c.in-Ok-File.field-0-is) at c.in_ok-place.ensures.done in
    err _ _ (cut_by _ _ _ _ place.File left_over first) c.replace_read-in-Ok-File.result c.replace_read-in-Ok-File.ensures.refused

pub returns-in-Err-clause-failed : goal.returns-in-Err-clause-failed
returns-in-Err-clause-failed g c = barred_by _ _ _ (rw c.in-Err.is at c.in_ok-place.ensures.done)
