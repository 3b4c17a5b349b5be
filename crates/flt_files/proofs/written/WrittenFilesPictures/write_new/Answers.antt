use Rattle.flt_files.proofs.Attempting.{each_new, ok_err, unmade_by}
use Rattle.flt_files.proofs.written.WrittenFilesPictures.write_new.Goals as goal

pub returns-clause-made : goal.returns-clause-made
returns-clause-made g c = each_new _ _ _ c.args.bytes.now c.add_new.result c.add_new.ensures.done

pub returns-clause-failed : goal.returns-clause-failed
returns-clause-failed g c = ok_err _ _ (unmade_by _ _ _) c.add_new.result c.add_new.ensures.failed
