use Rattle.std.proofs.Common.{◌≡◌, ◌++◌, drop, map}
use Rattle.flt_c_functions.specs.Constants.{is_kept}
use Rattle.flt_c_functions.proofs.constant.kept_by.Given as goal

abbrev pub invariant-loop-form : goal.invariant-loop-form
invariant-loop-form l = map is_kept l.fn.forms ≡ l.found.items ++ map is_kept (drop l.form-index l.fn.forms)
