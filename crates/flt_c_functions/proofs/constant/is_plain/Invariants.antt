use Rattle.std.proofs.Common.{◌≡◌, false, drop}
use Rattle.std.specs.Prelude.{Some}
use Rattle.flt_c_functions.specs.Constants.{goes_on}
use Rattle.flt_c_functions.specs.declared.constant.Stage.TheVariants as stage
use Rattle.flt_c_functions.proofs.constant.is_plain.Given as goal

abbrev pub invariant-loop-token : goal.invariant-loop-token
invariant-loop-token l =
    goes_on (Some stage.Plain) false l.fn.tokens ≡ goes_on (Some l.at) l.has_value (drop l.token-index l.fn.tokens)
