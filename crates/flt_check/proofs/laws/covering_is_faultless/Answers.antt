use Rattle.flt_check.proofs.Covering.{covers_of, faultless_of}
use Rattle.flt_check.proofs.laws.covering_is_faultless.Goals as goal

pub returns : goal.returns
returns c = record { covers = covers_of; faultless = faultless_of }
