use Rattle.flt_analyse.proofs.One.{named_once}
use Rattle.flt_analyse.proofs.analyser.one_fault_is_named.Goals as goal

pub returns : goal.returns
returns c = named_once
