use Rattle.std.proofs.Common.{sym, ◌∙◌, ap}
use Rattle.flt_abs.specs.SetLaws.{status_bits-statuses}
use Rattle.flt_abs.specs.Sets as spec
use Rattle.flt_abs.proofs.sets.Statuses.digit.Goals as goal

pub returns : goal.returns
returns c = c.bits.ensures tt ∙ sym (status_bits-statuses _ c.self.invariant) ∙ ap spec.status_bits c.self.view_is
