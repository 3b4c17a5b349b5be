use Rattle.std.proofs.Common.{false, ap, ◌∙◌}
use Rattle.std.proofs.Math.ListN.{set}
use Rattle.flt_analyse.proofs.Bits.{removed}
use Rattle.flt_analyse.proofs.pending.Pending.remove.Goals as goal

pub returns : goal.returns
returns c = removed c.self.inside.words c.args.point c.self.invariant c.requires ∙ ap (λ s. set s c.args.point false) c.self.view_is
