use Rattle.std.proofs.Common.{true, ap, ◌∙◌}
use Rattle.std.proofs.Math.ListN.{set}
use Rattle.flt_analyse.proofs.Bits.{inserted}
use Rattle.flt_analyse.proofs.pending.Pending.insert.Goals as goal

pub returns : goal.returns
returns c = inserted c.self.inside.words c.args.point c.self.invariant c.requires ∙ ap (λ s. set s c.args.point true) c.self.view_is
