use Rattle.std.proofs.Common.{◌↔◌, IsTrue, subst}
use Rattle.flt_sound.specs.Progress.{AreOrderly}
use Rattle.flt_stack.proofs.loaded.Loaded.is_ordered.Goals as goal

pub returns : goal.returns
returns c = subst (λ filters. IsTrue c.self.inside.ordered ↔ AreOrderly filters) c.self.view_is c.self.invariant.locks
