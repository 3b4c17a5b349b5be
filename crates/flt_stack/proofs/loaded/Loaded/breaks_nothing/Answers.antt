use Rattle.std.proofs.Common.{◌≡◌, None, subst}
use Rattle.flt_model.specs.Runs.{breaks}
use Rattle.flt_stack.proofs.loaded.Loaded.breaks_nothing.Goals as goal

pub returns : goal.returns
returns c transitions =
    subst (λ filters. breaks filters transitions ≡ None) c.self.view_is
    (c.accepted_runs_break_nothing.ensures _ transitions c.self.invariant.accepted)
