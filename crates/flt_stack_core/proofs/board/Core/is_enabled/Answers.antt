use Rattle.std.proofs.Common.{◌≡◌, false, subst}
use Rattle.std.specs.Prelude.{◌↔◌}
use Rattle.flt_machine.specs.Calls.{IsDisabled}
use Rattle.flt_stack_core.specs.Guarded.{Guarded}
use Rattle.flt_stack_core.proofs.Enabled.{disabled_is}
use Rattle.flt_stack_core.proofs.board.Core.is_enabled.Goals as goal

pub returns : goal.returns
returns g c = subst (λ (v : Guarded). (c.enabled.result ≡ false) ↔ IsDisabled c.args.loaded.now v.board c.args.step) c.self.view_is
    (disabled_is g.N.StackName.trees c.args.loaded.now c.self.inside.board c.args.step c.enabled.result
    c.requires.loaded c.self.invariant.0 c.enabled.ensures)
