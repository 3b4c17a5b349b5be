use Rattle.std.proofs.Common.{Err, ap, subst, ◌∙◌}
use Rattle.flt_machine.specs.Situations.{IsBoard}
use Rattle.flt_stack_core.specs.Guarded.{Guarded}
use Rattle.flt_stack_core.proofs.Enabled.{arrival_enabled}
use Rattle.flt_stack_core.proofs.board.Core.arrive.Goals as goal

pub unreachable-requires : goal.unreachable-requires
unreachable-requires g c =
    arrival_enabled g.N.StackName.trees c.args.loaded.now c.args.self.now.board c.args.operation c.args.mode c.args.file
    c.requires.loaded (subst (λ (v : Guarded). IsBoard g.N.StackName.trees v.board) c.self.view_is c.self.invariant.0)
    c.requires.mode c.requires.file
    (c.make.ensures.disabled.0 (c.in-Err-NotEnabled.is ∙ ap Err c.in-Err-NotEnabled.field-0-is))
