use Rattle.std.proofs.Common.{Err, ap, ◌∙◌}
use Rattle.flt_stack_core.specs.Guarded.{Guarded}
use Rattle.flt_stack_core.proofs.Outcomes.{cancelled_is, disabled_is_cancel, full_for_cancel}
use Rattle.flt_stack_core.proofs.board.Core.cancel.Goals as goal

pub returns-in-Ok-clause-cancelled : goal.returns-in-Ok-clause-cancelled
returns-in-Ok-clause-cancelled g c =
    cancelled_is c.args.loaded.now c.args.self.now.board c.args.serial c.apply.new.self.board c.in-Ok.events.next.items
    ((c.in-Ok.events.list, c.in-Ok.ensures.made), c.in-Ok.ensures.entry) c.in-Ok.ensures.next

pub returns-in-Err-NotEnabled-clause-cancelled : goal.returns-in-Err-NotEnabled-clause-cancelled
returns-in-Err-NotEnabled-clause-cancelled g c =
    disabled_is_cancel c.args.loaded.now c.args.self.now.board c.args.serial
    c.unmade.result.stays c.unmade.result.made c.apply.new.self.board
    c.unmade.result.next.items (c.apply.ensures.disabled.0 (c.in-Err-NotEnabled.is ∙ ap Err c.in-Err-NotEnabled.field-0-is))
    (ap (λ (v : Guarded). v.board) c.in-Err-NotEnabled.ensures.refused.0) c.unmade.ensures.stays c.unmade.ensures.made c.unmade.ensures.next

pub returns-in-Err-Full-clause-full : goal.returns-in-Err-Full-clause-full
returns-in-Err-Full-clause-full g c = λ _.
    full_for_cancel c.args.loaded.now c.args.self.now.board c.args.serial
    (c.apply.ensures.full.0 (c.in-Err-Full.is ∙ ap Err c.in-Err-Full.field-0-is)).1
