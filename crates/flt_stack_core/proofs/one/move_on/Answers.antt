use Rattle.std.proofs.Common.{Err, ap, ◌∙◌}
use Rattle.flt_stack_core.proofs.Following.{full_journal}
use Rattle.flt_stack_core.proofs.one.move_on.Goals as goal

pub returns-in-Err-Full-clause-full : goal.returns-in-Err-Full-clause-full
returns-in-Err-Full-clause-full c = λ _.
    full_journal c.args.board.now c.in-Some.step c.in-Some.ensures.following
    (c.apply.ensures.full.0 (c.in-Err-Full.is ∙ ap Err c.in-Err-Full.field-0-is)).1
