-- The filter is found by its altitude.
use Rattle.std.proofs.Common.{sym, ◌∙◌}
use Rattle.flt_machine.proofs.Activity.{active_there}
use Rattle.flt_machine.proofs.board.Board.is_active_for.Goals as goal

pub returns-in-Detached : goal.returns-in-Detached
returns-in-Detached c p loaded m at =
    rw (c.in-Detached.is, sym (c.number.ensures p loaded)) (c.has_active.ensures ∙ active_there p c.args.self.now m c.number.result at)
