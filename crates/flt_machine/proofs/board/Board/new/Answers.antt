-- The board before the first move stands at the start.
use Rattle.flt_machine.proofs.Opened.{opening_own}
use Rattle.flt_machine.proofs.board.Board.new.Goals as goal

pub returns-clause-own : goal.returns-clause-own
returns-clause-own c p loaded =
    rw (c.new.ensures.items, c.new-2.ensures.items, c.in_ok-new.ensures.empty, c.filters.ensures p loaded, c.new-5.ensures) (opening_own p)
