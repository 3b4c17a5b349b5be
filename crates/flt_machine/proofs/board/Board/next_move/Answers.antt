-- The next move is that of the board's store.
use Rattle.std.proofs.Common.{◌≡◌, subst, sym}
use Rattle.flt_model.specs.World.{World}
use Rattle.flt_machine_dispatch.specs.Turns as turns
use Rattle.flt_machine.specs.Situations.{Situation, IsAt}
use Rattle.flt_machine.proofs.Decided.{there}
use Rattle.flt_machine.proofs.board.Board.next_move.Goals as goal

pub returns-clause-next : goal.returns-clause-next
returns-clause-next c p loaded m at =
    there (λ (w : World). c.next_of.result ≡ turns.next_of p w c.args.serial) p _ m
    (subst (λ (b : Situation). IsAt p b m) (sym c.self.view_is) at)
    (λ same. c.next_of.ensures.next p m.world.actors m.world.activations loaded same)
