-- The next move is that of the board's store, and of its activations.
use Rattle.std.proofs.Common.{subst, sym, ◌∙◌}
use Rattle.flt_model.specs.World.{World}
use Rattle.flt_machine_dispatch.specs.Turns as turns
use Rattle.flt_machine.specs.Situations.{Situation, IsAt}
use Rattle.flt_machine.proofs.Activity.{active_there}
use Rattle.flt_machine.proofs.Decided.{there}
use Rattle.flt_machine.proofs.board.Board.next_detach.Goals as goal

pub returns-clause-next : goal.returns-clause-next
returns-clause-next c p loaded m at =
    there (λ (w : World). turns.ComesNextOf p w c.args.altitude c.next_of_teardown.result) p _ m
    (subst (λ (b : Situation). IsAt p b m) (sym c.self.view_is) at)
    (λ same. c.next_of_teardown.ensures.next p m.world.actors m.world.activations loaded
    (rw (sym (c.number.ensures p loaded)) (c.has_active-active.ensures ∙ active_there p c.args.self.now m c.number.result at)))
