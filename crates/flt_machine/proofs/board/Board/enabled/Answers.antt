-- There is a decision exactly where the move is enabled.
use Rattle.std.proofs.Common.{subst, sym, ◌∙◌}
use Rattle.flt_model.specs.Moves.{make}
use Rattle.flt_model.specs.World.{World}
use Rattle.flt_machine_dispatch.specs.Decisions.{Decides}
use Rattle.flt_machine.specs.Situations.{Situation, IsAt}
use Rattle.flt_machine.proofs.Decided.{there, enabled_there}
use Rattle.flt_machine.proofs.board.Board.enabled.Goals as goal

pub returns : goal.returns
returns c p loaded m at =
    c.is_some.ensures ∙
    enabled_there p m.world c.decide.result (make p m.world c.args.step)
    (there (λ (w : World). Decides p w c.decide.result (make p w c.args.step)) p _ m
    (subst (λ (b : Situation). IsAt p b m) (sym c.self.view_is) at)
    (λ same. c.decide.ensures.decided p m.world.actors m.world.activations loaded same (c.is_active_for.ensures p loaded m at)))
