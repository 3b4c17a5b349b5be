-- A filter's presence is that of the board's store.
use Rattle.std.proofs.Common.{◌≡◌, subst, sym}
use Rattle.flt_model.specs.Program.{filter_of}
use Rattle.flt_model.specs.World.{World, is_detaching, presence_at}
use Rattle.flt_machine.specs.Situations.{Situation, IsAt}
use Rattle.flt_machine.proofs.Decided.{there}
use Rattle.flt_machine.proofs.board.Board.is_detaching.Goals as goal

pub returns : goal.returns
returns c p loaded m at =
    there (λ (w : World). c.is_detaching.result ≡ is_detaching (presence_at w.store (filter_of p c.args.altitude))) p _ m
    (subst (λ (b : Situation). IsAt p b m) (sym c.self.view_is) at)
    (λ same. rw (sym (c.number.ensures p loaded)) c.is_detaching.ensures)
