-- The count of a filter says whether one goes on.
use Rattle.std.proofs.Common.{ℕ, List, ap, sym, ◌∙◌}
use Rattle.std.proofs.Math.ListN.{get_or}
use Rattle.std.specs.Prelude.{nat_lt}
use Rattle.flt_machine.specs.Situations.{Situation, has_standing}
use Rattle.flt_machine.proofs.Activity.{some_active}
use Rattle.flt_machine.proofs.board.Board.has_active.Goals as goal

pub returns : goal.returns
returns c =
    c.has_any.ensures ∙ ap (λ (l : List ℕ). nat_lt 0 (get_or l c.args.filter 0)) c.as_slice.ensures.value ∙
    ap (nat_lt 0) (c.self.invariant.counted c.args.filter) ∙
    sym (some_active c.args.filter c.self.inside.actors.items c.self.inside.standings.items) ∙
    ap (λ (b : Situation). has_standing c.args.filter b.actors b.standings) c.self.view_is
