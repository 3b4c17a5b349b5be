-- An activation that has ended is counted no more at its filter.
use Rattle.std.proofs.Common.{ap, refl, ◌∙◌}
use Rattle.flt_model.specs.World.{Actor}
use Rattle.flt_machine.proofs.Consistent.{end_fits, ended_so}
use Rattle.flt_machine.proofs.board.Board.end.Goals as goal

pub count_end-requires : goal.count_end-requires
count_end-requires c =
    end_fits (record {
      actors = c.self.inside.actors.items;
      standings = c.self.inside.standings.items;
      store = c.self.inside.store;
      entries = c.self.inside.journal;
    }) c.args.self.now c.self.inside.active.items c.args.activation c.self.view_is c.requires.there c.self.invariant c.filter.inside.filter
    (ap (λ (a : Actor). a.filter) (c.filter.view_is ∙ c.actor.ensures))

pub invariant_of-self : goal.invariant_of-self
invariant_of-self c =
    ended_so (record {
      actors = c.self.inside.actors.items;
      standings = c.self.inside.standings.items;
      store = c.self.inside.store;
      entries = c.self.inside.journal;
    }) c.args.self.now c.self.inside.active.items c.args.activation c.self.view_is c.requires.there c.self.invariant c.filter.inside.filter
    (ap (λ (a : Actor). a.filter) (c.filter.view_is ∙ c.actor.ensures)) _ c.count_end.new.counts.items refl c.count_end.ensures
