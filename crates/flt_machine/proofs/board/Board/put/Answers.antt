-- An activation that goes on is counted as it was.
use Rattle.flt_machine.proofs.Consistent.{renewed_so}
use Rattle.flt_machine.proofs.board.Board.put.Goals as goal

pub invariant_of-self : goal.invariant_of-self
invariant_of-self c =
    renewed_so (record {
      actors = c.self.inside.actors.items;
      standings = c.self.inside.standings.items;
      store = c.self.inside.store;
      entries = c.self.inside.journal;
    }) c.args.self.now c.self.inside.active.items c.args.activation c.self.view_is c.requires.there c.self.invariant
    c.args.later c.in-Some.standing c.renew.new.standings.items c.in-Some.is c.requires.small c.renew.ensures
