use Rattle.flt_machine.proofs.Bounded.{written_so}
use Rattle.flt_machine.proofs.board.Board.write_down.Goals as goal

pub invariant_of-self-2 : goal.invariant_of-self-2
invariant_of-self-2 c = record {
  bounded = written_so (record {
    actors = c.self.inside.actors.items;
    standings = c.self.inside.standings.items;
    store = c.self.inside.store;
    entries = c.self.inside.journal;
  }) c.args.self.now c.args.entry c.args.change
      c.write.new.store c.write.new.journal c.self.view_is c.requires.possible c.requires.room c.self.invariant.bounded
      c.in_ok-write.ensures.change c.in_ok-write.ensures.entry;
  counted = c.self.invariant.counted;
}
