-- A move that starts no activation writes alone.
use Rattle.std.proofs.Common.{subst}
use Rattle.flt_machine.specs.Counted.{IsBounded}
use Rattle.flt_machine.proofs.Growing.{only_writes, seen, bounded_after}
use Rattle.flt_machine.proofs.board.Board.make.Goals as goal

pub invariant_of-self : goal.invariant_of-self
invariant_of-self c = record {
  bounded = bounded_after c.args.self.now _ c.args.step c.args.decision.now
      (subst IsBounded c.self.view_is c.self.invariant.bounded) c.requires.room c.requires.possible
      (seen _ c.args.self.now _ c.args.step c.args.decision.now c.self.view_is
      (only_writes _ c.args.step c.args.decision.now _ _ c.in-None.is c.in_ok-write-in-None.ensures.change
      c.in_ok-write-in-None.ensures.entry));
  counted = c.self.invariant.counted;
}
