-- The actor and its standing come behind the others, and its filter counts one more.
use Rattle.std.proofs.Common.{Some, subst, sym, refl}
use Rattle.flt_machine_frames.specs.declared.standing.Standing.{Standing}
use Rattle.flt_machine.specs.Counted.{IsBounded}
use Rattle.flt_machine.specs.Moving.{Begins}
use Rattle.flt_machine.proofs.Consistent.{start_fits, started_so}
use Rattle.flt_machine.proofs.Growing.{starts, seen, bounded_after}
use Rattle.flt_machine.proofs.board.Board.start.Goals as goal

pub count_start-requires-clause-few : goal.count_start-requires-clause-few
count_start-requires-clause-few c =
    start_fits _ c.self.inside.active.items c.make_room.new.counts.items c.self.invariant c.make_room.ensures.same c.args.start.filter

pub invariant_of-self-2 : goal.invariant_of-self-2
invariant_of-self-2 c = record {
  bounded = bounded_after c.args.self.now _ c.args.step c.args.decision.now
      (subst IsBounded c.self.view_is c.self.invariant.bounded) c.requires.room c.requires.possible
      (seen _ c.args.self.now _ c.args.step c.args.decision.now c.self.view_is
      (starts _ c.args.step c.args.decision.now c.args.start c.in_ok-kept.kept _ _ _ _ c.requires.start
      (rw (c.reserve.ensures.items) at c.push_reserved.ensures.items) (rw (c.reserve-2.ensures.items) at c.push_reserved-2.ensures.items)
      c.in_ok-write.ensures.change c.in_ok-write.ensures.entry
      (λ p. subst (λ (s : Standing). Begins p (Some c.args.start) (Some s)) (sym c.in_ok-kept.ensures.kept) (c.standing_of.ensures p))));
  counted = started_so (record {
    actors = c.self.inside.actors.items;
    standings = c.self.inside.standings.items;
    store = c.self.inside.store;
    entries = c.self.inside.journal;
  })
      c.self.inside.active.items c.make_room.new.counts.items c.self.invariant c.make_room.ensures.same
      _ c.in_ok-kept.kept c.args.start.filter _ _ _ refl c.in_ok-make_room.ensures.room
      (rw (c.reserve.ensures.items) at c.push_reserved.ensures.items)
      (rw (c.reserve-2.ensures.items) at c.push_reserved-2.ensures.items) c.count_start.ensures;
}

pub returns-clause-made : goal.returns-clause-made
returns-clause-made c =
    seen _ c.args.self.now _ c.args.step c.args.decision.now c.self.view_is
    (starts _ c.args.step c.args.decision.now c.args.start c.in_ok-kept.kept _ _ _ _ c.requires.start
    (rw (c.reserve.ensures.items) at c.push_reserved.ensures.items) (rw (c.reserve-2.ensures.items) at c.push_reserved-2.ensures.items)
    c.in_ok-write.ensures.change c.in_ok-write.ensures.entry
    (λ p. subst (λ (s : Standing). Begins p (Some c.args.start) (Some s)) (sym c.in_ok-kept.ensures.kept) (c.standing_of.ensures p)))
