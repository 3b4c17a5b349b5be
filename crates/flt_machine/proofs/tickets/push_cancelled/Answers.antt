-- The walk goes from the lowest filter to the highest.
use Rattle.std.proofs.Common.{true, false, sym, ◌∙◌, arith, append-nil}
use Rattle.flt_model.specs.Moves.{is_done}
use Rattle.flt_model.specs.World.{route_at}
use Rattle.flt_machine.proofs.Entered.{uncancelled_yet, walked}
use Rattle.flt_machine.proofs.tickets.push_cancelled.Goals as goal

pub loop-filter-preserved-in-Continue-1 : goal.loop-filter-preserved-in-Continue-1
loop-filter-preserved-in-Continue-1 c = (
  omega (arith, c.loop-filter.invariant.0),
  (rw (c.as_slice-altitudes.ensures) at c.in_ok-push.ensures.items) ∙
      walked c.args.store.now c.args.serial
      (uncancelled_yet (is_done c.args.store.now c.args.serial) (route_at c.args.store.now c.args.serial).cancelled c.requires.possible)
      c.args.loaded.now.altitudes c.args.next.now.items c.loop-filter.next.items c.loop-filter.filter true
      (omega (arith, c.loop-filter-test.true)) c.loop-filter.invariant.0
      (sym c.if-is_cancelled_at.true ∙ c.is_cancelled_at.ensures) c.loop-filter.invariant.1,
  c.in_ok-push.ensures.granted ∙ c.loop-filter.invariant.2,
)

pub loop-filter-preserved : goal.loop-filter-preserved
loop-filter-preserved c = (
  omega (arith, c.loop-filter.invariant.0),
  sym (append-nil c.loop-filter.next.items) ∙
      walked c.args.store.now c.args.serial
      (uncancelled_yet (is_done c.args.store.now c.args.serial) (route_at c.args.store.now c.args.serial).cancelled c.requires.possible)
      c.args.loaded.now.altitudes c.args.next.now.items c.loop-filter.next.items c.loop-filter.filter false
      (omega (arith, c.loop-filter-test.true)) c.loop-filter.invariant.0
      (sym c.if-is_cancelled_at.false ∙ c.is_cancelled_at.ensures) c.loop-filter.invariant.1,
  c.loop-filter.invariant.2,
)
