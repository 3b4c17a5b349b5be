use Rattle.std.proofs.Common.{◌+◌, ◌<◌, Bool, true≢false, sym, subst, if◌then◌else◌}
use Rattle.flt_kinds.specs.Cells.{count_empty}
use Rattle.flt_kinds.proofs.Closing.{sized_first, just_first, sized_next, just_next, closed_next, falls_next, complete}
use Rattle.flt_kinds.proofs.rounds.settled.Goals as goal

pub loop-open-init : goal.loop-open-init
loop-open-init c = record {
  sized = sized_first _ _ _ c.callbacks.ensures c.in_ok-cells.ensures;
  just = just_first _ _ _ _ c.in_ok-cells.ensures;
  closed = λ e. absurd (true≢false e);
}

pub loop-open-smaller : goal.loop-open-smaller
loop-open-smaller c =
    subst (λ (b : Bool). count_empty c.round_on.new.cells.items + (if c.in_ok-open.open then 1 else 0)
    < count_empty c.loop-open.cells.items + (if b then 1 else 0)) (sym c.loop-open-test.true)
    (falls_next c.args.graph.now c.args.anchor c.loop-open.cells.items c.round_on.new.cells.items c.in_ok-open.open c.requires
    c.loop-open.invariant.sized c.in_ok-open.ensures.visited c.in_ok-open.ensures.value)

pub loop-open-preserved : goal.loop-open-preserved
loop-open-preserved c =
    let sized = c.loop-open.invariant.sized in
    let visited = c.in_ok-open.ensures.visited in
    let value = c.in_ok-open.ensures.value in
    record {
      sized = sized_next c.args.graph.now c.args.anchor c.loop-open.cells.items c.round_on.new.cells.items
          c.in_ok-open.open c.requires sized visited value;
      just = just_next c.args.graph.now c.args.anchor c.loop-open.cells.items c.round_on.new.cells.items c.in_ok-open.open c.requires sized
          visited value c.loop-open.invariant.just;
      closed = closed_next c.args.graph.now c.args.anchor c.loop-open.cells.items c.round_on.new.cells.items
          c.in_ok-open.open c.requires sized visited value;
    }

pub returns : goal.returns
returns c = record {
  sized = c.loop-open.invariant.sized;
  just = c.loop-open.invariant.just;
  complete = complete c.args.graph.now c.args.anchor c.loop-open.cells.items c.requires c.loop-open.invariant.sized
      (c.loop-open.invariant.closed c.loop-open-test.false);
}
