use Rattle.std.proofs.Common.{refl}
use Rattle.flt_model.specs.Runs.{start}
use Rattle.flt_replay.proofs.Judging.Courses.{reached}
use Rattle.flt_replay.proofs.Judging.Lesser.{broken_off, one_more, stopped, stops_at}
use Rattle.flt_replay.proofs.monitor.Monitor.runs.Goals as goal

pub loop-entry-init : goal.loop-entry-init
loop-entry-init c = (start c.args.stack.now, c.requires, refl)

pub loop-entry-preserved : goal.loop-entry-preserved
loop-entry-preserved c =
    let at = c.loop-entry.invariant in
    let p = c.args.stack.now in
    let comes = rw c.in-Reaches.is at c.in_ok-entry.ensures at.0 at.1 in
    let to = reached c.entry.new.self _ comes in
    (to.0, to.1, one_more p (start p) at.0 to.0 c.args.entries.now c.loop-entry.entry-index _ c.loop-entry-test.true at.2 to.2)

pub returns-in-Stops-clause-stops : goal.returns-in-Stops-clause-stops
returns-in-Stops-clause-stops c =
    let at = c.loop-entry.invariant in
    let p = c.args.stack.now in
    let comes = rw c.in-Stops.is at c.in_ok-entry.ensures at.0 at.1 in
    λ _. stops_at p (start p) at.0 c.args.entries.now c.loop-entry.entry-index _ c.loop-entry-test.true at.2
    (stopped c.entry.new.self _ comes)

pub returns-in-Fails-clause-stops : goal.returns-in-Fails-clause-stops
returns-in-Fails-clause-stops c =
    let at = c.loop-entry.invariant in
    let p = c.args.stack.now in
    let comes = rw c.in-Fails.is at c.in_ok-entry.ensures at.0 at.1 in
    λ _. stops_at p (start p) at.0 c.args.entries.now c.loop-entry.entry-index _ c.loop-entry-test.true at.2
    (broken_off c.entry.new.self _ _ comes)
