use Rattle.std.proofs.Common.{refl}
use Rattle.flt_model.specs.Expansion.{verdict_from}
use Rattle.flt_model.specs.Runs.{start}
use Rattle.flt_replay.proofs.Judging.Courses.{stopped, failed, reached, judged_at}
use Rattle.flt_replay.proofs.monitor.Monitor.verdict.Goals as goal

pub loop-number-init : goal.loop-number-init
loop-number-init c = (start c.args.stack.now, c.requires, refl)

pub returns-in-Stops : goal.returns-in-Stops
returns-in-Stops c =
    let at = c.loop-number.invariant in
    let p = c.args.stack.now in
    let comes = rw (c.entries-entry-items.ensures, c.in-Stops.is) at c.in_ok-entry.ensures at.0 at.1 in
    judged_at p at.0 c.loop-number.number c.args.journal.now _ (verdict_from p (start p) 0 c.args.journal.now) _
    (rw c.entries-entry-items.ensures at c.loop-number-test.true) at.2 (stopped c.entry.new.self _ comes)

pub returns-in-Fails : goal.returns-in-Fails
returns-in-Fails c =
    let at = c.loop-number.invariant in
    let p = c.args.stack.now in
    let comes = rw (c.entries-entry-items.ensures, c.in-Fails.is) at c.in_ok-entry.ensures at.0 at.1 in
    judged_at p at.0 c.loop-number.number c.args.journal.now _ (verdict_from p (start p) 0 c.args.journal.now) _
    (rw c.entries-entry-items.ensures at c.loop-number-test.true) at.2 (failed c.entry.new.self c.in-Fails.violation _ comes)

pub loop-number-preserved : goal.loop-number-preserved
loop-number-preserved c =
    let at = c.loop-number.invariant in
    let p = c.args.stack.now in
    let comes = rw (c.entries-entry-items.ensures, c.in-Reaches.is) at c.in_ok-entry.ensures at.0 at.1 in
    let to = reached c.entry.new.self _ comes in (
      to.0,
      to.1,
      judged_at p at.0 c.loop-number.number c.args.journal.now _ (verdict_from p (start p) 0 c.args.journal.now) _
          (rw c.entries-entry-items.ensures at c.loop-number-test.true) at.2 to.2,
    )
