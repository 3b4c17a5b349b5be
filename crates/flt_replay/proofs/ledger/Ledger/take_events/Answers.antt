use Rattle.std.proofs.Common.{◌++◌, ap, sym, ◌∙◌, take}
use Rattle.std.proofs.lemmas.List.{take_all}
use Rattle.flt_rules.specs.declared.call.Call.TheVariants.{AllocateContext}
use Rattle.flt_model.specs.declared.event.Event.TheVariants.{Call}
use Rattle.flt_replay.specs.Apart.{ends_in}
use Rattle.flt_replay.proofs.Counting.Following.{none_more}
use Rattle.flt_replay.proofs.Counting.Taking.{judged_at, stale_at}
use Rattle.flt_replay.proofs.ledger.Ledger.take_events.Goals as goal

pub returns-then-not-fresh-clause-first : goal.returns-then-not-fresh-clause-first
returns-then-not-fresh-clause-first c = λ t k counted.
    let j = c.loop-event.invariant.judged t k counted in
    stale_at c.args.world.now t c.args.self.now c.args.touched.now.items c.args.events.now c.loop-event.event-index
    (Call 0 AllocateContext) c.loop-event-test.true
    (c.in_ok-fresh.ensures.stale c.if-not-fresh.true (t ++ take c.loop-event.event-index c.args.events.now) j.tells)

pub loop-event-preserved : goal.loop-event-preserved
loop-event-preserved c =
    let events = c.args.events.now in
    let i = c.loop-event.event-index in
    let d = Call 0 AllocateContext in
    record {
      judged = λ t k counted.
          let j = c.loop-event.invariant.judged t k counted in
          let so_far = t ++ take i events in
          let taken = c.in_ok-fresh.ensures.taken c.if-not-fresh.false so_far j.tells j.counted in
          judged_at c.args.world.now t c.args.self.now c.args.touched.now.items events i d c.loop-event-test.true
          c.loop-event.self c.take_event.new.self c.loop-event.touched.items c.take_event.new.touched.items c.loop-event.kept.tight
          c.loop-event.kept.once c.take_event.new.kept.tight c.take_event.new.kept.once
          j taken.fresh taken.noted taken.tight_is taken.once_is;
      ends = λ none.
          let none_here = c.in_ok-fresh.ensures.ends none in
          none_more events i d c.loop-event-test.true (c.loop-event.invariant.ends none_here.0) none_here.1;
    }

pub returns-clause-ends : goal.returns-clause-ends
returns-clause-ends c = λ none off a.
    ap (ends_in a) (sym (take_all c.loop-event.event-index c.args.events.now c.loop-event-test.false)) ∙ c.loop-event.invariant.ends off a
