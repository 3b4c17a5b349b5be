use Rattle.std.proofs.Common.{List, [], ◌∷◌, take, get_or, subst, sym}
use Rattle.std.proofs.lemmas.Grind.{take_at_read}
use Rattle.flt_rules.specs.declared.call.Call.TheVariants.{AllocateContext}
use Rattle.flt_model.specs.declared.event.Event.{Event}
use Rattle.flt_model.specs.declared.event.Event.TheVariants.{Call}
use Rattle.flt_replay.proofs.Counting.Following.{halted_both}
use Rattle.flt_replay.specs.Ledger.{Halted}
use Rattle.flt_replay.proofs.ledger.Ledger.follow_ends.Goals as goal

pub loop-event-preserved : goal.loop-event-preserved
loop-event-preserved c =
    let events = c.args.events.now in
    let i = c.loop-event.event-index in
    let d = Call 0 AllocateContext in
    let both = halted_both (take i events)
    (get_or events i d ∷ []) c.args.self.now c.loop-event.self c.follow_end.new.self c.args.touched.now.items
    c.loop-event.touched.items c.follow_end.new.touched.items
    c.loop-event.invariant c.in_ok-follow_end.ensures in
    subst (λ (es : List Event). Halted es c.args.self.now c.follow_end.new.self c.args.touched.now.items
    c.follow_end.new.touched.items) (sym (take_at_read events i d c.loop-event-test.true).1) both
