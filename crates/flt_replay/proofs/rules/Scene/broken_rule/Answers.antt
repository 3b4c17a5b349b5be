-- One event more, and then what all of them keep decides the search for the least violation.
use Rattle.flt_rules.specs.declared.call.Call.TheVariants.{AllocateContext}
use Rattle.flt_model.specs.declared.event.Event.TheVariants.{Call}
use Rattle.flt_model.specs.Violations.{is_legal, is_low_enough, is_disciplined, is_in_place}
use Rattle.flt_replay.proofs.Judging.Rules.{all_more, holds_at}
use Rattle.flt_replay.specs.Judging.{is_by}
use Rattle.flt_replay.specs.Scenes.{before}
use Rattle.flt_replay.proofs.rules.Scene.broken_rule.Goals as goal

pub loop-event-preserved : goal.loop-event-preserved
loop-event-preserved c = λ t held own.
    let p = c.args.self.now.stack.now in
    let w = before c.args.self.now in
    let es = c.args.events.now in
    let i = c.loop-event.event-index in
    let d = Call 0 AllocateContext in
    let within = c.loop-event-test.true in
    let so_far = c.loop-event.invariant t held own in
    let by = holds_at (is_by c.args.self.now.activation) es i d within own in (
      all_more (is_legal p w t) es i d within _ _ so_far.0 (c.also.ensures.statuses t held by),
      all_more (is_low_enough p w t) es i d within _ _ so_far.1 (c.also.ensures.levels t by),
      all_more (is_disciplined p w t) es i d within _ _ so_far.2 (c.also.ensures.locks t by),
      all_more (is_in_place p w t) es i d within _ _ so_far.3 (c.also.ensures.places t by),
    )
