use Rattle.std.proofs.Common.{sym, ap, ◌∙◌}
use Rattle.std.specs.List.{list_all}
use Rattle.flt_replay.proofs.Counting.Concluding.{concluded, none_from, refuted}
use Rattle.flt_replay.proofs.Machine.Locals.{AreQuiet}
use Rattle.flt_replay.specs.Ledger.{owns_any}
use Rattle.flt_replay.proofs.ledger.Ledger.take.Goals as goal

pub returns-then-owns_each : goal.returns-then-owns_each
returns-then-owns_each c = λ p m x s agrees f.
    let quiet : AreQuiet = record {
      events = c.local_steps_are_quiet.ensures.events;
      alone = c.local_steps_are_quiet.ensures.alone;
      breaks = c.local_steps_are_quiet.ensures.breaks;
    } in
    let each = c.owns_each.ensures ∙ ap (list_all (owns_any c.follow_new.new.self c.args.world.now)) c.as_slice.ensures.value in
    concluded quiet p m x s c.args.world.now c.args.events.now c.args.self.now c.take_events.new.self
    c.follow_any_ends.new.self c.follow_new.new.self c.take_events.new.touched.items c.follow_any_ends.new.touched.items agrees f
    c.in_ok-first.first (sym c.is_some.ensures ∙ c.if-is_some.false) (c.in_ok-first.ensures.first m.trace agrees.tells agrees.counted)
    c.clear.new.self.items c.clear.ensures.items (λ e. c.in_ok-first.ensures.taken e m.trace agrees.tells agrees.counted)
    (c.in_ok-follow_any_ends.ensures
    (c.in_ok-first.ensures.ends (none_from c.in_ok-first.first (sym c.is_some.ensures ∙ c.if-is_some.false)))) c.in_ok-follow_new.ensures
    (sym each ∙ c.if-owns_each.true)

pub returns-else-owns_each : goal.returns-else-owns_each
returns-else-owns_each c = λ p m x s agrees f.
    let quiet : AreQuiet = record {
      events = c.local_steps_are_quiet.ensures.events;
      alone = c.local_steps_are_quiet.ensures.alone;
      breaks = c.local_steps_are_quiet.ensures.breaks;
    } in
    let each = c.owns_each.ensures ∙ ap (list_all (owns_any c.follow_new.new.self c.args.world.now)) c.as_slice.ensures.value in (
      refuted quiet p m x s c.args.world.now c.args.events.now c.args.self.now c.take_events.new.self
          c.follow_any_ends.new.self c.follow_new.new.self
          c.take_events.new.touched.items c.follow_any_ends.new.touched.items agrees f
          c.in_ok-first.first (sym c.is_some.ensures ∙ c.if-is_some.false) (c.in_ok-first.ensures.first m.trace agrees.tells agrees.counted)
          c.clear.new.self.items c.clear.ensures.items (λ e. c.in_ok-first.ensures.taken e m.trace agrees.tells agrees.counted)
          (c.in_ok-follow_any_ends.ensures
          (c.in_ok-first.ensures.ends (none_from c.in_ok-first.first (sym c.is_some.ensures ∙ c.if-is_some.false))))
          c.in_ok-follow_new.ensures (sym each ∙ c.if-owns_each.false),
      λ e. absurd (cc),
    )
