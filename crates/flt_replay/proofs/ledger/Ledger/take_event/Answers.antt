-- Each kind of event is taken in.
use Rattle.std.proofs.Common.{◌≡◌, false, subst, refl, sym, ◌∙◌}
use Rattle.flt_model.specs.declared.event.Event.{Event}
use Rattle.flt_model.specs.declared.event.Event.TheVariants as event
use Rattle.flt_model.specs.Violations.{is_fresh}
use Rattle.flt_replay.proofs.Counting.Events.{taken_as, taken_used, taken_ended, taken_settled, taken_other}
use Rattle.flt_replay.proofs.Counting.Noting.{held_if_fresh}
use Rattle.flt_replay.specs.Ledger.{Taken}
use Rattle.flt_replay.proofs.ledger.Ledger.take_event.Goals as goal

pub returns-in-Use-clause-stale : goal.returns-in-Use-clause-stale
returns-in-Use-clause-stale c = λ none t k.
    subst (λ (e : Event). is_fresh c.args.world.now t e ≡ false) (sym c.in-Use.is) (sym (c.may_use.ensures.used t k) ∙ none)

pub returns-in-Use-clause-taken : goal.returns-in-Use-clause-taken
returns-in-Use-clause-taken c = λ fresh t k counted.
    let w = c.args.world.now in
    let before = c.args.kept.now in
    let old = c.args.self.now in
    let listed = c.args.touched.now.items in
    let of : Event → Type 0 = λ e. Taken w t e old old listed listed before.tight before.once before.tight before.once in
    subst of (sym c.in-Use.is)
    (taken_used w t before.tight before.once old listed k counted c.in-Use.a c.in-Use.object
    (sym (c.may_use.ensures.used t k) ∙ fresh))

pub returns-then-not-may_use-clause-stale : goal.returns-then-not-may_use-clause-stale
returns-then-not-may_use-clause-stale c = λ none t k.
    subst (λ (e : Event). is_fresh c.args.world.now t e ≡ false) (sym c.in-Lose.is)
    (sym (c.may_use-in-Lose.ensures.lost t k) ∙ c.if-not-may_use.true)

pub returns-in_ok-lose-in-Lose-clause-taken : goal.returns-in_ok-lose-in-Lose-clause-taken
returns-in_ok-lose-in-Lose-clause-taken c = λ fresh t k counted.
    let w = c.args.world.now in
    let before = c.args.kept.now in
    let old = c.args.self.now in
    let new = c.lose.new.self in
    let was = c.args.touched.now.items in
    let now = c.lose.new.touched.items in
    let of : Event → Type 0 = λ e. Taken w t e old new was now before.tight before.once before.tight before.once in
    let is = sym (c.may_use-in-Lose.ensures.lost t k) ∙ c.if-not-may_use.false in
    subst of (sym c.in-Lose.is)
    (taken_as w t before.tight before.once (event.Lose c.in-Lose.a c.in-Lose.object) old new was now is
    (c.in_ok-lose-in-Lose.ensures t k counted (held_if_fresh old c.in-Lose.a t w c.in-Lose.object k is)) refl refl)

pub returns-then-not-may_gain-clause-stale : goal.returns-then-not-may_gain-clause-stale
returns-then-not-may_gain-clause-stale c = λ none t k.
    subst (λ (e : Event). is_fresh c.args.world.now t e ≡ false) (sym c.in-Gain.is)
    (sym (c.may_gain.ensures t k) ∙ c.if-not-may_gain.true)

pub returns-in_ok-gain-in-Gain-clause-taken : goal.returns-in_ok-gain-in-Gain-clause-taken
returns-in_ok-gain-in-Gain-clause-taken c = λ fresh t k counted.
    let w = c.args.world.now in
    let before = c.args.kept.now in
    let old = c.args.self.now in
    let new = c.gain.new.self in
    let was = c.args.touched.now.items in
    let now = c.gain.new.touched.items in
    let of : Event → Type 0 = λ e. Taken w t e old new was now before.tight before.once before.tight before.once in
    subst of (sym c.in-Gain.is)
    (taken_as w t before.tight before.once (event.Gain c.in-Gain.a c.in-Gain.object) old new was now
    (sym (c.may_gain.ensures t k) ∙ c.if-not-may_gain.false) (c.in_ok-gain-in-Gain.ensures t k counted) refl refl)

pub returns-in-Empty-clause-stale : goal.returns-in-Empty-clause-stale
returns-in-Empty-clause-stale c = λ none t k.
    subst (λ (e : Event). is_fresh c.args.world.now t e ≡ false) (sym c.in-Empty.is) refl

pub returns-in_ok-free-in-Free-clause-taken : goal.returns-in_ok-free-in-Free-clause-taken
returns-in_ok-free-in-Free-clause-taken c = λ fresh t k counted.
    let w = c.args.world.now in
    let before = c.args.kept.now in
    let old = c.args.self.now in
    let listed = c.args.touched.now.items in
    let of : Event → Type 0 = λ e. Taken w t e old c.free.new.self listed listed before.tight before.once before.tight before.once in
    subst of (sym c.in-Free.is)
    (taken_as w t before.tight before.once (event.Free c.in-Free.context) old c.free.new.self listed listed refl
    (c.in_ok-free-in-Free.ensures t listed k counted) refl refl)

pub returns-in_ok-settle-in-Settle-clause-taken : goal.returns-in_ok-settle-in-Settle-clause-taken
returns-in_ok-settle-in-Settle-clause-taken c = λ fresh t k counted.
    let w = c.args.world.now in
    let before = c.args.kept.now in
    let old = c.args.self.now in
    let new = c.settle.new.self in
    let was = c.args.touched.now.items in
    let now = c.settle.new.touched.items in
    let kept = c.keep_at_settling.new.kept in
    let of : Event → Type 0 = λ e. Taken w t e old new was now before.tight before.once kept.tight kept.once in
    subst of (sym c.in-Settle.is)
    (taken_settled w t before.tight before.once c.in-Settle.visit old new was now kept.tight kept.once
    (c.in_ok-settle-in-Settle.ensures t k counted) c.keep_at_settling.ensures.others.0 (c.keep_at_settling.ensures.once t k))

pub returns-in-End-clause-taken : goal.returns-in-End-clause-taken
returns-in-End-clause-taken c = λ fresh t k counted.
    let w = c.args.world.now in
    let before = c.args.kept.now in
    let old = c.args.self.now in
    let listed = c.args.touched.now.items in
    let kept = c.keep_at_end.new.kept in
    let of : Event → Type 0 = λ e. Taken w t e old old listed listed before.tight before.once kept.tight kept.once in
    subst of (sym c.in-End.is)
    (taken_ended w t before.tight before.once old listed k counted c.in-End.a kept.tight kept.once
    (c.keep_at_end.ensures.tight t k) c.keep_at_end.ensures.others.0)

pub returns-in_default-clause-taken : goal.returns-in_default-clause-taken
returns-in_default-clause-taken c = λ fresh t k counted.
    taken_other c.args.world.now t c.args.kept.now.tight c.args.kept.now.once c.args.self.now
    c.args.touched.now.items k counted c.args.event
    c.in_default.not-Use c.in_default.not-Lose c.in_default.not-Gain c.in_default.not-Empty c.in_default.not-Free c.in_default.not-Settle
    c.in_default.not-End
