-- A call is the activation's own, and what is said of such a call is said of this one.
use Rattle.std.proofs.Common.{◌≡◌, ℕ, true, ap, subst, sym, ◌∙◌}
use Rattle.std.proofs.lemmas.Bool.{eqb-true}
use Rattle.std.specs.Prelude.{◌&&◌}
use Rattle.flt_model.specs.Violations.{is_low_enough, is_in_place}
use Rattle.flt_model.specs.declared.event.Event.{Event}
use Rattle.flt_model.specs.declared.event.Event.TheVariants.{Call}
use Rattle.flt_replay.specs.Judging.{is_by}
use Rattle.flt_replay.specs.Scenes.{before}
use Rattle.flt_replay.proofs.rules.Scene.also.Goals as goal

pub returns-in-Call-clause-levels : goal.returns-in-Call-clause-levels
returns-in-Call-clause-levels c = λ t by.
    let a = c.args.self.now.activation in
    let own : c.in-Call.field-0 ≡ a = eqb-true c.in-Call.field-0 a (subst (λ (e : Event). is_by a e ≡ true) c.in-Call.is by) in
    let called : c.args.event ≡ Call a c.in-Call.call = c.in-Call.is ∙ ap (λ (b : ℕ). Call b c.in-Call.call) own in
    c.also_call.ensures.levels t
    ∙ ap (λ (e : Event). c.args.kept.now.levels && is_low_enough c.args.self.now.stack.now (before c.args.self.now) t e) (sym called)

pub returns-in-Call-clause-places : goal.returns-in-Call-clause-places
returns-in-Call-clause-places c = λ t by.
    let a = c.args.self.now.activation in
    let own : c.in-Call.field-0 ≡ a = eqb-true c.in-Call.field-0 a (subst (λ (e : Event). is_by a e ≡ true) c.in-Call.is by) in
    let called : c.args.event ≡ Call a c.in-Call.call = c.in-Call.is ∙ ap (λ (b : ℕ). Call b c.in-Call.call) own in
    c.also_call.ensures.places t
    ∙ ap (λ (e : Event). c.args.kept.now.places && is_in_place c.args.self.now.stack.now (before c.args.self.now) t e) (sym called)
