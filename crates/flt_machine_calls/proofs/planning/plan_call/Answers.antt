use Rattle.std.proofs.Common.{◌≡◌, false, [], List, subst, sym, ◌∙◌}
use Rattle.std.specs.Prelude.{IfOk}
use Rattle.std.proofs.lemmas.Result.{IfOk-at_ok, IfOk-weaker}
use Rattle.flt_tree.specs.Registered.{numbered}
use Rattle.flt_tree.specs.declared.filter.Filter.{Filter}
use Rattle.flt_tree.specs.declared.filter.PlainCall.{PlainCall}
use Rattle.flt_model.specs.Program.{callbacks_at}
use Rattle.flt_model.specs.Steps as steps
use Rattle.flt_machine_frames.specs.Loading.{AreLoaded}
use Rattle.flt_machine_calls.specs.Plans.{Plans, TakesNone, choice_of, is_end}
use Rattle.flt_machine_calls.specs.declared.plans.Plan.{Plan}
use Rattle.flt_machine_calls.proofs.Lasting.{fallible_lasts, fallible_takes, not_ended, plain_lasts}
use Rattle.flt_machine_calls.proofs.Numbered.{apart, numbered_planned, same_fallible, same_plain}
use Rattle.flt_machine_calls.proofs.Planned.{if_ok}
use Rattle.flt_machine_calls.proofs.planning.plan_call.Goals as goal

pub returns-in-Plain-clause-plain : goal.returns-in-Plain-clause-plain
returns-in-Plain-clause-plain c = λ p t call loaded is.
    subst (λ (x : PlainCall). IfOk c.plan_plain.result (λ (plan : Plan). Plans c.args.store.now c.args.caller.now plan
    (λ w granted refused. steps.plain_step p t w c.args.caller.now.activation granted x)))
    (same_plain c.in-Plain.call call (sym c.in-Plain.is ∙ is))
    (c.plan_plain.ensures.planned p t loaded)

pub returns-in-Plain-clause-fallible : goal.returns-in-Plain-clause-fallible
returns-in-Plain-clause-fallible c = λ p t call loaded is.
    absurd (apart c.in-Plain.call (numbered (callbacks_at p c.args.caller.now.filter) call) (sym c.in-Plain.is ∙ is))

pub returns-in-Plain-clause-lasts : goal.returns-in-Plain-clause-lasts
returns-in-Plain-clause-lasts c =
    let s = c.args.store.now in
    let caller = c.args.caller.now in
    if_ok c.plan_plain.result (λ (plan : Plan). (p : List Filter) → AreLoaded p c.args.loaded.now → is_end plan.write ≡ false)
    (λ plan is p loaded. not_ended s caller plan (λ w granted refused. steps.plain_step p [] w caller.activation granted c.in-Plain.call)
    (IfOk-at_ok (λ (x : Plan). Plans s caller x (λ w granted refused. steps.plain_step p [] w caller.activation granted c.in-Plain.call)) is
    (c.plan_plain.ensures.planned p [] loaded)) (λ w lives. plain_lasts w caller.activation lives p [] [] c.in-Plain.call))

pub returns-in-Fallible-clause-plain : goal.returns-in-Fallible-clause-plain
returns-in-Fallible-clause-plain c = λ p t call loaded is. absurd (apart call c.in-Fallible.call (sym is ∙ c.in-Fallible.is))

pub returns-in-Fallible-clause-fallible : goal.returns-in-Fallible-clause-fallible
returns-in-Fallible-clause-fallible c = λ p t call loaded is.
    let s = c.args.store.now in
    let caller = c.args.caller.now in
    let same = same_fallible c.in-Fallible.call (numbered (callbacks_at p caller.filter) call) (sym c.in-Fallible.is ∙ is) in
    IfOk-weaker c.plan_fallible.result
    (λ (plan : Plan). Plans s caller plan
    (λ w granted refused. steps.numbered_step w caller.activation c.args.grant granted refused c.in-Fallible.call))
    (λ (plan : Plan). Plans s caller plan
    (λ w granted refused. steps.fallible_step p t w caller.activation (choice_of call c.args.grant) granted refused call))
    (λ plan held. numbered_planned p t s caller plan c.in-Fallible.call call c.args.grant same held)
    c.plan_fallible.ensures.planned

pub returns-in-Fallible-clause-lasts : goal.returns-in-Fallible-clause-lasts
returns-in-Fallible-clause-lasts c =
    let s = c.args.store.now in
    let caller = c.args.caller.now in
    IfOk-weaker c.plan_fallible.result
    (λ (plan : Plan). Plans s caller plan
    (λ w granted refused. steps.numbered_step w caller.activation c.args.grant granted refused c.in-Fallible.call))
    (λ (plan : Plan). (p : List Filter) → AreLoaded p c.args.loaded.now → is_end plan.write ≡ false)
    (λ plan held p loaded. not_ended s caller plan
    (λ w granted refused. steps.numbered_step w caller.activation c.args.grant granted refused c.in-Fallible.call) held
    (λ w lives. fallible_lasts w caller.activation lives c.args.grant [] [] c.in-Fallible.call))
    c.plan_fallible.ensures.planned

pub returns-in-Fallible-clause-takes : goal.returns-in-Fallible-clause-takes
returns-in-Fallible-clause-takes c =
    let s = c.args.store.now in
    let caller = c.args.caller.now in
    IfOk-weaker c.plan_fallible.result
    (λ (plan : Plan). Plans s caller plan
    (λ w granted refused. steps.numbered_step w caller.activation c.args.grant granted refused c.in-Fallible.call))
    (λ (plan : Plan). TakesNone caller.standing.locks plan.write)
    (λ plan held. fallible_takes s caller plan c.args.grant c.in-Fallible.call held)
    c.plan_fallible.ensures.planned
