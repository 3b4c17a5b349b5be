use Rattle.std.proofs.Common.{◌≡◌, List, true, false, ap, subst, sym, ◌∙◌}
use Rattle.flt_graph.specs.declared.instruction.Instruction.{Instruction}
use Rattle.flt_graph.specs.declared.instruction.Instruction.TheVariants as instruction
use Rattle.flt_model.specs.Program.{callbacks_at}
use Rattle.flt_machine_frames.specs.Firsts.{Remains}
use Rattle.std.proofs.lemmas.Result.{IfOk-weaker}
use Rattle.flt_tree.specs.declared.filter.Filter.{Filter}
use Rattle.flt_machine_frames.specs.Loading.{AreLoaded, instruction_in}
use Rattle.flt_machine_calls.specs.Plans.{TakesNone, is_end, is_ending}
use Rattle.flt_machine_calls.specs.declared.plans.Plan.{Plan}
use Rattle.flt_machine_calls.proofs.Lasting.{end_takes}
use Rattle.flt_machine_calls.proofs.Planned.{Told, act_ends, test_ends, call_ends, return_ends, end_ends, repeat_ends}
use Rattle.flt_machine_calls.proofs.planning.plan_step.Goals as goal

pub returns-in-Act-clause-planned : goal.returns-in-Act-clause-planned
returns-in-Act-clause-planned c =
    let told : Told c.args.loaded.now c.args.caller.now (instruction.Act c.in-Act.action c.in-Act.field-1) = λ p act loaded stands.
    subst (Remains (callbacks_at p c.args.caller.now.filter) c.args.caller.now.standing act.rest) (sym c.instruction.ensures ∙ c.in-Act.is)
    (c.standings_have_points.ensures.told p c.args.loaded.now c.args.caller.now.filter c.args.caller.now.standing act loaded stands) in
    act_ends c.args.loaded.now c.args.store.now c.args.caller.now c.args.grant c.plan_action.result c.in-Act.action c.in-Act.field-1 told
    c.plan_action.ensures.planned

pub returns-in-Call-clause-planned : goal.returns-in-Call-clause-planned
returns-in-Call-clause-planned c =
    let told : Told c.args.loaded.now c.args.caller.now (instruction.Call c.in-Call.made c.in-Call.field-1 c.in-Call.field-2) =
    λ p act loaded stands.
    subst (Remains (callbacks_at p c.args.caller.now.filter) c.args.caller.now.standing act.rest) (sym c.instruction.ensures ∙ c.in-Call.is)
    (c.standings_have_points.ensures.told p c.args.loaded.now c.args.caller.now.filter c.args.caller.now.standing act loaded stands) in
    call_ends c.args.loaded.now c.args.store.now c.args.caller.now c.args.grant c.plan_call.result c.in-Call.made c.in-Call.field-1
    c.in-Call.field-2 told c.plan_call.ensures.plain c.plan_call.ensures.fallible

pub returns-in-Test-clause-planned : goal.returns-in-Test-clause-planned
returns-in-Test-clause-planned c =
    let told : Told c.args.loaded.now c.args.caller.now (instruction.Test c.in-Test.test c.in-Test.field-1 c.in-Test.field-2) =
    λ p act loaded stands.
    subst (Remains (callbacks_at p c.args.caller.now.filter) c.args.caller.now.standing act.rest) (sym c.instruction.ensures ∙ c.in-Test.is)
    (c.standings_have_points.ensures.told p c.args.loaded.now c.args.caller.now.filter c.args.caller.now.standing act loaded stands) in
    test_ends c.args.loaded.now c.args.store.now c.args.caller.now c.args.grant c.plan_test.result c.in-Test.test c.in-Test.field-1
    c.in-Test.field-2 told c.plan_test.ensures.planned

pub returns-in-Repeat-clause-planned : goal.returns-in-Repeat-clause-planned
returns-in-Repeat-clause-planned c =
    let told : Told c.args.loaded.now c.args.caller.now (instruction.Repeat c.in-Repeat.field-0 c.in-Repeat.field-1 c.in-Repeat.field-2) =
    λ p act loaded stands.
    subst (Remains (callbacks_at p c.args.caller.now.filter) c.args.caller.now.standing act.rest)
    (sym c.instruction.ensures ∙ c.in-Repeat.is)
    (c.standings_have_points.ensures.told p c.args.loaded.now c.args.caller.now.filter c.args.caller.now.standing act loaded stands) in
    repeat_ends c.args.loaded.now c.args.store.now c.args.caller.now c.args.grant c.nothing.result c.in-Repeat.field-0 c.in-Repeat.field-1
    c.in-Repeat.field-2 told

pub returns-in-Return-clause-planned : goal.returns-in-Return-clause-planned
returns-in-Return-clause-planned c =
    let told : Told c.args.loaded.now c.args.caller.now (instruction.Return c.in-Return.status) = λ p act loaded stands.
    subst (Remains (callbacks_at p c.args.caller.now.filter) c.args.caller.now.standing act.rest)
    (sym c.instruction.ensures ∙ c.in-Return.is)
    (c.standings_have_points.ensures.told p c.args.loaded.now c.args.caller.now.filter c.args.caller.now.standing act loaded stands) in
    return_ends c.args.loaded.now c.args.store.now c.args.caller.now c.args.grant c.returns.result c.in-Return.status told
    c.returns.ensures.planned

pub returns-in-End-clause-planned : goal.returns-in-End-clause-planned
returns-in-End-clause-planned c =
    let told : Told c.args.loaded.now c.args.caller.now (instruction.End) = λ p act loaded stands.
    subst (Remains (callbacks_at p c.args.caller.now.filter) c.args.caller.now.standing act.rest) (sym c.instruction.ensures ∙ c.in-End.is)
    (c.standings_have_points.ensures.told p c.args.loaded.now c.args.caller.now.filter c.args.caller.now.standing act loaded stands) in
    end_ends c.args.loaded.now c.args.store.now c.args.caller.now c.args.grant c.returns-in-End.result told c.returns-in-End.ensures.planned

pub returns-in-Act-clause-ends : goal.returns-in-Act-clause-ends
returns-in-Act-clause-ends c =
    IfOk-weaker c.plan_action.result
    (λ (plan : Plan). is_end plan.write ≡ false)
    (λ (plan : Plan). (p : List Filter) → AreLoaded p c.args.loaded.now →
    is_end plan.write ≡ is_ending
    (instruction_in c.args.loaded.now c.args.caller.now.filter c.args.caller.now.standing.callback c.args.caller.now.standing.point))
    (λ plan held p loaded. held ∙ sym (ap (λ (i : Instruction). is_ending i) (sym c.instruction.ensures ∙ c.in-Act.is)))
    c.plan_action.ensures.lasts

pub returns-in-Test-clause-ends : goal.returns-in-Test-clause-ends
returns-in-Test-clause-ends c =
    IfOk-weaker c.plan_test.result
    (λ (plan : Plan). is_end plan.write ≡ false)
    (λ (plan : Plan). (p : List Filter) → AreLoaded p c.args.loaded.now →
    is_end plan.write ≡ is_ending
    (instruction_in c.args.loaded.now c.args.caller.now.filter c.args.caller.now.standing.callback c.args.caller.now.standing.point))
    (λ plan held p loaded. held ∙ sym (ap (λ (i : Instruction). is_ending i) (sym c.instruction.ensures ∙ c.in-Test.is)))
    c.plan_test.ensures.lasts

pub returns-in-Return-clause-ends : goal.returns-in-Return-clause-ends
returns-in-Return-clause-ends c =
    IfOk-weaker c.returns.result
    (λ (plan : Plan). is_end plan.write ≡ true)
    (λ (plan : Plan). (p : List Filter) → AreLoaded p c.args.loaded.now →
    is_end plan.write ≡ is_ending
    (instruction_in c.args.loaded.now c.args.caller.now.filter c.args.caller.now.standing.callback c.args.caller.now.standing.point))
    (λ plan held p loaded. held ∙ sym (ap (λ (i : Instruction). is_ending i) (sym c.instruction.ensures ∙ c.in-Return.is)))
    c.returns.ensures.ends

pub returns-in-End-clause-ends : goal.returns-in-End-clause-ends
returns-in-End-clause-ends c =
    IfOk-weaker c.returns-in-End.result
    (λ (plan : Plan). is_end plan.write ≡ true)
    (λ (plan : Plan). (p : List Filter) → AreLoaded p c.args.loaded.now →
    is_end plan.write ≡ is_ending
    (instruction_in c.args.loaded.now c.args.caller.now.filter c.args.caller.now.standing.callback c.args.caller.now.standing.point))
    (λ plan held p loaded. held ∙ sym (ap (λ (i : Instruction). is_ending i) (sym c.instruction.ensures ∙ c.in-End.is)))
    c.returns-in-End.ensures.ends

pub returns-in-Call-clause-ends : goal.returns-in-Call-clause-ends
returns-in-Call-clause-ends c =
    IfOk-weaker c.plan_call.result
    (λ (plan : Plan). (p : List Filter) → AreLoaded p c.args.loaded.now → is_end plan.write ≡ false)
    (λ (plan : Plan). (p : List Filter) → AreLoaded p c.args.loaded.now →
    is_end plan.write ≡ is_ending
    (instruction_in c.args.loaded.now c.args.caller.now.filter c.args.caller.now.standing.callback c.args.caller.now.standing.point))
    (λ plan held p loaded. held p loaded ∙ sym (ap (λ (i : Instruction). is_ending i) (sym c.instruction.ensures ∙ c.in-Call.is)))
    c.plan_call.ensures.lasts

pub returns-in-Return-clause-takes : goal.returns-in-Return-clause-takes
returns-in-Return-clause-takes c =
    IfOk-weaker c.returns.result
    (λ (plan : Plan). is_end plan.write ≡ true)
    (λ (plan : Plan). TakesNone c.args.caller.now.standing.locks plan.write)
    (λ plan held. end_takes c.args.caller.now.standing.locks plan.write held)
    c.returns.ensures.ends

pub returns-in-End-clause-takes : goal.returns-in-End-clause-takes
returns-in-End-clause-takes c =
    IfOk-weaker c.returns-in-End.result
    (λ (plan : Plan). is_end plan.write ≡ true)
    (λ (plan : Plan). TakesNone c.args.caller.now.standing.locks plan.write)
    (λ plan held. end_takes c.args.caller.now.standing.locks plan.write held)
    c.returns-in-End.ensures.ends
