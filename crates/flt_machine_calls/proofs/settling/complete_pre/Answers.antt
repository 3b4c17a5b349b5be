use Rattle.std.proofs.Common.{List, [], ap, subst, sym, ◌∙◌}
use Rattle.std.proofs.lemmas.Result.{IfOk-weaker}
use Rattle.flt_rules.specs.declared.call.Call.TheVariants as call
use Rattle.flt_tree.specs.Filter.{context_of}
use Rattle.flt_rules.specs.declared.held.HeldLock.{HeldLock}
use Rattle.flt_tree.specs.declared.filter.Filter.{Filter}
use Rattle.flt_tree.specs.declared.filter.Statement.{Statement}
use Rattle.flt_machine_frames.specs.Loading.{AreLoaded}
use Rattle.flt_machine_frames.specs.Standings.{activation_with}
use Rattle.flt_model.specs.Calls as calls
use Rattle.flt_model.specs.Variables.{named_in, operation_in}
use Rattle.flt_model.specs.World as machine
use Rattle.flt_machine_calls.specs.Completing.{completes}
use Rattle.flt_machine_calls.specs.Own.{AreOwn}
use Rattle.flt_machine_calls.specs.Plans.{IsPlanned, Plans, TakesNone, world_of}
use Rattle.flt_model.specs.declared.effects.CallOperands.{CallOperands}
use Rattle.flt_machine_calls.specs.declared.plans.Plan.{Plan}
use Rattle.flt_machine_calls.specs.declared.settling.Completion.{Completion}
use Rattle.flt_machine_calls.proofs.Called.{read_is}
use Rattle.flt_machine_calls.proofs.Completed.{completion_own, pre_is}
use Rattle.flt_machine_calls.proofs.settling.complete_pre.Goals as goal

pub returns-clause-planned : goal.returns-clause-planned
returns-clause-planned c =
    let s = c.args.store.now in
    let a = c.args.caller.now.activation in
    let named : CallOperands = record { visit = c.operation.result; context = c.named_in.result } in
    let completion : Completion = record {
      call = call.CompletePendedPreOperation c.whose.result;
      answer = c.pre_answer-answer.result;
      named = named;
      settled = c.settled_by.result;
    } in
    IfOk-weaker c.plan_completion.result
    (λ (plan : Plan). (actors : List machine.Actor) (acts : List machine.Activation) (granted refused : List Statement) →
    IsPlanned (world_of s actors acts) a plan [] granted refused (completes (world_of s actors acts) a completion granted))
    (λ (plan : Plan). (p : List Filter) → AreLoaded p c.args.loaded.now →
    Plans s c.args.caller.now plan (λ w granted refused. calls.complete_pre w a p c.args.operation c.args.status granted))
    (λ plan held p loaded actors acts granted refused h.
    let w = world_of s actors acts in
    subst (IsPlanned w a plan [] granted refused)
    (pre_is p w a granted c.args.operation c.args.status c.whose.result c.operation.result c.named_in.result
    c.pre_answer-answer.result c.settled_by.result
    c.whose.ensures (read_is (λ act. operation_in act c.args.operation) c.args.caller.now actors acts c.operation.result h
    (λ rest. sym c.operation.ensures))
    (read_is (λ act. named_in act (context_of c.args.status)) c.args.caller.now actors acts c.named_in.result h
    (λ rest. sym (c.named_in.ensures ∙ ap (λ v. named_in (activation_with c.args.caller.now.standing []) v) c.context.ensures)))
    c.pre_answer-answer.ensures (c.settled_by.ensures p loaded))
    (held actors acts granted refused))
    c.plan_completion.ensures.planned

pub returns-clause-own : goal.returns-clause-own
returns-clause-own c =
    let s = c.args.store.now in
    let a = c.args.caller.now.activation in
    let named : CallOperands = record { visit = c.operation.result; context = c.named_in.result } in
    let completion : Completion = record {
      call = call.CompletePendedPreOperation c.whose.result;
      answer = c.pre_answer-answer.result;
      named = named;
      settled = c.settled_by.result;
    } in
    IfOk-weaker c.plan_completion.result
    (λ (plan : Plan). (actors : List machine.Actor) (acts : List machine.Activation) (granted refused : List Statement) →
    IsPlanned (world_of s actors acts) a plan [] granted refused (completes (world_of s actors acts) a completion granted))
    (λ (plan : Plan). AreOwn a plan.events)
    (λ plan held. completion_own s a completion plan held)
    c.plan_completion.ensures.planned

pub returns-clause-takes : goal.returns-clause-takes
returns-clause-takes c =
    IfOk-weaker c.plan_completion.result
    (λ (plan : Plan). (locks : List HeldLock) → TakesNone locks plan.write)
    (λ (plan : Plan). TakesNone c.args.caller.now.standing.locks plan.write)
    (λ plan held. held c.args.caller.now.standing.locks)
    c.plan_completion.ensures.takes
