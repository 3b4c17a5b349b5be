use Rattle.std.proofs.Common.{List, [], None, subst, sym}
use Rattle.std.proofs.lemmas.Result.{IfOk-weaker}
use Rattle.flt_rules.specs.declared.call.Call.TheVariants as call
use Rattle.flt_tree.specs.declared.variable.OperationVariable.TheVariants.{Data}
use Rattle.flt_rules.specs.declared.held.HeldLock.{HeldLock}
use Rattle.flt_tree.specs.declared.filter.Filter.{Filter}
use Rattle.flt_tree.specs.declared.filter.Statement.{Statement}
use Rattle.flt_machine_frames.specs.Loading.{AreLoaded}
use Rattle.flt_model.specs.Calls as calls
use Rattle.flt_model.specs.Variables.{operation_in}
use Rattle.flt_model.specs.World as machine
use Rattle.flt_machine_calls.specs.Completing.{completes}
use Rattle.flt_machine_calls.specs.Own.{AreOwn}
use Rattle.flt_machine_calls.specs.Plans.{IsPlanned, Plans, TakesNone, world_of}
use Rattle.flt_model.specs.declared.effects.CallOperands.{CallOperands}
use Rattle.flt_machine_calls.specs.declared.plans.Plan.{Plan}
use Rattle.flt_machine_calls.specs.declared.settling.Completion.{Completion}
use Rattle.flt_machine_calls.proofs.Called.{read_is}
use Rattle.flt_machine_calls.proofs.Completed.{completion_own, post_is}
use Rattle.flt_machine_calls.proofs.settling.complete_post.Goals as goal

pub returns-clause-planned : goal.returns-clause-planned
returns-clause-planned c =
    let s = c.args.store.now in
    let a = c.args.caller.now.activation in
    let named : CallOperands = record { visit = c.operation.result; context = None } in
    let completion : Completion = record
    { call = call.CompletePendedPostOperation; answer = c.post_answer-answer.result; named = named; settled = c.settled_by.result } in
    IfOk-weaker c.plan_completion.result
    (λ (plan : Plan). (actors : List machine.Actor) (acts : List machine.Activation) (granted refused : List Statement) →
    IsPlanned (world_of s actors acts) a plan [] granted refused (completes (world_of s actors acts) a completion granted))
    (λ (plan : Plan). (p : List Filter) → AreLoaded p c.args.loaded.now →
    Plans s c.args.caller.now plan (λ w granted refused. calls.complete_post w a p granted))
    (λ plan held p loaded actors acts granted refused h.
    let w = world_of s actors acts in
    subst (IsPlanned w a plan [] granted refused)
    (post_is p w a granted c.operation.result c.post_answer-answer.result c.settled_by.result
    (read_is (λ act. operation_in act Data) c.args.caller.now actors acts c.operation.result h (λ rest. sym c.operation.ensures))
    c.post_answer-answer.ensures (c.settled_by.ensures p loaded))
    (held actors acts granted refused))
    c.plan_completion.ensures.planned

pub returns-clause-own : goal.returns-clause-own
returns-clause-own c =
    let s = c.args.store.now in
    let a = c.args.caller.now.activation in
    let named : CallOperands = record { visit = c.operation.result; context = None } in
    let completion : Completion = record
    { call = call.CompletePendedPostOperation; answer = c.post_answer-answer.result; named = named; settled = c.settled_by.result } in
    IfOk-weaker c.plan_completion.result
    (λ (plan : Plan). (actors : List machine.Actor) (acts : List machine.Activation) (granted refused : List Statement) →
    IsPlanned (world_of s actors acts) a plan [] granted refused (completes (world_of s actors acts) a completion granted))
    (λ (plan : Plan). AreOwn a plan.events)
    (λ plan held. completion_own s a completion plan held)
    c.plan_completion.ensures.planned

pub returns-clause-takes : goal.returns-clause-takes
returns-clause-takes c =
    IfOk-weaker c.plan_completion.result
    (λ (plan : Plan). (locks : List HeldLock) → TakesNone locks plan.write)
    (λ (plan : Plan). TakesNone c.args.caller.now.standing.locks plan.write)
    (λ plan held. held c.args.caller.now.standing.locks)
    c.plan_completion.ensures.takes
