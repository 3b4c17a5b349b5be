use Rattle.std.proofs.Common.{List, subst, sym}
use Rattle.std.specs.Prelude.{IfOk}
use Rattle.std.proofs.lemmas.Result.{IfOk-weaker}
use Rattle.flt_tree.specs.declared.filter.Filter.{Filter}
use Rattle.flt_tree.specs.declared.filter.PlainCall.{PlainCall}
use Rattle.flt_tree.specs.declared.filter.PlainCall.TheVariants as plain
use Rattle.flt_machine_frames.specs.Loading.{AreLoaded}
use Rattle.flt_model.specs.Calls as calls
use Rattle.flt_model.specs.Steps as steps
use Rattle.flt_machine_calls.specs.Plans.{Plans, TakesNone}
use Rattle.flt_machine_calls.specs.declared.plans.Plan.{Plan}
use Rattle.flt_machine_calls.proofs.Lasting.{plain_takes}
use Rattle.flt_machine_calls.proofs.planning.plan_plain.Goals as goal

pub returns-in-DeleteContext-clause-planned : goal.returns-in-DeleteContext-clause-planned
returns-in-DeleteContext-clause-planned c = λ p t loaded.
    subst (λ (x : PlainCall). IfOk c.delete.result (λ (plan : Plan). Plans c.args.store.now c.args.caller.now plan
    (λ w granted refused. steps.plain_step p t w c.args.caller.now.activation granted x)))
    (sym c.in-DeleteContext.is) c.delete.ensures.planned

pub returns-in-ReferenceContext-clause-planned : goal.returns-in-ReferenceContext-clause-planned
returns-in-ReferenceContext-clause-planned c = λ p t loaded.
    subst (λ (x : PlainCall). IfOk c.reference.result (λ (plan : Plan). Plans c.args.store.now c.args.caller.now plan
    (λ w granted refused. steps.plain_step p t w c.args.caller.now.activation granted x)))
    (sym c.in-ReferenceContext.is) c.reference.ensures.planned

pub returns-in-ReleaseContext-clause-planned : goal.returns-in-ReleaseContext-clause-planned
returns-in-ReleaseContext-clause-planned c = λ p t loaded.
    subst (λ (x : PlainCall). IfOk c.release.result (λ (plan : Plan). Plans c.args.store.now c.args.caller.now plan
    (λ w granted refused. steps.plain_step p t w c.args.caller.now.activation granted x)))
    (sym c.in-ReleaseContext.is) c.release.ensures.planned

pub returns-in-AcquireLock-clause-planned : goal.returns-in-AcquireLock-clause-planned
returns-in-AcquireLock-clause-planned c = λ p t loaded.
    subst (λ (x : PlainCall). IfOk c.acquire.result (λ (plan : Plan). Plans c.args.store.now c.args.caller.now plan
    (λ w granted refused. steps.plain_step p t w c.args.caller.now.activation granted x)))
    (sym c.in-AcquireLock.is) c.acquire.ensures.planned

pub returns-in-AcquirePushLockShared-clause-planned : goal.returns-in-AcquirePushLockShared-clause-planned
returns-in-AcquirePushLockShared-clause-planned c = λ p t loaded.
    subst (λ (x : PlainCall). IfOk c.acquire_shared.result (λ (plan : Plan). Plans c.args.store.now c.args.caller.now plan
    (λ w granted refused. steps.plain_step p t w c.args.caller.now.activation granted x)))
    (sym c.in-AcquirePushLockShared.is) c.acquire_shared.ensures.planned

pub returns-in-ReleaseLock-clause-planned : goal.returns-in-ReleaseLock-clause-planned
returns-in-ReleaseLock-clause-planned c = λ p t loaded.
    subst (λ (x : PlainCall). IfOk c.release_lock.result (λ (plan : Plan). Plans c.args.store.now c.args.caller.now plan
    (λ w granted refused. steps.plain_step p t w c.args.caller.now.activation granted x)))
    (sym c.in-ReleaseLock.is) c.release_lock.ensures.planned

pub returns-in-CompletePendedPreOperation-clause-planned : goal.returns-in-CompletePendedPreOperation-clause-planned
returns-in-CompletePendedPreOperation-clause-planned c = λ p t loaded.
    subst (λ (x : PlainCall). IfOk c.complete_pre.result (λ (plan : Plan). Plans c.args.store.now c.args.caller.now plan
    (λ w granted refused. steps.plain_step p t w c.args.caller.now.activation granted x)))
    (sym c.in-CompletePendedPreOperation.is)
    (IfOk-weaker c.complete_pre.result
    (λ (plan : Plan). (q : List Filter) → AreLoaded q c.args.loaded.now →
    Plans c.args.store.now c.args.caller.now plan (λ w granted refused. calls.complete_pre w c.args.caller.now.activation q
    c.in-CompletePendedPreOperation.operation c.in-CompletePendedPreOperation.status granted))
    (λ (plan : Plan). Plans c.args.store.now c.args.caller.now plan (λ w granted refused. calls.complete_pre w c.args.caller.now.activation
    p c.in-CompletePendedPreOperation.operation c.in-CompletePendedPreOperation.status granted))
    (λ plan held. held p loaded)
    c.complete_pre.ensures.planned)

pub returns-in-CompletePendedPostOperation-clause-planned : goal.returns-in-CompletePendedPostOperation-clause-planned
returns-in-CompletePendedPostOperation-clause-planned c = λ p t loaded.
    subst (λ (x : PlainCall). IfOk c.complete_post.result (λ (plan : Plan). Plans c.args.store.now c.args.caller.now plan
    (λ w granted refused. steps.plain_step p t w c.args.caller.now.activation granted x)))
    (sym c.in-CompletePendedPostOperation.is)
    (IfOk-weaker c.complete_post.result
    (λ (plan : Plan). (q : List Filter) → AreLoaded q c.args.loaded.now →
    Plans c.args.store.now c.args.caller.now plan (λ w granted refused. calls.complete_post w c.args.caller.now.activation q granted))
    (λ (plan : Plan). Plans c.args.store.now c.args.caller.now plan
    (λ w granted refused. calls.complete_post w c.args.caller.now.activation p granted))
    (λ plan held. held p loaded)
    c.complete_post.ensures.planned)

pub returns-in-DeleteContext-clause-takes : goal.returns-in-DeleteContext-clause-takes
returns-in-DeleteContext-clause-takes c =
    let s = c.args.store.now in
    let caller = c.args.caller.now in
    IfOk-weaker c.delete.result
    (λ (plan : Plan). Plans s caller plan (λ w granted refused. calls.delete w caller.activation c.in-DeleteContext.context granted))
    (λ (plan : Plan). TakesNone caller.standing.locks plan.write)
    (λ plan held. plain_takes s caller plan (plain.DeleteContext c.in-DeleteContext.context) held)
    c.delete.ensures.planned

pub returns-in-ReferenceContext-clause-takes : goal.returns-in-ReferenceContext-clause-takes
returns-in-ReferenceContext-clause-takes c =
    let s = c.args.store.now in
    let caller = c.args.caller.now in
    IfOk-weaker c.reference.result
    (λ (plan : Plan). Plans s caller plan
    (λ w granted refused. calls.reference w caller.activation c.in-ReferenceContext.context c.in-ReferenceContext.output granted))
    (λ (plan : Plan). TakesNone caller.standing.locks plan.write)
    (λ plan held. plain_takes s caller plan (plain.ReferenceContext c.in-ReferenceContext.context c.in-ReferenceContext.output) held)
    c.reference.ensures.planned

pub returns-in-ReleaseContext-clause-takes : goal.returns-in-ReleaseContext-clause-takes
returns-in-ReleaseContext-clause-takes c =
    let s = c.args.store.now in
    let caller = c.args.caller.now in
    IfOk-weaker c.release.result
    (λ (plan : Plan). Plans s caller plan (λ w granted refused. calls.release w caller.activation c.in-ReleaseContext.context granted))
    (λ (plan : Plan). TakesNone caller.standing.locks plan.write)
    (λ plan held. plain_takes s caller plan (plain.ReleaseContext c.in-ReleaseContext.context) held)
    c.release.ensures.planned

pub returns-in-AcquireLock-clause-takes : goal.returns-in-AcquireLock-clause-takes
returns-in-AcquireLock-clause-takes c =
    let s = c.args.store.now in
    let caller = c.args.caller.now in
    IfOk-weaker c.acquire.result
    (λ (plan : Plan). Plans s caller plan
    (λ w granted refused. calls.acquire w caller.activation c.in-AcquireLock.kind c.in-AcquireLock.lock granted))
    (λ (plan : Plan). TakesNone caller.standing.locks plan.write)
    (λ plan held. plain_takes s caller plan (plain.AcquireLock c.in-AcquireLock.kind c.in-AcquireLock.lock) held)
    c.acquire.ensures.planned

pub returns-in-AcquirePushLockShared-clause-takes : goal.returns-in-AcquirePushLockShared-clause-takes
returns-in-AcquirePushLockShared-clause-takes c =
    let s = c.args.store.now in
    let caller = c.args.caller.now in
    IfOk-weaker c.acquire_shared.result
    (λ (plan : Plan). Plans s caller plan
    (λ w granted refused. calls.acquire_shared w caller.activation c.in-AcquirePushLockShared.lock granted))
    (λ (plan : Plan). TakesNone caller.standing.locks plan.write)
    (λ plan held. plain_takes s caller plan (plain.AcquirePushLockShared c.in-AcquirePushLockShared.lock) held)
    c.acquire_shared.ensures.planned

pub returns-in-ReleaseLock-clause-takes : goal.returns-in-ReleaseLock-clause-takes
returns-in-ReleaseLock-clause-takes c =
    let s = c.args.store.now in
    let caller = c.args.caller.now in
    IfOk-weaker c.release_lock.result
    (λ (plan : Plan). Plans s caller plan
    (λ w granted refused. calls.release_lock w caller.activation c.in-ReleaseLock.kind c.in-ReleaseLock.lock granted))
    (λ (plan : Plan). TakesNone caller.standing.locks plan.write)
    (λ plan held. plain_takes s caller plan (plain.ReleaseLock c.in-ReleaseLock.kind c.in-ReleaseLock.lock) held)
    c.release_lock.ensures.planned
