use Rattle.std.proofs.Common.{◌≡◌, false, [], Some, subst}
use Rattle.std.proofs.lemmas.Option.{same_Some}
use Rattle.std.proofs.lemmas.Result.{IfOk-weaker}
use Rattle.flt_tree.specs.declared.filter.Test.{Test}
use Rattle.flt_model.specs.Reads as reads
use Rattle.flt_model.specs.Steps as steps
use Rattle.flt_machine_calls.specs.Plans.{is_end, IsPlanned, Plans, TakesNone, world_of}
use Rattle.flt_machine_calls.specs.declared.plans.Plan.{Plan}
use Rattle.flt_machine_calls.proofs.Lasting.{not_ended, takes_none, test_lasts}
use Rattle.flt_machine_calls.proofs.planning.plan_test.Goals as goal

pub returns-in-IsIrp-clause-planned : goal.returns-in-IsIrp-clause-planned
returns-in-IsIrp-clause-planned c = λ p t actors acts granted refused step h is.
    let s = c.args.store.now in
    let a = c.args.caller.now.activation in
    let w = world_of s actors acts in
    IfOk-weaker c.test_irp.result
    (λ (plan : Plan). Plans s c.args.caller.now plan (λ w granted refused. reads.test_irp w a granted refused))
    (λ (plan : Plan). IsPlanned w a plan [] granted refused step)
    (λ plan held. subst (IsPlanned w a plan [] granted refused)
    (same_Some (reads.test_irp w a granted refused) step
    (subst (λ (x : Test). steps.test_step p t w a granted refused x ≡ Some step) c.in-IsIrp.is is))
    (held actors acts granted refused h))
    c.test_irp.ensures.planned

pub returns-in-IsIrp-clause-lasts : goal.returns-in-IsIrp-clause-lasts
returns-in-IsIrp-clause-lasts c =
    let s = c.args.store.now in
    let caller = c.args.caller.now in
    IfOk-weaker c.test_irp.result
    (λ (plan : Plan). Plans s caller plan (λ w granted refused. reads.test_irp w caller.activation granted refused))
    (λ (plan : Plan). is_end plan.write ≡ false)
    (λ plan held. not_ended s caller plan (λ w granted refused. reads.test_irp w caller.activation granted refused) held
    (λ w lives. test_lasts w caller.activation lives [] [])) c.test_irp.ensures.planned

pub returns-in-IsIrp-clause-takes : goal.returns-in-IsIrp-clause-takes
returns-in-IsIrp-clause-takes c =
    let s = c.args.store.now in
    let caller = c.args.caller.now in
    IfOk-weaker c.test_irp.result
    (λ (plan : Plan). Plans s caller plan (λ w granted refused. reads.test_irp w caller.activation granted refused))
    (λ (plan : Plan). TakesNone caller.standing.locks plan.write)
    (λ plan held. takes_none s caller plan (λ w granted refused. reads.test_irp w caller.activation granted refused) held
    (λ w lives. test_lasts w caller.activation lives [] [])) c.test_irp.ensures.planned
