use Rattle.std.proofs.Common.{◌≡◌, false, [], Some, subst}
use Rattle.std.proofs.lemmas.Option.{same_Some}
use Rattle.std.proofs.lemmas.Result.{IfOk-weaker}
use Rattle.flt_tree.specs.declared.filter.Action.{Action}
use Rattle.flt_model.specs.Reads as reads
use Rattle.flt_model.specs.Steps as steps
use Rattle.flt_machine_calls.specs.Plans.{is_end, IsPlanned, Plans, TakesNone, world_of}
use Rattle.flt_machine_calls.specs.declared.plans.Plan.{Plan}
use Rattle.flt_machine_calls.proofs.Lasting.{not_ended, takes_none, value_lasts, file_lasts, write_lasts}
use Rattle.flt_machine_calls.proofs.planning.plan_action.Goals as goal

pub returns-in-ReadValue-clause-planned : goal.returns-in-ReadValue-clause-planned
returns-in-ReadValue-clause-planned c = λ p t actors acts granted refused step h is.
    let s = c.args.store.now in
    let a = c.args.caller.now.activation in
    let w = world_of s actors acts in
    IfOk-weaker c.read_value.result
    (λ (plan : Plan). Plans s c.args.caller.now plan
    (λ w granted refused. reads.read_value w a c.in-ReadValue.number c.in-ReadValue.context granted))
    (λ (plan : Plan). IsPlanned w a plan [] granted refused step)
    (λ plan held. subst (IsPlanned w a plan [] granted refused)
    (same_Some (reads.read_value w a c.in-ReadValue.number c.in-ReadValue.context granted) step
    (subst (λ (x : Action). steps.act_step p t w a granted x ≡ Some step) c.in-ReadValue.is is))
    (held actors acts granted refused h))
    c.read_value.ensures.planned

pub returns-in-ReadFile-clause-planned : goal.returns-in-ReadFile-clause-planned
returns-in-ReadFile-clause-planned c = λ p t actors acts granted refused step h is.
    let s = c.args.store.now in
    let a = c.args.caller.now.activation in
    let w = world_of s actors acts in
    IfOk-weaker c.read_file.result
    (λ (plan : Plan). Plans s c.args.caller.now plan
    (λ w granted refused. reads.read_file w a c.in-ReadFile.number c.in-ReadFile.operation granted))
    (λ (plan : Plan). IsPlanned w a plan [] granted refused step)
    (λ plan held. subst (IsPlanned w a plan [] granted refused)
    (same_Some (reads.read_file w a c.in-ReadFile.number c.in-ReadFile.operation granted) step
    (subst (λ (x : Action). steps.act_step p t w a granted x ≡ Some step) c.in-ReadFile.is is))
    (held actors acts granted refused h))
    c.read_file.ensures.planned

pub returns-in-WriteValue-clause-planned : goal.returns-in-WriteValue-clause-planned
returns-in-WriteValue-clause-planned c = λ p t actors acts granted refused step h is.
    let s = c.args.store.now in
    let a = c.args.caller.now.activation in
    let w = world_of s actors acts in
    IfOk-weaker c.write_value.result
    (λ (plan : Plan). Plans s c.args.caller.now plan
    (λ w granted refused. reads.write_value w a c.in-WriteValue.context c.in-WriteValue.value granted))
    (λ (plan : Plan). IsPlanned w a plan [] granted refused step)
    (λ plan held. subst (IsPlanned w a plan [] granted refused)
    (same_Some (reads.write_value w a c.in-WriteValue.context c.in-WriteValue.value granted) step
    (subst (λ (x : Action). steps.act_step p t w a granted x ≡ Some step) c.in-WriteValue.is is))
    (held actors acts granted refused h))
    c.write_value.ensures.planned

pub returns-in-ReadValue-clause-lasts : goal.returns-in-ReadValue-clause-lasts
returns-in-ReadValue-clause-lasts c =
    let s = c.args.store.now in
    let caller = c.args.caller.now in
    IfOk-weaker c.read_value.result
    (λ (plan : Plan). Plans s caller plan
    (λ w granted refused. reads.read_value w caller.activation c.in-ReadValue.number c.in-ReadValue.context granted))
    (λ (plan : Plan). is_end plan.write ≡ false)
    (λ plan held. not_ended s caller plan (λ w granted refused. reads.read_value w caller.activation c.in-ReadValue.number
    c.in-ReadValue.context granted) held (λ w lives. value_lasts w caller.activation lives c.in-ReadValue.number c.in-ReadValue.context []))
    c.read_value.ensures.planned

pub returns-in-ReadFile-clause-lasts : goal.returns-in-ReadFile-clause-lasts
returns-in-ReadFile-clause-lasts c =
    let s = c.args.store.now in
    let caller = c.args.caller.now in
    IfOk-weaker c.read_file.result
    (λ (plan : Plan). Plans s caller plan
    (λ w granted refused. reads.read_file w caller.activation c.in-ReadFile.number c.in-ReadFile.operation granted))
    (λ (plan : Plan). is_end plan.write ≡ false)
    (λ plan held. not_ended s caller plan (λ w granted refused. reads.read_file w caller.activation c.in-ReadFile.number
    c.in-ReadFile.operation granted) held (λ w lives. file_lasts w caller.activation lives c.in-ReadFile.number c.in-ReadFile.operation []))
    c.read_file.ensures.planned

pub returns-in-WriteValue-clause-lasts : goal.returns-in-WriteValue-clause-lasts
returns-in-WriteValue-clause-lasts c =
    let s = c.args.store.now in
    let caller = c.args.caller.now in
    IfOk-weaker c.write_value.result
    (λ (plan : Plan). Plans s caller plan
    (λ w granted refused. reads.write_value w caller.activation c.in-WriteValue.context c.in-WriteValue.value granted))
    (λ (plan : Plan). is_end plan.write ≡ false)
    (λ plan held. not_ended s caller plan (λ w granted refused. reads.write_value w caller.activation c.in-WriteValue.context
    c.in-WriteValue.value granted) held (λ w lives. write_lasts w caller.activation lives c.in-WriteValue.context c.in-WriteValue.value []))
    c.write_value.ensures.planned

pub returns-in-ReadValue-clause-takes : goal.returns-in-ReadValue-clause-takes
returns-in-ReadValue-clause-takes c =
    let s = c.args.store.now in
    let caller = c.args.caller.now in
    IfOk-weaker c.read_value.result
    (λ (plan : Plan). Plans s caller plan
    (λ w granted refused. reads.read_value w caller.activation c.in-ReadValue.number c.in-ReadValue.context granted))
    (λ (plan : Plan). TakesNone caller.standing.locks plan.write)
    (λ plan held. takes_none s caller plan (λ w granted refused. reads.read_value w caller.activation c.in-ReadValue.number
    c.in-ReadValue.context granted) held (λ w lives. value_lasts w caller.activation lives c.in-ReadValue.number c.in-ReadValue.context []))
    c.read_value.ensures.planned

pub returns-in-ReadFile-clause-takes : goal.returns-in-ReadFile-clause-takes
returns-in-ReadFile-clause-takes c =
    let s = c.args.store.now in
    let caller = c.args.caller.now in
    IfOk-weaker c.read_file.result
    (λ (plan : Plan). Plans s caller plan
    (λ w granted refused. reads.read_file w caller.activation c.in-ReadFile.number c.in-ReadFile.operation granted))
    (λ (plan : Plan). TakesNone caller.standing.locks plan.write)
    (λ plan held. takes_none s caller plan (λ w granted refused. reads.read_file w caller.activation c.in-ReadFile.number
    c.in-ReadFile.operation granted) held (λ w lives. file_lasts w caller.activation lives c.in-ReadFile.number c.in-ReadFile.operation []))
    c.read_file.ensures.planned

pub returns-in-WriteValue-clause-takes : goal.returns-in-WriteValue-clause-takes
returns-in-WriteValue-clause-takes c =
    let s = c.args.store.now in
    let caller = c.args.caller.now in
    IfOk-weaker c.write_value.result
    (λ (plan : Plan). Plans s caller plan
    (λ w granted refused. reads.write_value w caller.activation c.in-WriteValue.context c.in-WriteValue.value granted))
    (λ (plan : Plan). TakesNone caller.standing.locks plan.write)
    (λ plan held. takes_none s caller plan (λ w granted refused. reads.write_value w caller.activation c.in-WriteValue.context
    c.in-WriteValue.value granted) held (λ w lives. write_lasts w caller.activation lives c.in-WriteValue.context c.in-WriteValue.value []))
    c.write_value.ensures.planned
