use Rattle.std.proofs.Common.{List, []}
use Rattle.std.proofs.lemmas.Result.{IfOk-weaker}
use Rattle.flt_model.specs.Returns as spec
use Rattle.flt_model.specs.World as machine
use Rattle.flt_model.specs.declared.event.Event.{Event}
use Rattle.flt_tree.specs.declared.filter.Filter.{Filter}
use Rattle.flt_tree.specs.declared.filter.Statement.{Statement}
use Rattle.flt_machine_frames.specs.Loading.{AreLoaded}
use Rattle.flt_machine_calls.specs.Plans.{IsPlanned, PlansBy, world_of}
use Rattle.flt_machine_calls.specs.Returning.{IsReturning}
use Rattle.flt_machine_calls.specs.declared.plans.Plan.{Plan}
use Rattle.flt_machine_calls.proofs.Returned.{is_returning}
use Rattle.flt_machine_calls.proofs.settling.returns.Goals as goal

pub returns-clause-planned : goal.returns-clause-planned
returns-clause-planned c =
    IfOk-weaker c.plan_return.result
    (λ (plan : Plan). (p : List Filter) (t : List Event) (actors : List machine.Actor) (acts : List machine.Activation)
    (granted refused : List Statement) →
    AreLoaded p c.args.loaded.now →
    IsReturning t (world_of c.args.store.now actors acts) c.args.caller.now.activation c.args.status c.read_at_end-r.result →
    IsPlanned (world_of c.args.store.now actors acts) c.args.caller.now.activation plan [] granted refused
    (spec.returns p t (world_of c.args.store.now actors acts) c.args.caller.now.activation c.args.status))
    (λ (plan : Plan). (p : List Filter) → AreLoaded p c.args.loaded.now →
    PlansBy c.args.store.now c.args.caller.now plan (λ t w granted refused. spec.returns p t w c.args.caller.now.activation c.args.status))
    (λ plan held p loaded t counted actors acts granted refused h.
    held p t actors acts granted refused loaded
    (is_returning t c.args.store.now c.args.caller.now actors acts c.args.status c.read_at_end-r.result h counted
    c.read_at_end-r.ensures.answers c.read_at_end-r.ensures.given c.read_at_end-r.ensures.held c.read_at_end-r.ensures.named))
    c.plan_return.ensures.planned
