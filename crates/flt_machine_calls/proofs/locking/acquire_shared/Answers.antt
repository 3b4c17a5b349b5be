use Rattle.std.proofs.Common.{[], ◌∷◌, refl}
use Rattle.flt_model.specs.Calls as calls
use Rattle.flt_model.specs.declared.event.Event.TheVariants as event
use Rattle.flt_rules.specs.declared.call.Call.TheVariants as call
use Rattle.flt_rules.specs.declared.held.Access.TheVariants as access
use Rattle.flt_machine_calls.specs.Plans.{world_of}
use Rattle.flt_machine_calls.proofs.Called.{called}
use Rattle.flt_machine_calls.proofs.locking.acquire_shared.Goals as goal

pub returns-clause-planned : goal.returns-clause-planned
returns-clause-planned c = λ actors acts granted refused h.
    let w = world_of c.args.store.now actors acts in
    let a = c.args.caller.now.activation in
    called w a c.taken.result call.AcquirePushLockShared (event.Lock a c.args.lock ∷ []) c.push-2.new.list.items [] granted refused
    (calls.taken w a c.args.lock access.Shared granted)
    (rw (c.in_ok-push-2.ensures.items, c.in_ok-push.ensures.items, c.new-events.ensures.items) refl)
    (c.taken.ensures.planned c.args.store.now actors acts granted refused h)

pub returns-clause-possible : goal.returns-clause-possible
returns-clause-possible c = λ counted. c.taken.ensures.possible c.args.store.now
