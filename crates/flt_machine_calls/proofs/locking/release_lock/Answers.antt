use Rattle.std.proofs.Common.{[], ◌∷◌, refl}
use Rattle.flt_model.specs.Calls as calls
use Rattle.flt_model.specs.declared.event.Event.TheVariants as event
use Rattle.flt_rules.specs.declared.call.Call.TheVariants as call
use Rattle.flt_machine_calls.specs.Plans.{world_of}
use Rattle.flt_machine_calls.proofs.Called.{called}
use Rattle.flt_machine_calls.proofs.locking.release_lock.Goals as goal

pub returns-clause-planned : goal.returns-clause-planned
returns-clause-planned c = λ actors acts granted refused h.
    let w = world_of c.args.store.now actors acts in
    let a = c.args.caller.now.activation in
    called w a c.given_up.result (call.ReleaseLock c.args.kind) (event.Unlock a c.args.lock ∷ []) c.push-2.new.list.items [] granted refused
    (calls.given_up w a c.args.lock granted)
    (rw (c.in_ok-push-2.ensures.items, c.in_ok-push.ensures.items, c.new-events.ensures.items) refl)
    (c.given_up.ensures.planned c.args.store.now actors acts granted refused h)

pub returns-clause-possible : goal.returns-clause-possible
returns-clause-possible c = λ counted. c.given_up.ensures.possible c.args.store.now
