-- The events of what is handed over are the activation's own.
use Rattle.std.proofs.Common.{◌≡◌, ◌≤◌, ℕ, Bool, true, false, if◌then◌else◌, List, [], ◌∷◌, ◌++◌, length, Option, Some, None, arith, refl}
use Rattle.flt_rules.specs.declared.call.Call.{Call}
use Rattle.flt_tree.specs.declared.filter.Statement.{Statement}
use Rattle.flt_tree.specs.declared.variable.ContextVariable.{ContextVariable}
use Rattle.flt_tree.specs.declared.variable.RemovedVariable.{RemovedVariable}
use Rattle.flt_model.specs.Calls.{enqueued, insert_by, with_entry, removed, deferred, defer_by, queued, queue_by}
use Rattle.flt_model.specs.Effects.{Step, optional, onward, goes_on, unchanged, uses, empties, calling, gains_context, loses_context}
use Rattle.flt_model.specs.declared.parts.Entry.{Entry}
use Rattle.flt_model.specs.World.{World, Store, is_attached, presence_at, actor_at}
use Rattle.flt_model.specs.declared.event.Event.{Event}
use Rattle.flt_model.specs.declared.event.Event.TheVariants as event
use Rattle.flt_model.specs.declared.event.Object.{Object}
use Rattle.flt_model.specs.declared.event.Object.TheVariants.{Visit}
use Rattle.flt_machine_calls.specs.Following.{Follows}
use Rattle.flt_machine_calls.specs.Own.{AreOf, AreOwn}
use Rattle.flt_machine_calls.specs.declared.caller.Caller.{Caller}
use Rattle.flt_machine_calls.specs.declared.plans.Plan.{Plan}
use Rattle.flt_machine_calls.proofs.Called.{called, of_events}
use Rattle.flt_machine_calls.proofs.Owned.{AreUpTo, own_call, gains_up_to, loses_up_to}

-- a plan that follows a call's own events and its uses
pub owned_call : (store : Store) (c : Caller) (plan : Plan) (k : Call) (own es : List Event) (needs : List (Option Object))
    (effect : World → List Statement → List Statement → Step) →
    es ≡ event.Call c.activation k ∷ (own ++ (uses c.activation needs ++ empties c.activation needs)) → Follows store c es plan effect →
    AreUpTo c.activation 1 own → length needs ≤ 4 → ((w : World) → AreUpTo c.activation 8 (effect w [] []).events) →
    AreOwn c.activation plan.events
owned_call store c plan k own es needs effect is planned mine small done =
    of_events (AreOwn c.activation) store c plan (λ w granted refused. calling w c.activation k own needs (effect w granted refused))
    (λ actors activations granted refused h.
    called _ c.activation plan k own es needs granted refused (effect _ granted refused) is (planned actors activations granted refused h))
    (λ w. own_call w c.activation k own needs (effect w [] []) mine small (done w))

-- a context that may be named is one object at most
pub one_optional : (x : Option (Option ℕ)) → length (optional x) ≤ 1
one_optional None = omega arith
one_optional (Some x) = omega arith

-- one event, and those of a context that may be there
one_more : (a : ℕ) (e : Event) (es : List Event) → AreOf a (e ∷ []) → AreUpTo a 1 es → AreUpTo a 8 (e ∷ es)
one_more a e es first here = ((first.0, here.0), omega (arith, here.1))

module _ (w : World) (a : ℕ) where
  enqueued_up_to : (granted refused : List Statement) (v : ℕ) (x : Option ℕ) → AreUpTo a 8 (enqueued w a granted refused v x).events
  enqueued_up_to granted refused v x = chosen (is_attached (presence_at w.store (actor_at w a).filter))
    where
      entered : Step
      entered = goes_on w a (onward w a granted) (with_entry w a (record { visit = v; context = x }))
          (event.Lose a (Visit v) ∷ loses_context a x)

      chosen : (b : Bool) → AreUpTo a 8 (if b then entered else unchanged w a refused).events
      chosen true = one_more a (event.Lose a (Visit v)) (loses_context a x) (refl, tt) (loses_up_to a x)
      chosen false = (tt, omega arith)

  -- to insert an operation into a queue makes at most eight events
  pub insert_up_to : (granted refused : List Statement) (v : Option ℕ) (c : Option (Option ℕ)) →
      AreUpTo a 8 (insert_by w a granted refused v c).events
  insert_up_to granted refused None c = (tt, omega arith)
  insert_up_to granted refused (Some v) (Some None) = (tt, omega arith)
  insert_up_to granted refused (Some v) (Some (Some x)) = enqueued_up_to granted refused v (Some x)
  insert_up_to granted refused (Some v) None = enqueued_up_to granted refused v None

  -- to remove an operation from a queue makes at most eight events
  pub removed_up_to : (o : RemovedVariable) (d : ContextVariable) (granted refused : List Statement) (queue : List Entry) →
      AreUpTo a 8 (removed w a o d granted refused queue).events
  removed_up_to o d granted refused [] = (tt, omega arith)
  removed_up_to o d granted refused (e ∷ queue) =
      one_more a (event.Gain a (Visit e.visit)) (gains_context a e.context) (refl, tt) (gains_up_to a e.context)

  deferred_up_to : (routine : ℕ) (grant : Bool) (granted refused : List Statement) (v : ℕ) (x : Option ℕ) →
      AreUpTo a 8 (if grant then deferred w a routine granted v x else unchanged w a refused).events
  deferred_up_to routine true granted refused v x = one_more a (event.Lose a (Visit v)) (loses_context a x) (refl, tt) (loses_up_to a x)
  deferred_up_to routine false granted refused v x = (tt, omega arith)

  -- to queue an operation's work item makes at most eight events
  pub defer_up_to : (routine : ℕ) (grant : Bool) (granted refused : List Statement) (v : Option ℕ) (c : Option (Option ℕ)) →
      AreUpTo a 8 (defer_by w a routine grant granted refused v c).events
  defer_up_to routine grant granted refused None c = (tt, omega arith)
  defer_up_to routine grant granted refused (Some v) (Some None) = (tt, omega arith)
  defer_up_to routine grant granted refused (Some v) (Some (Some x)) = deferred_up_to routine grant granted refused v (Some x)
  defer_up_to routine grant granted refused (Some v) None = deferred_up_to routine grant granted refused v None

  queued_up_to : (routine : ℕ) (grant : Bool) (granted refused : List Statement) (x : Option ℕ) →
      AreUpTo a 8 (if grant then queued w a routine granted x else unchanged w a refused).events
  queued_up_to routine true granted refused x = ((loses_up_to a x).0, omega (arith, (loses_up_to a x).1))
  queued_up_to routine false granted refused x = (tt, omega arith)

  -- to queue a work item of its own makes at most eight events
  pub queue_up_to : (routine : ℕ) (grant : Bool) (granted refused : List Statement) (c : Option (Option ℕ)) →
      AreUpTo a 8 (queue_by w a routine grant granted refused c).events
  queue_up_to routine grant granted refused (Some None) = (tt, omega arith)
  queue_up_to routine grant granted refused (Some (Some x)) = queued_up_to routine grant granted refused (Some x)
  queue_up_to routine grant granted refused None = queued_up_to routine grant granted refused None
