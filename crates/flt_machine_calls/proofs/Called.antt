-- Plans of calls, reads and tests by plans of their effects.
use Rattle.std.proofs.Common.{◌≡◌, ℕ, List, [], ◌∷◌, ◌++◌, Option, get_or, replicate, ◌+◌, false, arith, ap, sym, subst, ◌∙◌, append_assoc}
use Rattle.std.proofs.lemmas.List.{get_or-replicate}
use Rattle.flt_rules.specs.declared.call.Call.{Call}
use Rattle.flt_tree.specs.declared.filter.Statement.{Statement}
use Rattle.flt_machine_frames.specs.Standings.{activation_with}
use Rattle.flt_model.specs.declared.event.Event.{Event}
use Rattle.flt_model.specs.declared.event.Event.TheVariants as event
use Rattle.flt_model.specs.declared.event.Object.{Object}
use Rattle.flt_model.specs.Effects.{Step, uses, empties, calling, needing}
use Rattle.flt_model.specs.World.{World, Store, Actor, Activation, no_actor, nobody, activation_at}
use Rattle.flt_machine_calls.specs.Plans.{IsCaller, IsPlanned, Plans, world_of}
use Rattle.flt_machine_calls.specs.declared.caller.Caller.{Caller}
use Rattle.flt_machine_calls.specs.declared.plans.Plan.{Plan}

-- ---- a plan after the events of a call is the call

told : (e : Event) (own used empty effect : List Event) →
    (e ∷ (own ++ (used ++ empty))) ++ effect ≡ e ∷ (((own ++ used) ++ empty) ++ effect)
told e own used empty effect = ap (λ (es : List Event). e ∷ (es ++ effect)) (sym (append_assoc own used empty))

-- a plan of a call's effect, behind the events of the call itself, is a plan of the call
pub called : (w : World) (a : ℕ) (plan : Plan) (k : Call) (own es : List Event) (needs : List (Option Object))
    (granted refused : List Statement) (effect : Step) →
    es ≡ event.Call a k ∷ (own ++ (uses a needs ++ empties a needs)) → IsPlanned w a plan es granted refused effect →
    IsPlanned w a plan [] granted refused (calling w a k own needs effect)
called w a plan k own es needs granted refused effect is planned = record {
  events = planned.events ∙ ap (λ (earlier : List Event). earlier ++ effect.events) is ∙ told (event.Call a k) own (uses a needs)
      (empties a needs) effect.events;
  world = planned.world;
}

-- a plan of an effect, behind the uses of what it names, is a plan of a read or a test
pub needed : (w : World) (a : ℕ) (plan : Plan) (es : List Event) (needs : List (Option Object))
    (granted refused : List Statement) (effect : Step) →
    es ≡ uses a needs ++ empties a needs → IsPlanned w a plan es granted refused effect →
    IsPlanned w a plan [] granted refused (needing w a needs effect)
needed w a plan es needs granted refused effect is planned = record {
  events = planned.events ∙ ap (λ (earlier : List Event). earlier ++ effect.events) is;
  world = planned.world;
}

-- ---- what is read of the activation is what is read of the standing

-- what is read of the caller's standing is what is read of its activation
pub read_is : {X : Type 0} (read : Activation → X) (c : Caller) (actors : List Actor) (activations : List Activation) (x : X) →
    IsCaller actors activations c →
    ((rest : List Statement) → read (activation_with c.standing rest) ≡ x) → x ≡ read (get_or activations c.activation nobody)
read_is read c actors activations x h is = sym (ap read h.act ∙ is (get_or activations c.activation nobody).rest)

-- a call whose own events, needs and effect are by what it reads of the activation
pub plans_call : {X : Type 0} (store : Store) (c : Caller) (plan : Plan) (k : Call) (es : List Event) (x : X)
    (read : Activation → X) (own : X → List Event)
    (needs : X → List (Option Object))
    (effect : World → X → List Statement → List Statement → Step) →
    ((rest : List Statement) → read (activation_with c.standing rest) ≡ x) →
    es ≡ event.Call c.activation k ∷ (own x ++ (uses c.activation (needs x) ++ empties c.activation (needs x))) →
    ((actors : List Actor) (activations : List Activation) (granted refused : List Statement) →
    (get_or actors c.activation no_actor).filter ≡ c.filter →
    IsPlanned (world_of store actors activations) c.activation plan es granted refused
    (effect (world_of store actors activations) x granted refused)) →
    Plans store c plan (λ (w : World) (granted refused : List Statement).
    calling w c.activation k (own (read (activation_at w c.activation))) (needs (read (activation_at w c.activation)))
    (effect w (read (activation_at w c.activation)) granted refused))
plans_call store c plan k es x read own needs effect reads is planned = λ actors activations granted refused h.
    let w = world_of store actors activations in
    subst (λ y. IsPlanned w c.activation plan [] granted refused (calling w c.activation k (own y) (needs y) (effect w y granted refused)))
    (read_is read c actors activations x h reads)
    (called w c.activation plan k (own x) es (needs x) granted refused (effect w x granted refused) is
    (planned actors activations granted refused h.filter))

-- the like of a read or a test, which is no call
pub plans_read : {X : Type 0} (store : Store) (c : Caller) (plan : Plan) (es : List Event) (x : X) (read : Activation → X)
    (needs : X → List (Option Object))
    (effect : World → X → List Statement → List Statement → Step) →
    ((rest : List Statement) → read (activation_with c.standing rest) ≡ x) →
    es ≡ uses c.activation (needs x) ++ empties c.activation (needs x) →
    ((actors : List Actor) (activations : List Activation) (granted refused : List Statement) →
    (get_or actors c.activation no_actor).filter ≡ c.filter →
    IsPlanned (world_of store actors activations) c.activation plan es granted refused
    (effect (world_of store actors activations) x granted refused)) →
    Plans store c plan (λ (w : World) (granted refused : List Statement).
    needing w c.activation (needs (read (activation_at w c.activation))) (effect w (read (activation_at w c.activation)) granted refused))
plans_read store c plan es x read needs effect reads is planned = λ actors activations granted refused h.
    let w = world_of store actors activations in
    subst (λ y. IsPlanned w c.activation plan [] granted refused (needing w c.activation (needs y) (effect w y granted refused)))
    (read_is read c actors activations x h reads)
    (needed w c.activation plan es (needs x) granted refused (effect w x granted refused) is
    (planned actors activations granted refused h.filter))

-- ---- a world in which the activation is the caller: what holds of a plan's events in each world, holds of them

abbrev pub actors_with : Caller → List Actor
actors_with c = replicate (c.activation + 1) (record { filter = c.filter; place = c.place; draining = false })

abbrev pub activations_with : Caller → List Activation
activations_with c = replicate (c.activation + 1) (activation_with c.standing [])

-- each caller is the caller of a world with it alone in it
pub is_caller : (c : Caller) → IsCaller (actors_with c) (activations_with c) c
is_caller c = record {
  filter = ap (λ (x : Actor). x.filter) there;
  place = ap (λ (x : Actor). x.place) there;
  act = here ∙ ap (λ (x : Activation). activation_with c.standing x.rest) (sym here);
}
  where
    actor : Actor
    actor = record { filter = c.filter; place = c.place; draining = false }

    there : get_or (actors_with c) c.activation no_actor ≡ actor
    there = get_or-replicate (c.activation + 1) c.activation actor no_actor (omega arith)

    here : get_or (activations_with c) c.activation nobody ≡ activation_with c.standing []
    here = get_or-replicate (c.activation + 1) c.activation (activation_with c.standing []) nobody (omega arith)

-- what holds of the events of a step in each world holds of the plan's events
pub of_events : (P : List Event → Type 0) (store : Store) (c : Caller) (plan : Plan)
    (step : World → List Statement → List Statement → Step) →
    Plans store c plan step → ((w : World) → P (step w [] []).events) → P plan.events
of_events P store c plan step planned holds =
    subst P (sym (planned (actors_with c) (activations_with c) [] [] (is_caller c)).events)
    (holds (world_of store (actors_with c) (activations_with c)))
