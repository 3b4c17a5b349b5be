-- Answers that may be refused memory: the plan, where there is one, is of the whole call.
use Rattle.std.proofs.Common.{◌≡◌, ℕ, List, [], ◌∷◌, ◌++◌, Option, Result, IfOk, get_or, ap, sym, subst, refl, ◌∙◌}
use Rattle.std.proofs.lemmas.Result.{IfOk-weaker}
use Rattle.flt_rules.specs.declared.call.Call.{Call}
use Rattle.flt_tree.specs.declared.filter.Statement.{Statement}
use Rattle.flt_tree.specs.declared.variable.Atom.{Atom}
use Rattle.flt_tree.specs.declared.variable.Atom.TheVariants as atom
use Rattle.flt_machine_frames.specs.Standings.{activation_with}
use Rattle.flt_machine_frames.specs.declared.standing.Standing.{Standing}
use Rattle.flt_model.specs.declared.event.Event.{Event}
use Rattle.flt_model.specs.declared.event.Event.TheVariants as event
use Rattle.flt_model.specs.declared.event.Object.{Object}
use Rattle.flt_model.specs.Effects.{Step, uses, empties, calling}
use Rattle.flt_model.specs.Variables.{atom_value}
use Rattle.flt_model.specs.declared.parts.Link.{Link}
use Rattle.flt_model.specs.World.{World, Store, Actor, Activation, no_actor, activation_at, actor_at}
use Rattle.flt_machine_calls.specs.Own.{AreOwn}
use Rattle.flt_machine_calls.specs.Plans.{IsPlanned, Plans, world_of}
use Rattle.flt_machine_calls.specs.declared.caller.Caller.{Caller}
use Rattle.flt_machine_calls.specs.declared.plans.Plan.{Plan}
use Rattle.flt_machine_calls.proofs.Called.{plans_call, of_events}

-- what an atom stands for doesn't depend on what remains
pub atom_same : (s : Standing) (rest : List Statement) (value : Atom) →
    atom_value (activation_with s rest) value ≡ atom_value (activation_with s []) value
atom_same s rest (atom.Number k) = refl
atom_same s rest (atom.Variable n) = refl

-- pairs are the same where both their parts are
pub pair_same : {A B : Type 0} {x y : A} {u v : B} → x ≡ y → u ≡ v → ◌≡◌ {A = A × B} (x, u) (y, v)
pair_same e h = λ i. (e i, h i)

-- the plan's events are the activation's own where the step's are in each world
pub answers_own : {E : Type 0} (store : Store) (c : Caller) (r : Result Plan E) (step : World → List Statement → List Statement → Step) →
    IfOk r (λ plan. Plans store c plan step) → ((w : World) → AreOwn c.activation (step w [] []).events) →
    IfOk r (λ plan. AreOwn c.activation plan.events)
answers_own store c r step planned own =
    IfOk-weaker r (λ plan. Plans store c plan step) (λ plan. AreOwn c.activation plan.events)
    (λ plan p. of_events (AreOwn c.activation) store c plan step p own) planned

-- after these events the plan is the effect, in each world in which the filter is the caller's
abbrev pub IsEffect : Store → Caller → List Event → (World → List Statement → List Statement → Step) → Plan → Type 0
IsEffect store c es effect plan =
    (actors : List Actor) (activations : List Activation) (granted refused : List Statement) →
    (get_or actors c.activation no_actor).filter ≡ c.filter →
    IsPlanned (world_of store actors activations) c.activation plan es granted refused
    (effect (world_of store actors activations) granted refused)

-- the like where the filter doesn't matter
abbrev pub IsEffectOf : Store → Caller → List Event → (World → List Statement → List Statement → Step) → Plan → Type 0
IsEffectOf store c es effect plan =
    (actors : List Actor) (activations : List Activation) (granted refused : List Statement) →
    IsPlanned (world_of store actors activations) c.activation plan es granted refused
    (effect (world_of store actors activations) granted refused)

-- a call without events of its own, by what it reads of the activation
abbrev pub whole : {X : Type 0} → Caller → Call → (Activation → X) → (X → List (Option Object)) →
    (World → X → List Statement → List Statement → Step) →
    World → List Statement → List Statement → Step
whole c k read needs effect w granted refused =
    calling w c.activation k [] (needs (read (activation_at w c.activation)))
    (effect w (read (activation_at w c.activation)) granted refused)

module _ {X : Type 0} (store : Store) (c : Caller) (k : Call) (es : List Event) (x : X) (read : Activation → X)
    (needs : X → List (Option Object)) where
  -- a call is planned where its effect on what it names is, behind the events of the call itself
  pub answers : {E : Type 0} (effect : World → X → List Statement → List Statement → Step) (r : Result Plan E) →
      ((rest : List Statement) → read (activation_with c.standing rest) ≡ x) →
      es ≡ event.Call c.activation k ∷ (uses c.activation (needs x) ++ empties c.activation (needs x)) →
      IfOk r (λ plan. IsEffect store c es (λ w granted refused. effect w x granted refused) plan) →
      IfOk r (λ plan. Plans store c plan (whole c k read needs effect))
  answers effect r reads told planned =
      IfOk-weaker r (λ plan. IsEffect store c es (λ w granted refused. effect w x granted refused) plan)
      (λ plan. Plans store c plan (whole c k read needs effect))
      (λ plan p. plans_call store c plan k es x read (λ _. []) needs effect reads told p) planned

  -- the same where the effect doesn't ask of which filter the caller is
  pub answers_plainly : {E : Type 0} (effect : World → X → List Statement → List Statement → Step) (r : Result Plan E) →
      ((rest : List Statement) → read (activation_with c.standing rest) ≡ x) →
      es ≡ event.Call c.activation k ∷ (uses c.activation (needs x) ++ empties c.activation (needs x)) →
      IfOk r (λ plan. IsEffectOf store c es (λ w granted refused. effect w x granted refused) plan) →
      IfOk r (λ plan. Plans store c plan (whole c k read needs effect))
  answers_plainly effect r reads told planned =
      answers effect r reads told
      (IfOk-weaker r (λ plan. IsEffectOf store c es (λ w granted refused. effect w x granted refused) plan)
      (λ plan. IsEffect store c es (λ w granted refused. effect w x granted refused) plan)
      (λ plan p. λ actors activations granted refused filter. p actors activations granted refused) planned)

  -- a call that works on a link of the filter
  pub answers_at : {E : Type 0} (effect : World → X → Option Link → List Statement → List Statement → Step) (link : ℕ → X → Option Link)
      (l : Option Link) (r : Result Plan E) →
      ((rest : List Statement) → read (activation_with c.standing rest) ≡ x) →
      es ≡ event.Call c.activation k ∷ (uses c.activation (needs x) ++ empties c.activation (needs x)) → l ≡ link c.filter x →
      IfOk r (λ plan. IsEffect store c es (λ w granted refused. effect w x l granted refused) plan) →
      IfOk r (λ plan. Plans store c plan (whole c k read needs
      (λ w y granted refused. effect w y (link (actor_at w c.activation).filter y) granted refused)))
  answers_at effect link l r reads told is planned =
      answers (λ w y granted refused. effect w y (link (actor_at w c.activation).filter y) granted refused) r reads told
      (IfOk-weaker r (λ plan. IsEffect store c es (λ w granted refused. effect w x l granted refused) plan)
      (λ plan. IsEffect store c es (λ w granted refused. effect w x (link (actor_at w c.activation).filter x) granted refused) plan)
      (λ plan p. λ actors activations granted refused filter.
      let w = world_of store actors activations in
      subst (λ y. IsPlanned w c.activation plan es granted refused (effect w x y granted refused)) (is ∙ ap (λ f. link f x) (sym filter))
      (p actors activations granted refused filter)) planned)
