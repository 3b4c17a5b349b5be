-- Local steps of an activation by itself are those in its world.
use Rattle.std.proofs.Common.{◌≡◌, ◌<◌, ℕ, zero, suc, Bool, true, false, List, [], ◌∷◌, Option, Some, None}
use Rattle.std.proofs.Common.{option_map, Result, Ok, Err, IfOk, length, set, refl, sym, ap, subst, ◌∙◌}
use Rattle.std.proofs.lemmas.List.{get_or-set_same, length-set, set-set, set-get_or}
use Rattle.std.specs.Prelude.{option_and_then, if◌then◌else◌}
use Rattle.flt_tree.specs.declared.filter.Action.{Action}
use Rattle.flt_tree.specs.declared.filter.Action.TheVariants as action
use Rattle.flt_tree.specs.declared.filter.Statement.{Statement, out-Statement}
use Rattle.flt_tree.specs.declared.filter.Statement.TheOpen.{Statement-F}
use Rattle.flt_model.specs.Effects.{Step}
use Rattle.flt_model.specs.LocalSteps.{after_action, after_statement, local_step, holds_condition, goes_on_to}
use Rattle.flt_model.specs.Steps.{moved_on}
use Rattle.flt_model.specs.World.{World, Activation, activation_at, actor_at, nobody}
use Rattle.flt_replay_records.specs.Local.{local_steps}
use Rattle.flt_replay_steps.specs.Unseen.{unseen}

-- ---- a local step ends nothing

-- whether an activation that may be there has ended; as this one where there is none
abbrev ended_in : Bool → Option Activation → Bool
ended_in b None = b
ended_in b (Some act) = act.ended

action_ends : (act : Activation) (rest : List Statement) (x : Action) →
    ended_in act.ended (option_map (goes_on_to rest) (after_action act x)) ≡ act.ended
action_ends act rest (action.SetNumber n e) = refl
action_ends act rest (action.ClearContext c) = refl
action_ends act rest (action.ClearOperation o) = refl
action_ends act rest (action.ReadValue n c) = refl
action_ends act rest (action.ReadFile n d) = refl
action_ends act rest (action.WriteValue c x) = refl

if_ends : (act : Activation) (f : Bool → List Statement) (holds : Option Bool) →
    ended_in act.ended (option_map (λ b. goes_on_to (f b) act) holds) ≡ act.ended
if_ends act f None = refl
if_ends act f (Some b) = refl

statement_ends : (draining : Bool) (act : Activation) (rest : List Statement) (s : Statement-F Statement) →
    ended_in act.ended (after_statement draining act rest s) ≡ act.ended
statement_ends draining act rest (Statement-F.Act span x) = action_ends act rest x
statement_ends draining act rest (Statement-F.Call span c) = refl
statement_ends draining act rest (Statement-F.Return span status) = refl
statement_ends draining act rest (Statement-F.If span asked granted refused) = if_ends act _ (holds_condition draining act asked)
statement_ends draining act rest (Statement-F.Repeat span turns block) = refl

step_ends : (draining : Bool) (act : Activation) (list : List Statement) →
    ended_in act.ended (local_step draining act list) ≡ act.ended
step_ends draining act [] = refl
step_ends draining act (s ∷ rest) = statement_ends draining act rest (out-Statement s)

-- ---- one after another

-- the world in which an activation is this one
abbrev pub with_act : World → ℕ → Activation → World
with_act w a act = record w { activations = set w.activations a act }

again : (w : World) (a : ℕ) (act : Activation) (next : Option Activation) →
    option_map (with_act (with_act w a act) a) next ≡ option_map (with_act w a) next
again w a act None = refl
again w a act (Some x) = ap (λ (acts : List Activation). Some (record w { activations = acts })) (set-set w.activations a act x)

-- so many steps of the activation by itself, in a world
abbrev by_itself : ℕ → World → ℕ → Option World
by_itself n w a = option_map (with_act w a) (local_steps (actor_at w a).draining n (activation_at w a))

-- the steps are those by itself, where it is there and goes on
abbrev AreOwn : ℕ → ℕ → Type 0
AreOwn n a = (w : World) → a < length w.activations → (activation_at w a).ended ≡ false → unseen n w a ≡ by_itself n w a

go_further : (n a : ℕ) → AreOwn n a → (w : World) → a < length w.activations → (next : Option Activation) → ended_in false next ≡ false →
    option_and_then (λ (s : Step). unseen n s.world a) (option_map (moved_on [] [] w a) next)
    ≡ option_map (with_act w a) (option_and_then (local_steps (actor_at w a).draining n) next)
go_further n a own w within None goes_on = refl
go_further n a own w within (Some act) goes_on =
    let there : activation_at (with_act w a act) a ≡ act = get_or-set_same w.activations a act nobody within in
    let more = own (with_act w a act) (rw (length-set w.activations a act) within) (ap (λ (x : Activation). x.ended) there ∙ goes_on) in
    more ∙ again w a act (local_steps (actor_at w a).draining n (activation_at (with_act w a act) a))
    ∙ ap (λ (x : Activation). option_map (with_act w a) (local_steps (actor_at w a).draining n x)) there

pub together : (n a : ℕ) → AreOwn n a
together zero a w within goes_on =
    ap (λ (acts : List Activation). Some (record w { activations = acts })) (sym (set-get_or w.activations a nobody))
together (suc n) a w within goes_on =
    let act = activation_at w a in
    let next = local_step (actor_at w a).draining act act.rest in
    let still : ended_in false next ≡ false =
    subst (λ b. ended_in b next ≡ b) goes_on (step_ends (actor_at w a).draining act act.rest) in
    rw goes_on (go_further n a (together n a) w within next still)

-- ---- what comes of them

-- where the activation has ended, none is enabled
pub ended_unseen : (n : ℕ) (w : World) (a : ℕ) → (n ≡ 0 → ⊥) → (activation_at w a).ended ≡ true → unseen n w a ≡ None
ended_unseen zero w a h ended = absurd (h refl)
ended_unseen (suc n) w a h ended = rw ended refl

came : (n : ℕ) (w : World) (a : ℕ) (act new : Activation) (draining all : Bool) → a < length w.activations → activation_at w a ≡ act →
    act.ended ≡ false → (actor_at w a).draining ≡ draining → local_steps draining n act ≡ (if all then Some new else None) →
    unseen n w a ≡ (if all then Some (with_act w a new) else None)
came n w a act new draining true within is goes_on flag made =
    let here : local_steps (actor_at w a).draining n (activation_at w a) ≡ Some new = rw (is, flag) made in
    together n a w within (ap (λ (x : Activation). x.ended) is ∙ goes_on) ∙ ap (option_map (with_act w a)) here
came n w a act new draining false within is goes_on flag made =
    let here : local_steps (actor_at w a).draining n (activation_at w a) ≡ None = rw (is, flag) made in
    together n a w within (ap (λ (x : Activation). x.ended) is ∙ goes_on) ∙ ap (option_map (with_act w a)) here

-- local steps of an activation by itself are local steps in its world
pub made_together : {E : Type 0} (r : Result Bool E) (n : ℕ) (w x : World) (a : ℕ) (act new : Activation) (draining : Bool) →
    a < length w.activations → activation_at w a ≡ act → act.ended ≡ false → (actor_at w a).draining ≡ draining →
    x ≡ with_act w a new → IfOk r (λ local. local_steps draining n act ≡ (if local then Some new else None)) →
    IfOk r (λ all. unseen n w a ≡ (if all then Some x else None))
made_together (Ok all) n w x a act new draining within is goes_on flag changed made =
    rw changed (came n w a act new draining all within is goes_on flag made)
made_together (Err e) n w x a act new draining within is goes_on flag changed made = made
