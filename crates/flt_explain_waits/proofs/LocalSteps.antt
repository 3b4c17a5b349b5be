-- An activation's local steps, one after another.
use Rattle.std.proofs.Common.{◌≡◌, ◌+◌, ℕ, zero, suc, Bool, true, false, [], Option, Some}
use Rattle.std.proofs.Common.{None, option_map, inl, inr, refl, sym, ◌∙◌, subst, arith}
use Rattle.std.specs.Prelude.{is_some, option_and_then}
use Rattle.flt_model.specs.Effects.{Step}
use Rattle.flt_model.specs.LocalSteps.{local_step}
use Rattle.flt_model.specs.Steps.{local}
use Rattle.flt_model.specs.World.{World, activation_at, actor_at}
use Rattle.flt_replay_steps.specs.Unseen.{unseen}
use Rattle.flt_explain_waits.specs.Waiting.{IsSettled}
use Rattle.flt_replay_world.specs.Happening.{ComesOf}
use Rattle.flt_rules.specs.Limits.{max_cost}

some_map : {A B : Type 0} (f : A → B) (x : Option A) → is_some (option_map f x) ≡ is_some x
some_map f None = refl
some_map f (Some a) = refl

-- a local step is enabled where the first statement that remains is local, unless the activation has ended
pub local_of_list : (w : World) (a : ℕ) (b : Bool) → (activation_at w a).ended ≡ false →
    is_some (local_step (actor_at w a).draining (activation_at w a) (activation_at w a).rest) ≡ b → is_some (local [] [] w a) ≡ b
local_of_list w a b on is = rw on (some_map _ _ ∙ is)

-- one that has ended makes none
pub none_of_ended : (w : World) (a : ℕ) → (activation_at w a).ended ≡ true → is_some (local [] [] w a) ≡ false
none_of_ended w a off = rw off refl

-- a step that is enabled comes true
pub enabled : (step : Option Step) (on : Bool) (w : World) → ComesOf step on w [] [] → is_some step ≡ true → on ≡ true
enabled None on w comes is = absurd (cc)
enabled (Some s) on w comes is = comes.0

then_one : (a : ℕ) (step : Option Step) (on : Bool) (w : World) → ComesOf step on w [] [] → on ≡ true →
    option_and_then (λ s. unseen 0 s.world a) step ≡ Some w
then_one a None on w comes is = let no : true ≡ false = sym is ∙ comes in absurd (cc)
then_one a (Some s) on w comes is = rw comes.1.0 refl

-- one step more, behind those that lead there
pub one_more : (n : ℕ) (w v u : World) (a : ℕ) (on : Bool) → unseen n w a ≡ Some v → ComesOf (local [] [] v a) on u [] [] → on ≡ true →
    unseen (n + 1) w a ≡ Some u
one_more zero w v u a on is comes made =
    let same : w ≡ v = cc in
    subst (λ x. option_and_then (λ s. unseen 0 s.world a) (local [] [] x a) ≡ Some u) (sym same)
    (then_one a (local [] [] v a) on u comes made)
one_more (suc n) w v u a on is comes made =
    let next : suc n + 1 ≡ suc (n + 1) = omega arith in
    rw next (by (λ s led. one_more n s.world v u a on led comes made) (local [] [] w a) is)
  where
    by : ((s : Step) → unseen n s.world a ≡ Some v → unseen (n + 1) s.world a ≡ Some u) → (step : Option Step) →
        option_and_then (λ s. unseen n s.world a) step ≡ Some v → option_and_then (λ s. unseen (n + 1) s.world a) step ≡ Some u
    by more None led = absurd (cc)
    by more (Some s) led = more s led

-- the local steps end where the next one is none
pub settled_at : (n : ℕ) (w v u : World) (a : ℕ) → unseen n w a ≡ Some v → u ≡ v → is_some (local [] [] u a) ≡ false → IsSettled w a u
settled_at n w v u a led same last = record { steps = n; led = rw same led; last = inr last }

-- or after 1,000,000 of them
pub settled_after : (n : ℕ) (w v u : World) (a : ℕ) → unseen n w a ≡ Some v → u ≡ v → n ≡ max_cost → IsSettled w a u
settled_after n w v u a led same all = record { steps = n; led = rw same led; last = inl all }
