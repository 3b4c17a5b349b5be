-- Local steps of activations, one activation after the other, are a run.
use Rattle.std.proofs.Common.{◌≡◌, ◌++◌, ◌∷◌, [], ℕ, zero, suc, List, Option, Some, None, map, replicate, refl}
use Rattle.std.specs.Prelude.{option_and_then}
use Rattle.std.proofs.lemmas.List.{append-nil}
use Rattle.flt_tree.specs.declared.filter.Filter.{Filter}
use Rattle.flt_model.specs.declared.event.Event.{Event}
use Rattle.flt_model.specs.Effects.{Step}
use Rattle.flt_model.specs.Runs.{Moment, after, next, run_from}
use Rattle.flt_model.specs.Steps.{Local, local}
use Rattle.flt_model.specs.World.{World}
use Rattle.flt_replay_steps.specs.Unseen.{unseen}
use Rattle.flt_explain_waits.specs.Waiting.{AreSettled}

-- local steps have no events
abbrev pub AreSilent : Type 0
AreSilent = (p : List Filter) (m : Moment) (a : ℕ) (s : Step) → next p m (Local a) ≡ Some s → s.events ≡ []

-- the moment of a world and of what happened
abbrev pub at : World → List Event → Moment
at w t = record { world = w; trace = t }

-- local steps of some activations, and then of others, are local steps of all
pub run_then : (p : List Filter) (xs ys : List ℕ) (m r q : Moment) → run_from p m (map Local xs) ≡ Some r →
    run_from p r (map Local ys) ≡ Some q → run_from p m (map Local (xs ++ ys)) ≡ Some q
run_then p [] ys m r q one two = let same : m ≡ r = cc in rw same two
run_then p (x ∷ xs) ys m r q one two = by (λ k one. run_then p xs ys k r q one two) (next p m (Local x)) one
  where
    by : ((k : Moment) → run_from p k (map Local xs) ≡ Some r → run_from p k (map Local (xs ++ ys)) ≡ Some q) → (o : Option Step) →
        option_and_then (λ s. run_from p (after m s) (map Local xs)) o ≡ Some r →
        option_and_then (λ s. run_from p (after m s) (map Local (xs ++ ys))) o ≡ Some q
    by more None one = absurd (cc)
    by more (Some s) one = more (after m s) one

module _ (p : List Filter) (silent : AreSilent) (t : List Event) where
  -- so many local steps of an activation are a run
  unseen_run : (n : ℕ) (w u : World) (a : ℕ) → unseen n w a ≡ Some u → run_from p (at w t) (map Local (replicate n a)) ≡ Some (at u t)
  unseen_run zero w u a led = let same : w ≡ u = cc in rw same refl
  unseen_run (suc n) w u a led = by (λ v led. unseen_run n v u a led) (local [] [] w a) refl led
    where
      by : ((v : World) → unseen n v a ≡ Some u → run_from p (at v t) (map Local (replicate n a)) ≡ Some (at u t)) → (o : Option Step) →
          local [] [] w a ≡ o → option_and_then (λ (s : Step). unseen n s.world a) o ≡ Some u →
          option_and_then (λ (s : Step). run_from p (after (at w t) s) (map Local (replicate n a))) o ≡ Some (at u t)
      by more None is led = absurd (cc)
      by more (Some s) is led =
          let none : s.events ≡ [] = silent p (at w t) a s is in
          let trace : t ++ s.events ≡ t = rw none (append-nil t) in
          rw trace (more s.world led)

  -- so are those of all activations, one after the other
  pub settled_run : (n : ℕ) (w u : World) → AreSettled w n u → (steps : List ℕ) × (run_from p (at w t) (map Local steps) ≡ Some (at u t))
  settled_run zero w u is = ([], rw is refl)
  settled_run (suc a) w u is =
      let before = settled_run a w is.0 is.1 in (
        before.0 ++ replicate is.2.steps a,
        run_then p before.0 (replicate is.2.steps a) (at w t) (at is.0 t) (at u t) before.1 (unseen_run is.2.steps is.0 u a is.2.led),
      )
