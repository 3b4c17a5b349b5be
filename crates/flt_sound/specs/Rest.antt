-- What a filter leaves behind once its teardown has ended: nothing.
use Rattle.std.specs.Prelude.{◌≡◌, ℕ, ◌<◌, true, List, [], length, Some, get_or}
use Rattle.flt_tree.specs.declared.filter.Filter.{Filter}
use Rattle.flt_model.specs.Moves.{is_drained}
use Rattle.flt_model.specs.Runs.{Moment, run, run_from}
use Rattle.flt_model.specs.Steps.{Transition}
use Rattle.flt_model.specs.declared.parts.Presence.TheVariants.{Detached}
use Rattle.flt_model.specs.World.{World, presence_at, holders_at, visit_at, context_at, is_settled, is_freed}
use Rattle.flt_sound.specs.Soundness.{AreAccepted}

-- nothing of a filter is left in the world
pub record IsGone (w : World) (f : ℕ) : Type 0 where
  -- no frame, no entry in its queue, no work item, no link, and no activation of it that goes on
  pub drained : is_drained w f ≡ true
  -- nobody holds a lock of it
  pub unlocked : (n : ℕ) → get_or (holders_at w.store f) n [] ≡ []
  -- each of its visits is settled
  pub settled : (v : ℕ) → v < length w.store.visits → (visit_at w.store v).filter ≡ f → is_settled w.store v ≡ true
  -- each context that it allocated is freed
  pub freed : (x : ℕ) → x < length w.store.contexts → (context_at w.store x).owner ≡ f → is_freed (context_at w.store x) ≡ true

-- Unloading leaks nothing: from the moment on at which a filter's teardown has ended, nothing of it is left, at that moment and at each
-- later one, whatever the other filters and the system do.
abbrev pub UnloadingLeaksNothing : Type 0
UnloadingLeaksNothing = (filters : List Filter) (transitions more : List Transition) (m later : Moment) (f : ℕ) → AreAccepted filters →
    run filters transitions ≡ Some m → presence_at m.world.store f ≡ Detached → run_from filters m more ≡ Some later → IsGone later.world f
