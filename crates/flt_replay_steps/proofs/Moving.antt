-- Moves that take something out first and then start a callback with it, and scans that are through.
use Rattle.std.proofs.Common.{◌≡◌, ℕ, ◌≤◌, Bool, true, false, List, [], ◌∷◌, Some, length, drop, find, refl}
use Rattle.std.proofs.lemmas.List.{drop_all}
use Rattle.flt_tree.specs.declared.filter.Filter.{Filter}
use Rattle.flt_model.specs.declared.event.Event.{Event}
use Rattle.flt_model.specs.Moves.{post_by, last_frame, without_last, are_settled, has_active, drain_by, is_frame_of, other_frames}
use Rattle.flt_model.specs.declared.parts.Position.TheVariants.{Visiting}
use Rattle.flt_model.specs.World.{World, Activation, Actor, Frame, Visit, route_at, with_route}
use Rattle.flt_replay_steps.specs.Starting.{starts_post}
use Rattle.flt_replay_world.specs.Happening.{Happened, ComesOf}

nothing_kept : (o : ℕ) (visits : List Visit) → are_settled o visits [] ≡ true
nothing_kept o [] = refl
nothing_kept o (v ∷ visits) = refl

pub settled_past : (o : ℕ) (visits : List Visit) (settled : List Bool) (n : ℕ) → length settled ≤ n →
    are_settled o (drop n visits) (drop n settled) ≡ true
settled_past o visits settled n h = rw (drop_all n settled h) (nothing_kept o (drop n visits))

none_active : (f : ℕ) (actors : List Actor) → has_active f actors [] ≡ false
none_active f [] = refl
none_active f (a ∷ actors) = refl

-- past the last activation none of a filter is active
pub active_past : (f : ℕ) (actors : List Actor) (acts : List Activation) (n : ℕ) → length acts ≤ n →
    has_active f (drop n actors) (drop n acts) ≡ false
active_past f actors acts n h = rw (drop_all n acts h) (none_active f (drop n actors))

-- ---- a callback that starts with what was taken out

module _ (p : List Filter) (w after later : World) (o : ℕ) (frame : Frame) (earlier events : List Event) where
  abbrev frames : List Frame
  frames = (route_at w.store o).frames

  -- a post callback starts with the last frame of its operation, which is taken out
  pub post_happens : last_frame frames ≡ Some frame →
      after ≡ record w {
        store = with_route w.store o
            (record (route_at w.store o) { position = Visiting; frames = without_last frames });
      } →
      Happened later earlier events (starts_post p after o frame false) →
      ComesOf (post_by p w o (route_at w.store o) (last_frame frames)) true later earlier events
  post_happens last is h = rw last (refl, (rw is at h))

  -- a draining callback starts with the frame of its filter, which is taken out
  pub drain_happens : (f : ℕ) → find (is_frame_of f) frames ≡ Some frame →
      after ≡ record w { store = with_route w.store o (record (route_at w.store o) { frames = other_frames f frames }) } →
      Happened later earlier events (starts_post p after o frame true) →
      ComesOf (drain_by p w f o (find (is_frame_of f) frames)) true later earlier events
  drain_happens f first is h = rw first (refl, (rw is at h))
