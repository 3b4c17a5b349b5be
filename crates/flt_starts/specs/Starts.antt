-- Which callback a transition starts. This project's own definitions, over the moves of the machine.
use Rattle.std.specs.Prelude.{◌≡◌, ◌≢◌, ℕ, Bool, List, [], ◌∷◌, ◌++◌, Option, Some, None, option_map, find}
use Rattle.flt_rules.specs.declared.place.Operation.{Operation}
use Rattle.flt_tree.specs.Registered.{is_pre_of, is_post_of}
use Rattle.flt_tree.specs.declared.filter.Callback.{Callback}
use Rattle.flt_tree.specs.declared.filter.Filter.{Filter}
use Rattle.flt_tree.specs.declared.filter.Head.{Head}
use Rattle.flt_model.specs.declared.moves.Move.{Move}
use Rattle.flt_model.specs.declared.moves.Move.TheVariants.{Pre, Post, Canceled, Work, Drain}
use Rattle.flt_model.specs.Effects.{Step}
use Rattle.flt_model.specs.Moves.{is_frame_of, last_frame}
use Rattle.flt_model.specs.Program.{callbacks_at, filter_of, is_canceled, body_at}
use Rattle.flt_model.specs.Runs.{Moment, next, run}
use Rattle.flt_model.specs.Steps.{Transition, Make}
use Rattle.flt_model.specs.declared.parts.Item.{Item}
use Rattle.flt_model.specs.declared.parts.Position.{Position}
use Rattle.flt_model.specs.declared.parts.Position.TheVariants.{Down}
use Rattle.flt_model.specs.World.{World, Actor, Activation, Frame, arrival_at, item_at, route_at}
use Rattle.flt_starts.specs.Closed.{number_for}

-- a callback of a filter, each by its number
pub record Callee : Type 0 where
  pub filter : ℕ
  pub callback : ℕ

-- the routine of a work item
abbrev pub item_callee : Item → Callee
item_callee item = record { filter = item.filter; callback = item.routine }

module _ (p : List Filter) where
  -- the first callback of a filter whose head passes
  abbrev pub callee : (Head → Bool) → ℕ → Callee
  callee test f = record { filter = f; callback = number_for test (callbacks_at p f) }

  -- the pre callback of the filter at which an operation is down
  abbrev pub pre_callee : Operation → Position → Option Callee
  pre_callee kind (Down f) = Some (callee (is_pre_of kind) f)
  pre_callee kind _ = None

  -- the post callback of a frame
  abbrev pub post_callee : Operation → Frame → Callee
  post_callee kind frame = callee (is_post_of kind) frame.filter

  -- the callback that a move starts, where it is enabled
  abbrev pub started_by : World → Move → Option Callee
  started_by w (Pre o) = pre_callee (arrival_at w.store o).kind (route_at w.store o).position
  started_by w (Post o) = option_map (post_callee (arrival_at w.store o).kind) (last_frame (route_at w.store o).frames)
  started_by w (Drain altitude o) =
      option_map (post_callee (arrival_at w.store o).kind) (find (is_frame_of (filter_of p altitude)) (route_at w.store o).frames)
  started_by w (Canceled altitude o) = Some (callee is_canceled (filter_of p altitude))
  started_by w (Work i) = option_map item_callee (item_at w.store i)
  started_by w _ = None

-- the callback that a transition starts: steps of activations start none
abbrev pub starts_callback : List Filter → World → Transition → Option Callee
starts_callback p w (Make move) = started_by p w move
starts_callback p w _ = None

-- there is one activation more, which is in this callback: all of its body is to come
pub record Starts (p : List Filter) (c : Callee) (before later : World) : Type 0 where
  pub actor : Actor
  pub act : Activation
  pub actors_are : later.actors ≡ before.actors ++ actor ∷ []
  pub activations_are : later.activations ≡ before.activations ++ act ∷ []
  pub filter_is : actor.filter ≡ c.filter
  pub body_is : act.rest ≡ body_at (callbacks_at p c.filter) c.callback

-- in no run of filters does this callback start of one that has these callbacks, whatever the run breaks and whatever the others are
abbrev pub NeverStarts : List Callback → ℕ → Type 0
NeverStarts cs k =
    (p : List Filter) (f : ℕ) (xs : List Transition) (m : Moment) (x : Transition) (s : Step) → callbacks_at p f ≡ cs → run p xs ≡ Some m →
    next p m x ≡ Some s → starts_callback p m.world x ≢ Some (record { filter = f; callback = k })
