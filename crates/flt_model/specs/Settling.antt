-- What becomes of an operation when a filter's part in it is over. Source: FLT_PREOP_CALLBACK_STATUS and
-- FLT_POSTOP_CALLBACK_STATUS in the driver kit; how a status goes on that isn't legal is this project's own rule.
use Rattle.std.specs.Prelude.{ℕ, ◌+◌, Bool, true, false, not, ◌&&◌, if◌then◌else◌, List, [], ◌∷◌, ◌++◌, Option, Some, set}
use Rattle.flt_rules.specs.declared.place.Stage.{Stage}
use Rattle.flt_rules.specs.declared.place.Stage.TheVariants as stage
use Rattle.flt_tree.specs.declared.filter.Filter.{Filter}
use Rattle.flt_tree.specs.declared.filter.Status.{Status}
use Rattle.flt_tree.specs.declared.filter.Status.TheVariants as status
use Rattle.flt_model.specs.declared.event.Answer.{Answer}
use Rattle.flt_model.specs.declared.event.Answer.TheVariants.{Returned, CompletesPre, CompletesPost}
use Rattle.flt_model.specs.Program.{callbacks_at, has_post}
use Rattle.flt_model.specs.World.{Completed, Disallowed, Down, Up, Route, Store}
use Rattle.flt_model.specs.World.{visit_at, arrival_of, route_at, is_settled, with_route}
-- where a status leads the operation
pub use Rattle.flt_model.specs.declared.settling.Way.{Way}
-- on to the next filter; there with a frame for the post callback; up from here; on up, after a post callback; nowhere, where the filter
-- keeps the operation
pub use Rattle.flt_model.specs.declared.settling.Way.TheVariants.{Passes, Frames, Ends, Rises, Stays}

-- the status that an answer gives, and whether a callback returned it
abbrev pub given_by : Answer → Option Status
given_by (Returned st) = st
given_by (CompletesPre whose v st) = Some st
given_by (CompletesPost v) = Some status.FinishedProcessing

-- whether a callback returned it
abbrev pub is_returned : Answer → Bool
is_returned (Returned st) = true
is_returned _ = false

-- before the filters below, where the operation has a post callback or not: what isn't a status of its own, a PENDING or
-- DISALLOW_FASTIO that isn't returned, and a WITH_CALLBACK without a post callback go on as NO_CALLBACK
abbrev pub way_before : Bool → Bool → Option Status → Way
way_before post returned (Some (status.WithCallback c)) = if post then Frames else Passes
way_before post returned (Some (status.Synchronize c)) = if post then Frames else Passes
way_before post returned (Some (status.Complete final)) = Ends (Completed final)
way_before post returned (Some status.Pending) = if returned then Stays else Passes
way_before post returned (Some status.DisallowFastIo) = if returned then Ends Disallowed else Passes
way_before post returned _ = Passes

-- after the filters below: all but a returned MORE_PROCESSING_REQUIRED goes on as FINISHED_PROCESSING
abbrev pub way_after : Bool → Option Status → Way
way_after returned (Some status.MoreProcessingRequired) = if returned then Stays else Rises
way_after returned _ = Rises

-- by the stage of the visit
abbrev pub way_by : Bool → Stage → Bool → Option Status → Way
way_by post stage.Pre returned st = way_before post returned st
way_by post stage.Post returned st = way_after returned st

-- where an answer leads the operation of a visit
abbrev pub way_of : List Filter → Store → ℕ → Answer → Way
way_of p s v answer =
    let visit = visit_at s v in
    way_by (has_post (callbacks_at p visit.filter) (arrival_of s v).kind) visit.stage (is_returned answer) (given_by answer)

-- whether the filter's part is over
abbrev pub settles_visit : Way → Bool
settles_visit Stays = false
settles_visit _ = true

-- whether the post callback will be called
abbrev pub asks_for_frame : Way → Bool
asks_for_frame Frames = true
asks_for_frame _ = false

-- the operation's route, led so from a filter, with this context for the frame
abbrev pub led : ℕ → Option ℕ → Way → Route → Route
led f x Passes r = record r { position = Down (f + 1) }
led f x Frames r = record r { position = Down (f + 1); frames = r.frames ++ record { filter = f; context = x } ∷ [] }
led f x (Ends outcome) r = record r { position = Up; outcome = Some outcome }
led f x Rises r = record r { position = Up }
led f x Stays r = r

-- whether the visit's operation is led: a visit that is settled moves nothing, nor does a draining one
abbrev pub is_led : Store → ℕ → Bool
is_led s v = not (is_settled s v) && not (visit_at s v).draining

-- whether a frame is made, which takes the context over
abbrev pub makes_frame : Store → ℕ → Way → Bool
makes_frame s v way = asks_for_frame way && is_led s v

-- the operation goes on, where the visit still moves it
abbrev pub lead : Store → ℕ → Option ℕ → Way → Store
lead s v x way =
    let visit = visit_at s v in
    if is_led s v then with_route s visit.operation (led visit.filter x way (route_at s visit.operation)) else s

-- the visit is settled and its operation led
abbrev pub settled_by : Store → ℕ → Option ℕ → Way → Store
settled_by s v x way =
    let next_store = lead s v x way in
    if settles_visit way then record next_store { settled = set next_store.settled v true } else s
