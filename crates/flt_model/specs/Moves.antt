-- The moves of the filter manager and of worker threads: when each is enabled, and what it does.
-- Source: the driver kit's pages on pre- and postoperation callbacks, cancel-safe queues, work items and teardown.
use Rattle.std.specs.Prelude.{ℕ, ◌+◌, Bool, true, false, not, ◌&&◌, ◌||◌, ◌==◌, nat_lt, if◌then◌else◌}
use Rattle.std.specs.Prelude.{List, [], ◌∷◌, ◌++◌, length, Option, Some, None, set, find}
use Rattle.std.specs.List.{list_any, before_first, after_first}
use Rattle.flt_rules.specs.Place.{fits_mode}
use Rattle.flt_rules.specs.declared.place.Mode.{Mode}
use Rattle.flt_rules.specs.declared.place.Mode.TheVariants.{Fast}
use Rattle.flt_rules.specs.declared.place.Operation.{Operation}
use Rattle.flt_rules.specs.declared.place.Place.TheVariants as place
use Rattle.flt_rules.specs.declared.place.Stage.TheVariants as stage
use Rattle.flt_rules.specs.declared.status.FinalStatus.TheVariants.{Success}
use Rattle.flt_tree.specs.declared.filter.Filter.{Filter}
use Rattle.flt_tree.specs.declared.filter.Statement.{Statement}
use Rattle.flt_model.specs.declared.event.Event.{Event}
use Rattle.flt_model.specs.declared.event.Event.TheVariants as event
use Rattle.flt_model.specs.declared.event.Object.TheVariants as object
use Rattle.flt_model.specs.declared.moves.Key.{Key}
use Rattle.flt_model.specs.declared.moves.Move.{Move}
use Rattle.flt_model.specs.declared.moves.Move.TheVariants.{Arrive, Pre, Skip, Lower, Post, Cancel, Canceled}
use Rattle.flt_model.specs.declared.moves.Move.TheVariants.{Work, Detach, Drain, Unlink, Detached}
use Rattle.flt_model.specs.Effects.{Step, gains_context, freed_by_drop, after_unlink}
use Rattle.flt_model.specs.Program.{callbacks_at, filter_of, has_pre, is_pre_of, is_post_of, is_canceled, body_for, body_at, place_at}
use Rattle.flt_model.specs.Variables.{starting}
use Rattle.flt_model.specs.World as world
use Rattle.flt_model.specs.World.{World, Store, Actor, Activation, Arrival, Completed, Context, Down, Entry, Frame, Item, Link, Position}
use Rattle.flt_model.specs.World.{Route, Up, Visit, Visiting, is_attached, is_detaching, presence_at, queue_at, arrival_at, route_at}
use Rattle.flt_model.specs.World.{visit_at, item_at, linked_at, is_linked_to, with_route, with_queue, with_presence}

-- ---- parts

-- the step that makes a world of this store, where no activation starts
abbrev pub stores : World → Store → List Event → Step
stores w s events = record { world = record w { store = s }; events = events }

-- a visit that may be there is gained
abbrev pub gains_visit : ℕ → Option ℕ → List Event
gains_visit a None = []
gains_visit a (Some v) = event.Gain a (object.Visit v) ∷ []

-- a new activation gains what it is given
abbrev pub starts : World → Store → Actor → List Statement → Option ℕ → Option ℕ → Step
starts w s actor body given arg = record {
  world = record {
    actors = w.actors ++ actor ∷ [];
    activations = w.activations ++ starting body given arg ∷ [];
    store = s;
  };
  events = gains_visit (length w.activations) given ++ gains_context (length w.activations) arg;
}

-- a new visit of an operation
abbrev pub with_visit : Store → Visit → Store
with_visit s visit = record s { visits = s.visits ++ visit ∷ []; settled = s.settled ++ false ∷ [] }

-- ---- operations arrive, go down and up, and are cancelled

-- one more operation, at the highest filter
abbrev pub with_arrival : Store → Arrival → Store
with_arrival s arrival = record s {
  arrivals = s.arrivals ++ arrival ∷ [];
  routes = s.routes ++ record { position = Down 0; frames = []; cancelled = false; outcome = None } ∷ [];
}

-- an operation arrives; there are 1,024 files
abbrev pub arrive : World → Operation → Mode → ℕ → Option Step
arrive w kind mode file =
    if fits_mode kind mode && nat_lt file 1024
    then Some (stores w (with_arrival w.store (record { kind = kind; mode = mode; file = file })) [])
    else None

-- the filter is there, with a pre callback of the operation
abbrev pub calls_pre : List Filter → Store → ℕ → Operation → Bool
calls_pre p s f kind = is_attached (presence_at s f) && has_pre (callbacks_at p f) kind

-- its visit, and the callback
abbrev pub pre_of : List Filter → World → ℕ → Operation → ℕ → Step
pre_of p w o kind f =
    let visiting = with_route w.store o (record (route_at w.store o) { position = Visiting }) in
    let visit : Visit = record { operation = o; filter = f; stage = stage.Pre; draining = false } in
    starts w (with_visit visiting visit) (record { filter = f; place = place.Pre kind; draining = false })
    (body_for (is_pre_of kind) (callbacks_at p f)) (Some (length w.store.visits)) None

-- the pre callback starts, where the operation is down at such a filter
abbrev pub pre_at : List Filter → World → ℕ → Operation → Position → Option Step
pre_at p w o kind (Down f) =
    if nat_lt f (length p) && calls_pre p w.store f kind then Some (pre_of p w o kind f) else None
pre_at p w o kind _ = None

-- a filter that isn't, or has none, is passed
abbrev pub skip_at : List Filter → World → ℕ → Operation → Position → Option Step
skip_at p w o kind (Down f) =
    if nat_lt f (length p) && not (calls_pre p w.store f kind)
    then Some (stores w (with_route w.store o (record (route_at w.store o) { position = Down (f + 1) })) [])
    else None
skip_at p w o kind _ = None

-- below the last filter the operation is carried out
abbrev pub carried_out : Route → Route
carried_out route = record route { position = Up; outcome = Some (Completed Success) }

-- it is carried out where it is down past the last filter
abbrev pub lower_at : List Filter → World → ℕ → Position → Option Step
lower_at p w o (Down f) =
    if nat_lt f (length p) then None else Some (stores w (with_route w.store o (carried_out (route_at w.store o))) [])
lower_at p w o _ = None

-- all frames but the last, and the last
abbrev pub without_last : List Frame → List Frame
without_last [] = []
without_last (f ∷ []) = []
without_last (f ∷ g ∷ frames) = f ∷ without_last (g ∷ frames)

-- the frame of the lowest filter
abbrev pub last_frame : List Frame → Option Frame
last_frame [] = None
last_frame (f ∷ []) = Some f
last_frame (f ∷ g ∷ frames) = last_frame (g ∷ frames)

-- the post callback of a frame, whose visit is settled on the way up or only drains
abbrev pub post_of : List Filter → World → ℕ → Frame → Bool → Route → Step
post_of p w o frame draining route =
    let kind = (arrival_at w.store o).kind in
    let visit : Visit = record { operation = o; filter = frame.filter; stage = stage.Post; draining = draining } in
    starts w (with_visit (with_route w.store o route) visit)
    (record { filter = frame.filter; place = place.Post kind; draining = draining })
    (body_for (is_post_of kind) (callbacks_at p frame.filter)) (Some (length w.store.visits)) frame.context

-- the post callback starts, where a frame is left
abbrev pub post_by : List Filter → World → ℕ → Route → Option Frame → Option Step
post_by p w o route None = None
post_by p w o route (Some frame) =
    Some (post_of p w o frame false (record route { position = Visiting; frames = without_last route.frames }))

-- the operation must be on its way up
abbrev pub post_at : List Filter → World → ℕ → Route → Position → Option Step
post_at p w o route Up = post_by p w o route (last_frame route.frames)
post_at p w o route _ = None

-- on its way up
abbrev pub is_up : Position → Bool
is_up Up = true
is_up _ = false

-- whether nothing is there
abbrev pub is_empty : {A : Type 0} → List A → Bool
is_empty [] = true
is_empty (x ∷ xs) = false

-- all visits of the operation are settled
abbrev pub are_settled : ℕ → List Visit → List Bool → Bool
are_settled o [] settled = true
are_settled o (visit ∷ visits) [] = true
are_settled o (visit ∷ visits) (b ∷ settled) = (b || not (visit.operation == o)) && are_settled o visits settled

-- it is up, has no frame, and no filter keeps it
abbrev pub is_done : Store → ℕ → Bool
is_done s o = is_up (route_at s o).position && is_empty (route_at s o).frames && are_settled o s.visits s.settled

-- an operation is cancelled once, and not when it is done
abbrev pub cancel : World → ℕ → Option Step
cancel w o =
    if is_done w.store o || (route_at w.store o).cancelled
    then None
    else Some (stores w (with_route w.store o (record (route_at w.store o) { cancelled = true })) [])

-- ---- the callbacks of cancelled entries and of work items

-- whether an entry is of the operation
abbrev pub is_entry_of : Store → ℕ → Entry → Bool
is_entry_of s o e = (visit_at s e.visit).operation == o

-- the queue without its first entry of an operation
abbrev pub other_entries : Store → ℕ → List Entry → List Entry
other_entries s o queue = before_first (is_entry_of s o) queue ++ after_first (is_entry_of s o) queue

-- the entry is removed, and CompleteCanceledIo starts with it
abbrev pub canceled_by : List Filter → World → ℕ → ℕ → Option Entry → Option Step
canceled_by p w f o None = None
canceled_by p w f o (Some e) =
    let removed = with_queue w.store f (other_entries w.store o (queue_at w.store f)) in
    Some (starts w removed (record { filter = f; place = place.Canceled; draining = false })
    (body_for is_canceled (callbacks_at p f)) (Some e.visit) e.context)

-- the first entry of an operation that is cancelled, or of a filter that is being detached
abbrev pub canceled : List Filter → World → ℕ → ℕ → Option Step
canceled p w f o =
    if (route_at w.store o).cancelled || is_detaching (presence_at w.store f)
    then canceled_by p w f o (find (is_entry_of w.store o) (queue_at w.store f))
    else None

-- the item is removed, and its routine starts
abbrev pub work_of : List Filter → World → ℕ → Item → Step
work_of p w i item =
    let cs = callbacks_at p item.filter in
    starts w (record w.store { items = set w.store.items i None })
    (record { filter = item.filter; place = place_at cs item.routine; draining = false })
    (body_at cs item.routine) item.visit item.context

-- only where the item is there
abbrev pub work_by : List Filter → World → ℕ → Option Item → Option Step
work_by p w i None = None
work_by p w i (Some item) = Some (work_of p w i item)

-- ---- teardown of a filter's instance

-- a filter is detached once
abbrev pub detach : World → ℕ → Option Step
detach w f =
    if is_attached (presence_at w.store f) then Some (stores w (with_presence w.store f world.Detaching) []) else None

-- whether a frame is of the filter
abbrev pub is_frame_of : ℕ → Frame → Bool
is_frame_of f frame = frame.filter == f

-- the frames without the first of a filter
abbrev pub other_frames : ℕ → List Frame → List Frame
other_frames f frames = before_first (is_frame_of f) frames ++ after_first (is_frame_of f) frames

-- the frame is removed, and its post callback starts with the draining flag
abbrev pub drain_by : List Filter → World → ℕ → ℕ → Option Frame → Option Step
drain_by p w f o None = None
drain_by p w f o (Some frame) =
    let route = route_at w.store o in
    Some (post_of p w o frame true (record route { frames = other_frames f route.frames }))

-- the first frame of the filter; the operation stays where it is
abbrev pub drain : List Filter → World → ℕ → ℕ → Option Step
drain p w f o =
    if is_detaching (presence_at w.store f)
    then drain_by p w f o (find (is_frame_of f) (route_at w.store o).frames)
    else None

-- only where the link is there
abbrev pub unlink_by : World → Option ℕ → Option Step
unlink_by w None = None
unlink_by w (Some x) = Some (stores w (after_unlink w.store x None) (freed_by_drop w.store x))

-- the link goes, and its reference
abbrev pub unlink : World → ℕ → Key → Option Step
unlink w f key =
    if is_detaching (presence_at w.store f) then unlink_by w (linked_at w.store (record { filter = f; key = key })) else None

-- nothing of the filter is left: no frame, entry, item, link or activation
abbrev pub has_frame : ℕ → Route → Bool
has_frame f route = list_any (is_frame_of f) route.frames

-- whether a work item is of the filter
abbrev pub is_item_of : ℕ → Option Item → Bool
is_item_of f None = false
is_item_of f (Some item) = item.filter == f

-- whether the filter made the link
abbrev pub is_linked_by : ℕ → Option Link → Bool
is_linked_by f None = false
is_linked_by f (Some l) = l.filter == f

-- whether an activation of the filter goes on
abbrev pub has_active : ℕ → List Actor → List Activation → Bool
has_active f [] acts = false
has_active f (actor ∷ actors) [] = false
has_active f (actor ∷ actors) (act ∷ acts) = ((actor.filter == f) && not act.ended) || has_active f actors acts

-- nothing of the filter is left
abbrev pub is_drained : World → ℕ → Bool
is_drained w f =
    not (list_any (has_frame f) w.store.routes)
    && is_empty (queue_at w.store f)
    && not (list_any (is_item_of f) w.store.items)
    && not (list_any (λ (c : Context). is_linked_by f c.link) w.store.contexts)
    && not (has_active f w.actors w.activations)

-- teardown ends
abbrev pub detached : World → ℕ → Option Step
detached w f =
    if is_detaching (presence_at w.store f) && is_drained w f
    then Some (stores w (with_presence w.store f world.Detached) [])
    else None

-- ---- one move

-- each move by its name; a filter by its altitude
abbrev pub make : List Filter → World → Move → Option Step
make p w (Arrive kind mode file) = arrive w kind mode file
make p w (Pre o) = pre_at p w o (arrival_at w.store o).kind (route_at w.store o).position
make p w (Skip o) = skip_at p w o (arrival_at w.store o).kind (route_at w.store o).position
make p w (Lower o) = lower_at p w o (route_at w.store o).position
make p w (Post o) = post_at p w o (route_at w.store o) (route_at w.store o).position
make p w (Cancel o) = cancel w o
make p w (Canceled altitude o) = canceled p w (filter_of p altitude) o
make p w (Work i) = work_by p w i (item_at w.store i)
make p w (Detach altitude) = detach w (filter_of p altitude)
make p w (Drain altitude o) = drain p w (filter_of p altitude) o
make p w (Unlink altitude key) = unlink w (filter_of p altitude) key
make p w (Detached altitude) = detached w (filter_of p altitude)
