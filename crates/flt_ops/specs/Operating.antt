-- What operations are, and what each call makes of them, in the machine's own words.
use Rattle.std.specs.Prelude.{◌≡◌, ℕ, ◌+◌, Bool, true, false, not, nat_lt, if◌then◌else◌, List, [], length, Option, Some, None, MatchOption}
use Rattle.flt_rules.specs.declared.place.Stage.TheVariants as stage
use Rattle.flt_model.specs.Moves as moves
use Rattle.flt_model.specs.declared.parts.Arrival.{Arrival}
use Rattle.flt_model.specs.declared.parts.Position.{Position}
use Rattle.flt_model.specs.declared.parts.Position.TheVariants.{Down, Visiting, Up}
use Rattle.flt_model.specs.World.{Frame, Route, Store, Visit, route_at, with_route}
use Rattle.flt_ops.specs.declared.parts.CallbackStart.{CallbackStart}

-- the parts of the machine's store that are of operations, and how many filters there are
pub record Operating : Type 0 where
  pub filters : ℕ
  pub arrivals : List Arrival
  pub routes : List Route
  pub visits : List Visit
  pub settled : List Bool

-- a store with these operations and nothing else
abbrev pub store_of : Operating → Store
store_of ops = record {
  presences = [];
  queues = [];
  holders = [];
  arrivals = ops.arrivals;
  routes = ops.routes;
  visits = ops.visits;
  settled = ops.settled;
  contexts = [];
  items = [];
}

-- the operations after a change of the store
abbrev pub after : (Store → Store) → Operating → Operating
after change ops =
    let s = change (store_of ops) in
    record ops { arrivals = s.arrivals; routes = s.routes; visits = s.visits; settled = s.settled }

-- none has arrived
abbrev pub no_operations : ℕ → Operating
no_operations n = record { filters = n; arrivals = []; routes = []; visits = []; settled = [] }

-- how far the operation of a number has come
abbrev pub route_of : Operating → ℕ → Route
route_of ops o = route_at (store_of ops) o

-- ---- what is at a position

-- the filter that it is at on its way down, of so many
abbrev pub filter_in : ℕ → Position → Option ℕ
filter_in n (Down f) = if nat_lt f n then Some f else None
filter_in n Visiting = None
filter_in n Up = None

-- whether it is below the last filter
abbrev pub is_below : ℕ → Position → Bool
is_below n (Down f) = not (nat_lt f n)
is_below n Visiting = false
is_below n Up = false

-- the frame whose post callback is next, on the way up alone
abbrev pub frame_in : List Frame → Position → Option Frame
frame_in frames (Down f) = None
frame_in frames Visiting = None
frame_in frames Up = moves.last_frame frames

-- the filter that an operation is at on its way down
abbrev pub filter_at : Operating → ℕ → Option ℕ
filter_at ops o = filter_in ops.filters (route_of ops o).position

-- whether an operation is below the last filter
abbrev pub is_past_filters : Operating → ℕ → Bool
is_past_filters ops o = is_below ops.filters (route_of ops o).position

-- the frame of an operation whose post callback is next
abbrev pub frame_at : Operating → ℕ → Option Frame
frame_at ops o = frame_in (route_of ops o).frames (route_of ops o).position

-- ---- what the calls make of a store

-- the operation is in a visit of the filter before those below it
abbrev pub in_pre_visit : ℕ → ℕ → Store → Store
in_pre_visit o f s =
    moves.with_visit (with_route s o (record (route_at s o) { position = Visiting }))
    (record { operation = o; filter = f; stage = stage.Pre; draining = false })

-- the operation passes the filter
abbrev pub past_filter : ℕ → ℕ → Store → Store
past_filter o f s = with_route s o (record (route_at s o) { position = Down (f + 1) })

-- the operation is carried out below the last filter
abbrev pub lowered : ℕ → Store → Store
lowered o s = with_route s o (moves.carried_out (route_at s o))

-- the last frame is removed, and the operation is in a visit of its filter after those below it
abbrev pub in_post_visit : ℕ → Frame → Store → Store
in_post_visit o frame s =
    let route = route_at s o in
    moves.with_visit (with_route s o (record route { position = Visiting; frames = moves.without_last route.frames }))
    (record { operation = o; filter = frame.filter; stage = stage.Post; draining = false })

-- the first frame of its filter is removed, and a draining visit of it begins; the operation stays where it is
abbrev pub in_draining_visit : ℕ → Frame → Store → Store
in_draining_visit o frame s =
    let route = route_at s o in
    moves.with_visit (with_route s o (record route { frames = moves.other_frames frame.filter route.frames }))
    (record { operation = o; filter = frame.filter; stage = stage.Post; draining = true })

-- the operation is cancelled
abbrev pub with_cancel : ℕ → Store → Store
with_cancel o s = with_route s o (record (route_at s o) { cancelled = true })

-- ---- what a call answers that starts a post callback

-- where a frame is next, its callback starts with a new visit, and the operations change so; else nothing does
abbrev pub IsStarted : Operating → Option Frame → (Frame → Store → Store) → Option CallbackStart → Operating → Type 0
IsStarted old next change started new =
    MatchOption next ((started ≡ None) × (new ≡ old))
    (λ frame. (started ≡ Some (record { visit = length old.visits; filter = frame.filter; context = frame.context }))
    × (new ≡ after (change frame) old))
