-- Why an entry isn't enabled: which condition of its move or step fails, in the world in which it comes. This project's own definitions.
use Rattle.std.specs.Prelude.{ℕ, Bool, ◌||◌, nat_lt, if◌then◌else◌, List, length}
use Rattle.flt_rules.specs.Place.{fits_mode}
use Rattle.flt_rules.specs.declared.place.Mode.{Mode}
use Rattle.flt_rules.specs.declared.place.Operation.{Operation}
use Rattle.flt_tree.specs.declared.filter.Filter.{Filter}
use Rattle.flt_model.specs.declared.moves.Move.{Move}
use Rattle.flt_model.specs.declared.moves.Move.TheVariants as moves
use Rattle.flt_model.specs.Program.{filter_of}
use Rattle.flt_model.specs.declared.parts.Position.{Position}
use Rattle.flt_model.specs.declared.parts.Position.TheVariants.{Down, Visiting, Up}
use Rattle.flt_model.specs.World.{Store, is_detaching, presence_at, route_at}
use Rattle.flt_explain_timeline.specs.declared.refusal.Refusal.{Refusal}
use Rattle.flt_explain_timeline.specs.declared.refusal.Refusal.TheVariants as refusals

-- ---- operations

-- an arrival whose mode fits has no such file
abbrev pub of_arrival : Operation → Mode → Refusal
of_arrival kind mode = if fits_mode kind mode then refusals.NoFile else refusals.IsPacket

-- an operation isn't there, or this
abbrev pub of_operation : Store → ℕ → Refusal → Refusal
of_operation s o why = if nat_lt o (length s.routes) then why else refusals.NoOperation

-- an operation doesn't go down, where there are so many filters: it is elsewhere, or at a filter, which is a reason of its own
abbrev pub of_position : ℕ → Refusal → Position → Refusal
of_position filters own (Down f) = if nat_lt f filters then own else refusals.IsBelow
of_position filters own Visiting = refusals.IsVisited
of_position filters own Up = refusals.GoesUp

-- the same of the operation of a number
abbrev pub of_way_down : List Filter → Store → ℕ → Refusal → Refusal
of_way_down p s o own = of_operation s o (of_position (length p) own (route_at s o).position)

-- no post callback starts: the operation doesn't go up, or has none left
abbrev pub of_way_up : Position → Refusal
of_way_up (Down f) = refusals.GoesDown
of_way_up Visiting = refusals.IsVisited
of_way_up Up = refusals.NoFrame

-- an operation that is there isn't cancelled again, nor when it is done
abbrev pub of_cancel : Store → ℕ → Refusal
of_cancel s o = of_operation s o (if (route_at s o).cancelled then refusals.IsCancelled else refusals.IsDone)

-- ---- filters

-- no entry is taken out: it need not end, or the queue has none
abbrev pub of_canceled : Store → ℕ → ℕ → Refusal
of_canceled s f o =
    of_operation s o (if (route_at s o).cancelled || is_detaching (presence_at s f) then refusals.NoEntry else refusals.NeedNotEnd)

-- a teardown doesn't go on: it hasn't begun or is over, or there is a reason of its own
abbrev pub of_teardown : Store → ℕ → Refusal → Refusal
of_teardown s f begun = if is_detaching (presence_at s f) then begun else refusals.IsNotDetaching

-- a move of the filter of a number
abbrev pub of_filter : Store → ℕ → Move → Refusal
of_filter s f (moves.Canceled altitude o) = of_canceled s f o
of_filter s f (moves.Drain altitude o) = of_teardown s f (of_operation s o refusals.NoFrameOf)
of_filter s f (moves.Unlink altitude key) = of_teardown s f refusals.NoLink
of_filter s f (moves.Detached altitude) = of_teardown s f refusals.IsNotDrained
of_filter s f _ = refusals.IsNotAttached

-- no filter has the altitude, or this
abbrev pub at_altitude : List Filter → Store → ℕ → Move → Refusal
at_altitude p s altitude move =
    if nat_lt (filter_of p altitude) (length p) then of_filter s (filter_of p altitude) move else refusals.NoFilter

-- a work item was never there, or isn't there any more
abbrev pub of_work : Store → ℕ → Refusal
of_work s i = if nat_lt i (length s.items) then refusals.ItemIsTaken else refusals.NoItem

-- ---- all moves

-- why a move isn't enabled
abbrev pub of_move : List Filter → Store → Move → Refusal
of_move p s (moves.Arrive kind mode file) = of_arrival kind mode
of_move p s (moves.Pre o) = of_way_down p s o refusals.HasNoPre
of_move p s (moves.Skip o) = of_way_down p s o refusals.HasPre
of_move p s (moves.Lower o) = of_way_down p s o refusals.IsAbove
of_move p s (moves.Post o) = of_operation s o (of_way_up (route_at s o).position)
of_move p s (moves.Cancel o) = of_cancel s o
of_move p s (moves.Work i) = of_work s i
of_move p s (moves.Canceled altitude o) = at_altitude p s altitude (moves.Canceled altitude o)
of_move p s (moves.Detach altitude) = at_altitude p s altitude (moves.Detach altitude)
of_move p s (moves.Drain altitude o) = at_altitude p s altitude (moves.Drain altitude o)
of_move p s (moves.Unlink altitude key) = at_altitude p s altitude (moves.Unlink altitude key)
of_move p s (moves.Detached altitude) = at_altitude p s altitude (moves.Detached altitude)

-- ---- steps

-- why the last step of an entry isn't enabled with this choice, by whether it is one that nobody else sees
abbrev pub of_step : Bool → Bool → Refusal
of_step is_local grant = if is_local then refusals.IsUnseen else if grant then refusals.IsLocked else refusals.NoChoice
