-- The walk over the points of a callback, and the order in which it goes. The order decides only which fault is named. This
-- project's own definitions.
use Rattle.std.specs.Prelude.{◌≡◌, ℕ, zero, suc, ◌<◌, true, false, List, [], ◌∷◌, length, if◌then◌else◌}
use Rattle.std.specs.Prelude.{nat_lt, Option, Some, None, Result, Ok, Err, slice_set, slice_index_or}
use Rattle.flt_rules.specs.Held.{same_locks}
use Rattle.flt_rules.specs.declared.rule.Rule.{Rule}
use Rattle.flt_rules.specs.declared.rule.Rule.TheVariants.{R12, R14}
use Rattle.flt_graph.specs.Graph.{place_at, points_at, line_at}
use Rattle.flt_graph.specs.declared.graph.Graph.{Graph}
use Rattle.flt_abs.specs.Entry.{entry}
use Rattle.flt_abs.specs.State.{State, is_below, join_of}
use Rattle.flt_abs.specs.Step.{transfer}
use Rattle.flt_abs.specs.declared.step.Successor.{Successor}
use Rattle.flt_abs.specs.declared.step.Successors.{Successors}
use Rattle.flt_cert.specs.Format.{Point}
use Rattle.flt_rules.specs.declared.refusal.Refusal.{Refusal}
use Rattle.flt_analyse.specs.Pending.{least, no_flags}
use Rattle.flt_analyse.specs.declared.walk.Walk.{Walk}

-- ---- a state leads to a point

-- the point has this state from now on, and is pending
abbrev pub arrived : Walk → ℕ → State → Walk
arrived w point x = record { points = slice_set w.points point (Some x); pending = slice_set w.pending point true }

-- a state is joined to what was found at its point, unless it is below that already; with other locks it can't be
abbrev pub reach_at : Walk → Successor → Option State → Result Walk Rule
reach_at w next None = Ok (arrived w next.point next.state)
reach_at w next (Some y) =
    if is_below next.state y then Ok w
    else (if same_locks y.locks next.state.locks then Ok (arrived w next.point (join_of y next.state)) else Err R12)

-- a point that isn't there is never covered
abbrev pub reach : Walk → Option Successor → Result Walk Rule
reach w (Some next) = if nat_lt next.point (length w.points) then reach_at w next (slice_index_or w.points next.point None) else Err R14
reach w None = Ok w

abbrev pub then_reach : Result Walk Rule → Option Successor → Result Walk Rule
then_reach (Ok w) next = reach w next
then_reach (Err r) next = Err r

-- ---- a point is looked at

-- the side on which a call succeeds or a test holds comes first; where a rule fires nothing is reached
abbrev pub spread : Walk → Result Successors Rule → Result Walk Rule
spread w (Ok next) = then_reach (reach w next.first) next.second
spread w (Err r) = Err r

abbrev pub outcome_at : Graph → ℕ → ℕ → Option State → Result Successors Rule
outcome_at g callback point (Some x) = transfer g callback point x
outcome_at g callback point None = Ok (record { first = None; second = None })

abbrev pub look : Graph → ℕ → ℕ → Walk → Result Walk Rule
look g callback point w = spread w (outcome_at g callback point (slice_index_or w.points point None))

-- the point is no longer pending
abbrev pub taken : Walk → ℕ → Walk
taken w point = record { points = w.points; pending = slice_set w.pending point false }

-- ---- the walk

-- so many points, none of them reached
abbrev pub nones : ℕ → List Point
nones zero = []
nones (suc n) = None ∷ nones n

-- the callback is entered, and its first point is pending
abbrev pub opening : Graph → ℕ → Walk
opening g callback = record {
  points = slice_set (nones (points_at g callback)) 0 (Some (entry (place_at g callback)));
  pending = slice_set (no_flags 512) 0 true;
}

-- a walk leads to another by so many looks, each at the least point that is pending
abbrev pub Leads : Graph → ℕ → ℕ → Walk → Walk → Type 0
Leads g callback zero a b = a ≡ b
Leads g callback (suc n) a b =
    (w : Walk) × Leads g callback n a w × (point : ℕ) × (least w.pending ≡ Some point) × (look g callback point (taken w point) ≡ Ok b)

-- the walk of a callback comes to its end: no point is pending any more
pub record Ends (g : Graph) (callback : ℕ) : Type 0 where
  pub looks : ℕ
  pub last : Walk
  pub led : Leads g callback looks (opening g callback) last
  pub none : least last.pending ≡ None

-- the walk of a callback stops where it looks at a point: the first rule that fires, or lock lists that differ
pub record Stops (g : Graph) (callback point : ℕ) (rule : Rule) : Type 0 where
  pub looks : ℕ
  pub last : Walk
  pub led : Leads g callback looks (opening g callback) last
  pub taken_next : least last.pending ≡ Some point
  pub stopped : look g callback point (taken last point) ≡ Err rule

-- the first fault that the walks meet, callback by callback
pub record IsFirstFault (g : Graph) (f : Refusal) : Type 0 where
  pub callback : f.callback < length g.callbacks
  pub line : f.line ≡ line_at g f.callback f.point
  pub stops : Stops g f.callback f.point f.rule
  pub earlier : (c : ℕ) → c < f.callback → Ends g c
