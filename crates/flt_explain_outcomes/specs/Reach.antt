-- What runs can't reach in a filter's text: what stands behind calls that never succeed, and in callbacks that nothing starts. This
-- project's own definitions.
use Rattle.std.specs.Prelude.{◌≡◌, ℕ, ◌<◌, Bool, true, false, not, ◌&&◌, ◌||◌, List, [], length, Some, slice_index_or}
use Rattle.flt_rules.specs.declared.rule.Rule.{Rule}
use Rattle.flt_tree.specs.declared.variable.ContextVariable.{ContextVariable}
use Rattle.flt_tree.specs.declared.variable.ContextVariable.TheVariants.{Arg}
use Rattle.flt_graph.specs.Graph.{place_at, instruction_at, points_at}
use Rattle.flt_graph.specs.Points.{successor}
use Rattle.flt_graph.specs.declared.graph.Graph.{Graph}
use Rattle.flt_graph.specs.declared.instruction.Instruction.{Instruction}
use Rattle.flt_abs.specs.State.{Null, Held, Stale}
use Rattle.flt_explain.specs.Mending.{is_fine}
use Rattle.flt_explain.specs.declared.finding.Finding.{Finding}
use Rattle.flt_explain.specs.declared.finding.Subject.{Subject}
use Rattle.flt_explain.specs.declared.finding.Subject.TheVariants as about
use Rattle.flt_search_started.specs.Triggers.{is_started_alone, is_started_by}
use Rattle.flt_explain_outcomes.specs.Possible.{nothing, is_some, is_within, entered, after}
use Rattle.flt_explain_outcomes.specs.Unset.{AreUnset, is_barren, nothing_unset}
use Rattle.flt_explain_outcomes.specs.declared.outlook.StateSurvey.{StateSurvey}
use Rattle.flt_explain_outcomes.specs.declared.possible.Possible.{Possible}
use Rattle.flt_explain_outcomes.specs.declared.unset.Unset.{Unset}

-- ---- what may be so of a variable at each point of each callback

abbrev pub Reach : Type 0
Reach = List (List Possible)

-- what may be so at a point; nothing where it isn't reached
abbrev pub at : Reach → ℕ → ℕ → Possible
at m k p = slice_index_or (slice_index_or m k []) p nothing

-- ---- what holds of it in all runs

-- an instruction may come out so: no call gets a context that nothing sets
abbrev pub may_come_out : Unset → Instruction → Bool → Bool
may_come_out u i outcome = not (outcome && is_barren u i)

module _ (g : Graph) (u : Unset) (v : ContextVariable) (m : Reach) where
  -- what a point leaves by an outcome may be so where that leads
  abbrev pub LeadsOn : ℕ → ℕ → Bool → Type 0
  LeadsOn k p outcome =
      (q : ℕ) → successor (instruction_at g k p) outcome ≡ Some q → may_come_out u (instruction_at g k p) outcome ≡ true →
      is_within (after (instruction_at g k p) outcome v (at m k p)) (at m k q) ≡ true

  -- a callback may be entered
  abbrev pub IsEntered : ℕ → Type 0
  IsEntered n = is_within (entered (place_at g n) v) (at m n 0) ≡ true

  -- a callback that a point starts may be entered
  abbrev pub StartsOne : ℕ → ℕ → ℕ → Type 0
  StartsOne k p n = is_started_by (place_at g k) (instruction_at g k p) n (place_at g n) ≡ true → IsEntered n

  -- each of the first callbacks, if the point starts it
  abbrev pub StartsBefore : ℕ → ℕ → ℕ → Type 0
  StartsBefore k p count = (n : ℕ) → n < count → StartsOne k p n

  -- the same of all
  abbrev pub StartsOn : ℕ → ℕ → Type 0
  StartsOn k p = StartsBefore k p (length g.callbacks)

  -- all that may come of a point, if it is reached
  pub record GoesOn (k p : ℕ) : Type 0 where
    pub granted : is_some (at m k p) ≡ true → LeadsOn k p true
    pub refused : is_some (at m k p) ≡ true → LeadsOn k p false
    pub starts : is_some (at m k p) ≡ true → StartsOn k p

  -- the first points of a callback go on within what may be so
  abbrev pub GoOnBefore : ℕ → ℕ → Type 0
  GoOnBefore k count = (p : ℕ) → p < count → GoesOn k p

  -- each point of a callback goes on within what may be so, and so does its start by the system
  pub record HoldsIn (k : ℕ) : Type 0 where
    pub enters : is_started_alone (place_at g k) ≡ true → IsEntered k
    pub points : GoOnBefore k (points_at g k)

  abbrev pub HoldsBefore : ℕ → Type 0
  HoldsBefore count = (k : ℕ) → k < count → HoldsIn k

  -- nothing leads out of what may be so
  abbrev pub Holds : Type 0
  Holds = HoldsBefore (length g.callbacks)

-- ---- findings

-- the variable that is followed: the finding's own, or, where it is about none, `arg`
abbrev pub followed : Subject → ContextVariable
followed (about.Context v) = v
followed _ = Arg

-- all that may be so is as the rule asks
abbrev pub are_fine : Rule → Possible → Bool
are_fine r s = (not s.null || is_fine r Null) && ((not s.held || is_fine r Held) && (not s.stale || is_fine r Stale))

-- nothing that may be so is what is found
abbrev pub is_fine_for : Rule → Subject → Possible → Bool
is_fine_for r (about.Context v) s = are_fine r s
is_fine_for r _ s = not (is_some s)

-- a variable was followed where nothing sets contexts on these anchors, and nothing leads out of what may be so
pub record IsSurveyed (g : Graph) (s : StateSurvey) : Type 0 where
  pub unset : AreUnset g s.unset
  pub holds : Holds g s.unset s.variable s.rows

-- of what may be so, nothing is what is found
pub record IsOutOfReach (g : Graph) (u : Unset) (f : Finding) : Type 0 where
  pub reach : Reach
  pub holds : Holds g u (followed f.subject) reach
  pub fine : is_fine_for f.rule f.subject (at reach f.callback f.point) ≡ true

-- nothing starts the finding's callback
pub record IsNeverStarted (g : Graph) (f : Finding) : Type 0 where
  pub reach : Reach
  pub holds : Holds g nothing_unset (followed f.subject) reach
  pub unstarted : is_some (at reach f.callback 0) ≡ false

-- calls ask for contexts on these anchors, which no callback sets, and what is found isn't reached without them
pub record IsNeverGot (g : Graph) (f : Finding) (u : Unset) : Type 0 where
  pub some : (u.stream || u.instance) ≡ true
  pub unset : AreUnset g u
  pub out : IsOutOfReach g u f
