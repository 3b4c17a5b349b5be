-- A run to a deadlock: a legal journal after which activations wait at all acquisitions of a circle, for locks of one another. This
-- project's own definitions.
use Rattle.std.specs.Prelude.{◌≡◌, ℕ, List, [], Some, All, Contains, map}
use Rattle.std.specs.List.{AllZip}
use Rattle.flt_tree.specs.declared.filter.Filter.{Filter}
use Rattle.flt_model.specs.Expansion.{verdict}
use Rattle.flt_model.specs.Program.{by_altitude, filter_at, filter_of}
use Rattle.flt_model.specs.Runs.{Moment, run_from, start}
use Rattle.flt_model.specs.Steps.{Local}
use Rattle.flt_model.specs.declared.verdict.Verdict.TheVariants.{Legal}
use Rattle.flt_order.specs.declared.order.Acquisition.{Acquisition}
use Rattle.flt_replay.specs.Lesser.{moment_after}
use Rattle.flt_explain_waits.specs.Stuck.{IsStuck}
use Rattle.flt_explain_waits.specs.declared.waits.BlockedActivation.{BlockedActivation}
use Rattle.flt_search_deadlocks.specs.declared.judging.Deadlock.{Deadlock}
use Rattle.flt_search_deadlocks.specs.declared.searching.Answer.{Answer}
use Rattle.flt_search_deadlocks.specs.declared.searching.Answer.TheVariants.{Found}

-- the activation waits at the acquisition: in this filter, on its line, for the lock that it takes
pub record WaitsAt (number : ℕ) (a : Acquisition) (b : BlockedActivation) : Type 0 where
  pub filter : b.filter ≡ number
  pub line : b.span.line ≡ a.line
  pub lock : b.lock ≡ a.taken

-- the one that is named as the holder of the lock for which the activation waits is one of these
pub record IsHeldAmong (round : List BlockedActivation) (b : BlockedActivation) : Type 0 where
  pub other : BlockedActivation
  pub among : Contains round other
  pub named : b.holder ≡ Some other.activation

-- The journal is a run that breaks nothing. It leads to a moment, and from there steps that nobody else sees lead to another one. At that
-- an activation waits at each acquisition of the circle. None of them has ended, no step of them is enabled, and each waits for a lock that
-- one of them holds.
pub record IsDeadlockIn (filters : List Filter) (number : ℕ) (circle : List Acquisition) (d : Deadlock) : Type 0 where
  pub legal : verdict filters d.journal ≡ Legal
  pub moment : Moment
  pub reached : moment_after (by_altitude filters) (start (by_altitude filters)) d.journal ≡ Some moment
  pub steps : List ℕ
  pub last : Moment
  pub led : run_from (by_altitude filters) moment (map Local steps) ≡ Some last
  pub some : d.waits.items ≡ [] → ⊥
  pub waits : AllZip (WaitsAt number) circle d.waits.items
  pub stuck : All (IsStuck (by_altitude filters) last) d.waits.items
  pub held : All (IsHeldAmong d.waits.items) d.waits.items

-- the number of the filter that is at the altitude of a tree's filter
abbrev pub number_of : List Filter → ℕ → ℕ
number_of filters tree = filter_of (by_altitude filters) (filter_at filters tree).altitude

-- the same in the filter of a tree
abbrev pub IsDeadlock : List Filter → ℕ → List Acquisition → Deadlock → Type 0
IsDeadlock filters tree circle d = IsDeadlockIn filters (number_of filters tree) circle d

-- what is found is such a run
abbrev pub IsAnswer : List Filter → ℕ → List Acquisition → Answer → Type 0
IsAnswer filters tree circle (Found d) = IsDeadlock filters tree circle d
IsAnswer filters tree circle _ = Unit {0}
