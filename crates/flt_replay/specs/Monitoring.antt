-- How far the monitor has come, and what comes of transitions.
use Rattle.std.specs.Prelude.{◌≡◌, Bool, true, false, List, IsTrue}
use Rattle.flt_tree.specs.declared.filter.Filter.{Filter}
use Rattle.flt_model.specs.Expansion as spec
use Rattle.flt_model.specs.Locks.{locks_exclude}
use Rattle.flt_model.specs.Runs.{Moment}
use Rattle.flt_model.specs.Steps.{Transition}
use Rattle.flt_replay.specs.Ledger.{Agrees}
use Rattle.flt_replay.specs.declared.monitor.Course.{Course}
use Rattle.flt_replay.specs.declared.monitor.Course.TheVariants.{Reaches, Stops, Fails}
use Rattle.flt_replay.specs.declared.monitor.Monitor.{Monitor}

-- the monitor stands at a moment, where no lock is held exclusively beside another activation
pub record IsAt (monitor : Monitor) (m : Moment) : Type 0 where
  pub world : monitor.world ≡ m.world
  pub counts : Agrees m monitor.ledger
  pub exclusive : IsTrue (locks_exclude m.world)

-- what comes of transitions, after which the monitor stands where they lead
abbrev pub ComesTo : Course → Monitor → spec.Course → Type 0
ComesTo Reaches monitor (spec.Reaches m) = IsAt monitor m
ComesTo Stops monitor spec.Stops = Unit {0}
ComesTo (Fails v) monitor (spec.Fails u) = v ≡ u
ComesTo _ monitor _ = ⊥

-- the course goes on with these transitions from where the monitor stands, or stops
abbrev pub GoesOn : Bool → Monitor → List Filter → List Transition → spec.Course → Type 0
GoesOn true monitor p xs whole = (m : Moment) × IsAt monitor m × (whole ≡ spec.course p m xs)
GoesOn false monitor p xs whole = whole ≡ spec.Stops
