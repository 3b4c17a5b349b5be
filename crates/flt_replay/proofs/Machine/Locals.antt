-- What the machine's law says of local steps, as the proofs hand it on.
use Rattle.std.proofs.Common.{◌≡◌, ℕ, List, [], Some, None}
use Rattle.std.specs.Prelude.{if◌then◌else◌}
use Rattle.flt_tree.specs.declared.filter.Filter.{Filter}
use Rattle.flt_model.specs.declared.verdict.Violation.TheVariants.{V4, V7}
use Rattle.flt_model.specs.Effects.{Step}
use Rattle.flt_model.specs.LocalSteps.{GoesOnAlone}
use Rattle.flt_model.specs.Locks.{locks_exclude}
use Rattle.flt_model.specs.Runs.{Moment, next, broken}
use Rattle.flt_model.specs.Steps.{Local}
use Rattle.flt_model.specs.Violations.{one_owner}

-- local steps have no events, change their activation alone, which goes on, and break nothing that wasn't broken before
pub record AreQuiet : Type 0 where
  pub events : (p : List Filter) (m : Moment) (a : ℕ) (s : Step) → next p m (Local a) ≡ Some s → s.events ≡ []
  pub alone : (p : List Filter) (m : Moment) (a : ℕ) (s : Step) → next p m (Local a) ≡ Some s → GoesOnAlone m.world a s.world
  pub breaks : (p : List Filter) (m : Moment) (a : ℕ) (s : Step) → next p m (Local a) ≡ Some s →
      broken p m s ≡ (if one_owner m.world m.trace then (if locks_exclude m.world then None else Some V7) else Some V4)
