-- Where a point leads, by the point and the state that are kept for it.
use Rattle.std.specs.Prelude.{ℕ, Option, Some, None}
use Rattle.std.specs.Borrow.{Bor}
use Rattle.flt_abs.specs.State.{State}
use Rattle.flt_abs.specs.declared.leads.Lead.{Lead}
use Rattle.flt_abs.specs.declared.step.Successor.{Successor}

-- a point and a state
abbrev pub lead_of : Option ℕ → State → Option Successor
lead_of (Some p) x = Some (record { point = p; state = x })
lead_of None x = None

abbrev pub lead : Lead → Option Successor
lead l = lead_of l.point l.state

-- a point with a state that is lent
abbrev pub lent : Option (ℕ × Bor State) → Option Successor
lent (Some x) = Some (record { point = x.0; state = x.1.now })
lent None = None
