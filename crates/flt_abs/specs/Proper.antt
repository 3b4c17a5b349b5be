-- Successors whose states have no empty set.
use Rattle.std.specs.Prelude.{Option, Some, None, IsTrue}
use Rattle.flt_abs.specs.State.{is_proper}
use Rattle.flt_abs.specs.declared.step.Successor.{Successor}
use Rattle.flt_abs.specs.declared.step.Successors.{Successors}

-- a successor that is there has a state without an empty set
abbrev pub IsSuccessorProper : Option Successor → Type 0
IsSuccessorProper (Some next) = IsTrue (is_proper next.state)
IsSuccessorProper None = Unit {0}

pub record AreProper (next : Successors) : Type 0 where
  pub first : IsSuccessorProper next.first
  pub second : IsSuccessorProper next.second
