-- What the walk of one callback gives. This project's own definitions.
use Rattle.std.specs.Prelude.{◌≡◌, ℕ, true, List, Option, Some, None, Result, Ok, Err}
use Rattle.std.specs.List.{list_all}
use Rattle.flt_rules.specs.declared.rule.Rule.{Rule}
use Rattle.flt_graph.specs.declared.graph.Graph.{Graph}
use Rattle.flt_abs.specs.State.{is_proper}
use Rattle.flt_abs.specs.declared.step.Successor.{Successor}
use Rattle.flt_abs.specs.declared.step.Successors.{Successors}
use Rattle.flt_cert.specs.Format.{Point, is_point}
use Rattle.flt_check.specs.Covering.{IsCovered, ArePointsBelow}
use Rattle.flt_analyse.specs.Walk.{Ends}

-- a successor that is there has a state without empty sets
abbrev pub ProperNext : Option Successor → Type 0
ProperNext (Some next) = is_proper next.state ≡ true
ProperNext None = Unit {0}

-- so have both successors, where no rule fires
abbrev pub ProperSteps : Result Successors Rule → Type 0
ProperSteps (Ok next) = ProperNext next.first × ProperNext next.second
ProperSteps (Err r) = Unit {0}

-- what a walk that ended gives
pub record Column (g : Graph) (callback : ℕ) (points : List Point) : Type 0 where
  pub covered : IsCovered g callback points
  pub least : (ys : List Point) → IsCovered g callback ys → ArePointsBelow points ys
  pub proper : list_all is_point points ≡ true
  pub ends : Ends g callback
