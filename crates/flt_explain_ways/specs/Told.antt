-- What is told of a finding. This project's own definitions.
use Rattle.std.specs.Prelude.{Bool, true, false, Option, Some, None}
use Rattle.flt_graph.specs.declared.graph.Graph.{Graph}
use Rattle.flt_explain.specs.declared.finding.Finding.{Finding}
use Rattle.flt_explain_ways.specs.NoWay.{NoWay}
use Rattle.flt_explain_origins.specs.Ways.{Shows, Meet}
use Rattle.flt_explain_origins.specs.declared.answer.Answer.{Answer}
use Rattle.flt_explain_origins.specs.declared.answer.Answer.TheVariants as answer
use Rattle.flt_explain_origins.specs.declared.answer.Way.{Way}
use Rattle.flt_explain_origins.specs.declared.answer.Ways.{Ways}

-- a way shows the finding by itself, or with another that it meets
abbrev pub ShowWith : Graph → Finding → Bool → Way → Option Way → Type 0
ShowWith g f clean w None = Shows g f clean w
ShowWith g f clean w (Some v) = Meet g f clean w v

abbrev pub Show : Graph → Finding → Bool → Ways → Type 0
Show g f clean ws = ShowWith g f clean ws.way ws.other

-- clean ways show the finding; or ways do on which rules are broken before; or no way does
abbrev pub IsAnswer : Graph → Finding → Answer → Type 0
IsAnswer g f (answer.Clean ws) = Show g f true ws
IsAnswer g f (answer.Behind ws) = Show g f false ws
IsAnswer g f answer.Unreached = NoWay g f
IsAnswer g f answer.Unknown = Unit {0}
