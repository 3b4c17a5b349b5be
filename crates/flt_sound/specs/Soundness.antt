-- The theorem on which the whole tool rests, on one page: no run of accepted filters breaks anything.
--
-- accepted      here: a filter is well-formed, it has its graph, and a certificate covers that graph.
-- well-formed   flt_tree/specs/WellFormed.antt. What a text spells is (`spelled_is_well_formed` of flt_syntax).
-- graph         flt_graph/specs/Lowering.antt: the statements of each callback by number, with their successors. It is what `lower` makes.
-- covers        flt_check/specs/Covering.antt: what may be so at each point, closed under each step of a callback. It is what
-- `check` decides.
-- transition    flt_model/specs/Steps.antt: a move of the filter manager, of a worker or of the system, or one step of one callback.
-- run, breaks   flt_model/specs/Runs.antt: transitions, each enabled where it comes, from the moment before all of them.
-- `breaks` is the first
--               break of V1 to V8 (flt_model/specs/Violations.antt), in the longest part of the list that is a run; none where
-- there is none.
--
-- To believe: that the machine in flt_model/specs and the tables in flt_rules/specs, which it reads (levels, legal places and
-- statuses), are
-- the driver kit's. Nothing in between, neither points, nor certificates, nor the rules that the checker applies, has to be believed.
use Rattle.std.specs.Prelude.{◌≡◌, List, None}
use Rattle.std.specs.List.{All}
use Rattle.flt_tree.specs.WellFormed.{IsWellFormed}
use Rattle.flt_tree.specs.declared.filter.Filter.{Filter}
use Rattle.flt_model.specs.Runs.{breaks}
use Rattle.flt_model.specs.Steps.{Transition}
use Rattle.flt_graph.specs.Lowering.{IsLowered}
use Rattle.flt_graph.specs.declared.graph.Graph.{Graph}
use Rattle.flt_cert.specs.Format.{Certificate}
use Rattle.flt_check.specs.Covering.{Covers}

-- a filter is accepted: a certificate covers its graph
pub record IsAccepted (f : Filter) : Type 0 where
  pub graph : Graph
  pub cert : Certificate
  pub well_formed : IsWellFormed f
  pub lowered : IsLowered f graph
  pub covers : Covers graph cert

-- each filter is accepted; their altitudes may be equal
abbrev pub AreAccepted : List Filter → Type 0
AreAccepted filters = All IsAccepted filters

-- Whatever transitions are tried on accepted filters, in whatever order and however many, with any number of operations, over every
-- interleaving of callbacks, work items, cancellations and detaches, and with every choice of the system: nothing is broken.
abbrev pub AcceptedRunsBreakNothing : Type 0
AcceptedRunsBreakNothing = (filters : List Filter) (transitions : List Transition) → AreAccepted filters → breaks filters transitions ≡ None
