-- Which filters a machine runs, by the graph and the altitude of each. This project's own representation.
use Rattle.std.specs.Prelude.{◌≡◌, ℕ, Bool, true, false, List, [], ◌∷◌, map, slice_index_or}
use Rattle.std.specs.List.{position_or_len}
use Rattle.flt_rules.specs.Place.{same_operation}
use Rattle.flt_rules.specs.declared.place.Place.{Place}
use Rattle.flt_rules.specs.declared.place.Place.TheVariants as place
use Rattle.flt_tree.specs.WellFormed.{IsWellFormed}
use Rattle.flt_tree.specs.declared.filter.Callback.{Callback}
use Rattle.flt_tree.specs.declared.filter.Filter.{Filter}
use Rattle.flt_tree.specs.declared.filter.Head.{Head}
use Rattle.flt_graph.specs.Graph.{instruction_at}
use Rattle.flt_graph.specs.Lowering.{IsLowered}
use Rattle.flt_graph.specs.declared.graph.Graph.{Graph}
use Rattle.flt_graph.specs.declared.instruction.Instruction.{Instruction}
use Rattle.flt_model.specs.Program.{HasDistinctAltitudes, IsRepeated}
use Rattle.flt_machine_frames.specs.declared.fault.LoadedFault.{LoadedFault}
use Rattle.flt_machine_frames.specs.declared.fault.LoadedFault.TheVariants as fault
use Rattle.flt_machine_frames.specs.declared.loaded.Loaded.{Loaded}

-- the graph is that of a filter that some text spells
pub record IsLoaded (f : Filter) (g : Graph) : Type 0 where
  pub well_formed : IsWellFormed f
  pub lowered : IsLowered f g

-- each graph is that of the filter of its number
abbrev pub AreGraphsOfFilters : List Filter → List Graph → Type 0
AreGraphsOfFilters [] [] = Unit {0}
AreGraphsOfFilters (f ∷ p) (g ∷ gs) = IsLoaded f g × AreGraphsOfFilters p gs
AreGraphsOfFilters _ _ = ⊥

-- the altitudes and the graphs are those of these filters, by number
pub record AreLoaded (p : List Filter) (l : Loaded) : Type 0 where
  pub altitudes : l.altitudes ≡ map (λ (f : Filter). f.altitude) p
  pub graphs : AreGraphsOfFilters p l.graphs

-- ---- what isn't loaded

-- why filters aren't loaded: the number, from 0, of the first one whose altitude an earlier one has; where all altitudes differ,
-- nothing but memory
abbrev pub IsFault : List Filter → LoadedFault → Type 0
IsFault filters (fault.Altitude file) = IsRepeated filters file
IsFault filters fault.OutOfMemory = HasDistinctAltitudes filters

-- ---- what is read

-- a filter that isn't there has no callbacks
abbrev pub no_graph : Graph
no_graph = record { locks = []; callbacks = [] }

-- the graph of a filter
abbrev pub graph_at : List Graph → ℕ → Graph
graph_at gs filter = slice_index_or gs filter no_graph

-- what is done at a point of a filter's callback; the end where the point isn't there
abbrev pub instruction_in : Loaded → ℕ → ℕ → ℕ → Instruction
instruction_in l filter callback point = instruction_at (graph_at l.graphs filter) callback point

-- whether a place is that of an event: of a pre or a post callback of the operation, or of `canceled`; a routine is for none
abbrev pub is_event : Place → Place → Bool
is_event (place.Pre kind) (place.Pre own) = same_operation own kind
is_event (place.Post kind) (place.Post own) = same_operation own kind
is_event place.Canceled place.Canceled = true
is_event _ _ = false

-- the number of the first callback whose head passes; past all callbacks where there is none
abbrev pub callback_for : (Head → Bool) → List Callback → ℕ
callback_for test cs = position_or_len (λ (c : Callback). test c.head) cs
