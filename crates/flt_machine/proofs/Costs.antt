-- What the law of costs says of a board.
use Rattle.std.proofs.Common.{◌≡◌, ◌≤◌, ◌<◌, ℕ, true, List, [], ◌∷◌, length, refl, subst}
use Rattle.std.proofs.lemmas.Bool.{and_from}
use Rattle.std.specs.Bool.{IsTrue}
use Rattle.std.specs.List.{list_all}
use Rattle.flt_costs.specs.Costs.{IsRunTo, steps_of}
use Rattle.flt_machine_frames.specs.Loading.{AreGraphsOfFilters}
use Rattle.flt_graph.specs.declared.graph.Graph.{Graph}
use Rattle.flt_tree.specs.Measures.{are_small}
use Rattle.flt_rules.specs.Limits.{max_cost}
use Rattle.flt_tree.specs.declared.filter.Filter.{Filter}
use Rattle.flt_model.specs.Runs.{Moment}
use Rattle.flt_model.specs.declared.moves.JournalEntry.{JournalEntry}
use Rattle.flt_machine_frames.specs.declared.loaded.Loaded.{Loaded}
use Rattle.flt_machine.specs.Situations.{Situation, IsBoard, IsOwn}

-- a board's journal is a run
pub runs_to : (p : List Filter) (b : Situation) → (h : IsBoard p b) → IsRunTo p b.entries h.moment
runs_to p b h = record { transitions = h.transitions; expanded = h.expanded; runs = h.runs }

-- what is on the board is there at the end of that run
pub there_then : (p : List Filter) (b : Situation) (a : ℕ) → (h : IsBoard p b) → a < length b.standings →
    a < length h.moment.world.activations
there_then p b a h is = subst (λ (n : ℕ). a < n) h.at.count is

-- what is loaded keeps the limits
loaded_small : (p : List Filter) (gs : List Graph) → AreGraphsOfFilters p gs → list_all are_small p ≡ true
loaded_small [] [] h = refl
loaded_small [] (g ∷ gs) h = absurd h
loaded_small (f ∷ p) [] h = absurd h
loaded_small (f ∷ p) (g ∷ gs) h = and_from (are_small f) (list_all are_small p) h.0.well_formed.small (loaded_small p gs h.1)

-- no activation of a board makes more steps than a callback may cost
pub limited_there : ((p : List Filter) (entries : List JournalEntry) (m : Moment) (a : ℕ) → IsRunTo p entries m →
    IsTrue (list_all are_small p) → steps_of a entries ≤ max_cost) →
    (l : Loaded) (b : Situation) (a : ℕ) → IsOwn l b → steps_of a b.entries ≤ max_cost
limited_there law l b a own =
    law own.filters b.entries own.board.moment a (runs_to own.filters b own.board) (loaded_small own.filters l.graphs own.loaded.graphs)
