-- A worked callback that makes as many steps as it costs: no lower bound would hold. What it costs is in `proofs/Worked.antt`.
use Rattle.std.specs.Prelude.{◌≡◌, refl, true, List, [], ◌∷◌, ◌++◌, None, is_some}
use Rattle.flt_rules.specs.declared.place.Operation.TheVariants.{Read}
use Rattle.flt_tree.specs.declared.filter.Action.TheVariants as action
use Rattle.flt_tree.specs.declared.filter.Filter.{Filter}
use Rattle.flt_tree.specs.declared.filter.Head.TheVariants as head
use Rattle.flt_tree.specs.declared.filter.Statement.{Statement}
use Rattle.flt_tree.specs.declared.filter.Statement.TheVariants as tree
use Rattle.flt_tree.specs.declared.variable.Atom.TheVariants as atom
use Rattle.flt_tree.specs.declared.variable.Expression.TheVariants as expression
use Rattle.flt_tree.specs.declared.variable.NumberVariable.TheVariants.{N0}
use Rattle.flt_model.specs.declared.moves.JournalEntry.{JournalEntry}
use Rattle.flt_model.specs.WorkedParts.{computed, here, on, filter, arrive, pre, go, played}
use Rattle.flt_costs.specs.Costs.{steps_of}

-- two turns of one assignment. They cost 1 + 2 * (1 + 1)
abbrev pub block : List Statement
block = tree.Act here (action.SetNumber N0 (expression.Atom (atom.Number 7))) ∷ []

abbrev pub body : List Statement
body = tree.Repeat here 2 block ∷ []

-- pre read: these, and the end, which costs 1
abbrev pub turns : List Filter
turns = filter 100 (on (head.Pre Read) body ∷ []) ∷ []

-- two operations, and each makes six steps: two for each turn, one that finds no turn left, and the end
abbrev pub interleaved : List JournalEntry
interleaved = arrive Read ∷ pre 0 ∷ arrive Read ∷ pre 1 ∷ go 1 6 ∷ go 0 6 ∷ []

pub interleaved-runs : is_some (played turns interleaved) ≡ true
unfolding computed
interleaved-runs = refl

pub interleaved-steps : steps_of 0 interleaved ≡ 6
interleaved-steps = refl

-- neither makes a step more, or ends a step before
pub step-more : played turns (interleaved ++ go 0 1 ∷ []) ≡ None
unfolding computed
step-more = refl

pub step-less : played turns (arrive Read ∷ pre 0 ∷ go 0 5 ∷ []) ≡ None
unfolding computed
step-less = refl
