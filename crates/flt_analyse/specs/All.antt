-- The answers to several graphs. This project's own definitions.
use Rattle.std.specs.Prelude.{◌≡◌, ℕ, ◌<◌, ◌≤◌, ◌+◌, ◌*◌, List, length, Some, Result, Ok, Err, slice_get}
use Rattle.flt_graph.specs.declared.graph.Graph.{Graph}
use Rattle.flt_cert.specs.Format.{Certificate}
use Rattle.flt_check.specs.Covering.{Covers}
use Rattle.flt_rules.specs.declared.refusal.Refusal.{Refusal}
use Rattle.flt_analyse.specs.Least.{IsLeast, NoneCovers, IsNamed}

-- what the analyser answers for a graph where memory lasts: the least certificate that covers it, or the fault that its walk meets first
abbrev pub IsAnswer : Graph → Result Certificate Refusal → Type 0
IsAnswer g (Ok k) = Covers g k × IsLeast g k
IsAnswer g (Err f) = NoneCovers g × IsNamed g f

-- each is the answer for the graph of its turn: the worker's own number is the place of turn 0, and the places of its turns lie
-- as far apart as there are workers
abbrev pub AreAnswers : List Graph → ℕ → ℕ → List (Result Certificate Refusal) → Type 0
AreAnswers graphs workers worker answers =
    (turn : ℕ) (g : Graph) (a : Result Certificate Refusal) → slice_get answers turn ≡ Some a →
    slice_get graphs (worker + workers * turn) ≡ Some g → IsAnswer g a

-- a worker's share of the answers for the graphs below a place: it has all of its turns, and no more
pub record IsShare (graphs : List Graph) (workers place worker : ℕ) (answers : List (Result Certificate Refusal)) : Type 0 where
  pub all : place ≤ worker + workers * length answers
  pub own : worker + workers * length answers < place + workers
  pub each : AreAnswers graphs workers worker answers

-- each worker has its share
abbrev pub AreShares : List Graph → ℕ → ℕ → List (List (Result Certificate Refusal)) → Type 0
AreShares graphs workers place shares =
    (worker : ℕ) (answers : List (Result Certificate Refusal)) → slice_get shares worker ≡ Some answers →
    IsShare graphs workers place worker answers
