-- Acquisitions that go round: no order of locks has such. This project's own definitions.
use Rattle.std.specs.Prelude.{◌≡◌, ◌≢◌, AllPairs, if◌then◌else◌, List, [], ◌∷◌, Option, Some, None}
use Rattle.flt_rules.specs.Held.{same_lock}
use Rattle.flt_rules.specs.declared.call.LockNumber.{LockNumber}
use Rattle.flt_graph.specs.declared.graph.Graph.{Graph}
use Rattle.flt_cert.specs.Format.{Certificate}
use Rattle.flt_order.specs.Order.{IsAcquired, TakesInOrder}
use Rattle.flt_order.specs.declared.order.Acquisition.{Acquisition}

-- each acquisition takes the lock that the one before it holds, from one lock to another
abbrev pub IsPath : Graph → Certificate → LockNumber → List Acquisition → LockNumber → Type 0
IsPath g k from [] to = from ≡ to
IsPath g k from (a ∷ rest) to = IsAcquired g k a × (a.taken ≡ from) × IsPath g k a.holding rest to

-- a circle: each takes the lock that the one before it holds, and the first takes the one that the last holds
abbrev pub IsCircle : Graph → Certificate → List Acquisition → Type 0
IsCircle g k [] = ⊥
IsCircle g k (a ∷ rest) = IsPath g k a.taken (a ∷ rest) a.taken

-- no two of the acquisitions take one lock
abbrev pub TakesOnce : List Acquisition → Type 0
TakesOnce acquisitions = AllPairs (λ (a b : Acquisition). a.taken ≢ b.taken) acquisitions

-- a circle refutes every order: round it ranks would fall for ever
abbrev pub CirclesHaveNoOrder : Type 0
CirclesHaveNoOrder = (g : Graph) (k : Certificate) (circle : List Acquisition) → IsCircle g k circle → TakesInOrder g k → ⊥

-- ---- the search

-- the acquisitions from the first on that takes the lock
abbrev pub from_taken : LockNumber → List Acquisition → Option (List Acquisition)
from_taken l [] = None
from_taken l (a ∷ rest) = if same_lock l a.taken then Some (a ∷ rest) else from_taken l rest
