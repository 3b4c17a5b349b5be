-- What a thin certificate of a text must be: it gives the kept points, and what follows from it covers the text. This project's own
-- definitions.
use Rattle.std.specs.Prelude.{◌≡◌, ℕ, ◌<◌, length, is_some}
use Rattle.flt_graph.specs.Graph.{points_at}
use Rattle.flt_graph.specs.declared.graph.Graph.{Graph}
use Rattle.flt_check.specs.Covering.{Covers}
use Rattle.flt_graph.specs.Kept.{is_kept}
use Rattle.flt_cert.specs.Thin.{Thin, slot_at}
use Rattle.flt_check.specs.Full.{full}

-- up to a point of a callback, that one left out, each point is given exactly where it is kept
abbrev pub AgreeBefore : Graph → Thin → ℕ → ℕ → Type 0
AgreeBefore g t callback point = (p : ℕ) → p < point → is_some (slot_at t callback p) ≡ is_kept g callback p

-- up to a callback, that one left out
abbrev pub AgreeIn : Graph → Thin → ℕ → Type 0
AgreeIn g t callbacks = (c : ℕ) → c < callbacks → AgreeBefore g t c (points_at g c)

-- the points that are given are exactly the kept ones
abbrev pub GivesKept : Graph → Thin → Type 0
GivesKept g t = AgreeIn g t (length g.callbacks)

pub record CoversThin (g : Graph) (t : Thin) : Type 0 where
  pub kept : GivesKept g t
  pub covers : Covers g (full g t)
