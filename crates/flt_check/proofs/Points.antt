-- Going over callbacks.
use Rattle.std.proofs.Common.{ℕ, ◌+◌, below_more}
use Rattle.flt_graph.specs.Graph.{points_at}
use Rattle.flt_graph.specs.declared.graph.Graph.{Graph}
use Rattle.flt_cert.specs.Format.{Certificate}
use Rattle.flt_check.specs.Checker.{NoneIn, NoneBefore}

-- a callback without a fault at its points adds none
pub none_in_more : (g : Graph) (k : Certificate) (callback : ℕ) → NoneIn g k callback →
    NoneBefore g k callback (points_at g callback) → NoneIn g k (callback + 1)
none_in_more g k callback before here = below_more (λ c. NoneBefore g k c (points_at g c)) callback before here
