use Rattle.std.proofs.Common.{ℕ, List, ap, arith, length}
use Rattle.std.proofs.lemmas.List.{length-drop}
use Rattle.flt_files.proofs.pieces.PieceReader.has_byte.Goals as goal

pub returns-then-self-len-clause-some : goal.returns-then-self-len-clause-some
returns-then-self-len-clause-some c =
    λ _. omega (arith, length-drop {A = ℕ}, ap (λ (v : List ℕ × List ℕ). length v.0) c.self.view_is)
