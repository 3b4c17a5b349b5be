use Rattle.std.proofs.Common.{◌≡◌, ◌≤◌, ◌++◌, drop}
use Rattle.flt_server_outline.specs.Symbols.{symbols_from}
use Rattle.flt_server_outline.proofs.symbols.symbols_of.Given as goal

abbrev pub invariant-loop-at : goal.invariant-loop-at
invariant-loop-at l = (l.depth ≤ l.at) × (l.symbols ++ symbols_from l.depth (drop l.at l.tokens) ≡ symbols_from 0 l.tokens)
