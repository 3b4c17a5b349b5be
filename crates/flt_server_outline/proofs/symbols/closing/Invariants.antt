use Rattle.std.proofs.Common.{◌≡◌, ◌≤◌, ◌+◌, drop}
use Rattle.flt_server_outline.specs.Symbols.{closing}
use Rattle.flt_server_outline.proofs.symbols.closing.Given as goal

abbrev pub invariant-loop-marked : goal.invariant-loop-marked
invariant-loop-marked l =
    (l.depth ≤ l.marked-index + 1) × (closing l.depth (drop l.marked-index l.tokens) ≡ closing 1 l.tokens)
