use Rattle.std.proofs.Common.{◌≡◌, ◌≤◌, drop}
use Rattle.flt_server_outline.specs.Uses.{body_from}
use Rattle.flt_server_outline.proofs.uses.body_around.Given as goal

abbrev pub invariant-loop-marked : goal.invariant-loop-marked
invariant-loop-marked l =
    (l.body.depth ≤ l.marked-index)
    × (body_from l.body l.byte (drop l.marked-index l.tokens) ≡ body_from (record { depth = 0; start = 0 }) l.byte l.tokens)
