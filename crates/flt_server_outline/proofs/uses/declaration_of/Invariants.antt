use Rattle.std.proofs.Common.{◌≡◌, drop}
use Rattle.std.specs.List.{find}
use Rattle.flt_server_outline.specs.Uses.{is_first}
use Rattle.flt_server_outline.proofs.uses.declaration_of.Given as goal

abbrev pub invariant-loop-marked : goal.invariant-loop-marked
invariant-loop-marked l =
    find (is_first l.text l.mention) (drop l.marked-index l.tokens) ≡ find (is_first l.text l.mention) l.tokens
