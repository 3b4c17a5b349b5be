use Rattle.std.proofs.Common.{◌≡◌, filter, map, take}
use Rattle.flt_server_outline.specs.Uses.{is_use}
use Rattle.flt_server_outline.proofs.uses.uses_of.Given as goal

abbrev pub invariant-loop-marked : goal.invariant-loop-marked
invariant-loop-marked l =
    l.found ≡ map (λ m. m.token) (filter (is_use l.text l.mention l.with_declaration) (take l.marked-index l.tokens))
