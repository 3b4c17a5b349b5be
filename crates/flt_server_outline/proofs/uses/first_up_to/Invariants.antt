use Rattle.std.proofs.Common.{◌≡◌, drop}
use Rattle.std.specs.List.{find}
use Rattle.flt_server_outline.specs.Uses.{ends_at}
use Rattle.flt_server_outline.proofs.uses.first_up_to.Given as goal

abbrev pub invariant-loop-marked : goal.invariant-loop-marked
invariant-loop-marked l = find (λ m. ends_at l.byte m.token) (drop l.marked-index l.tokens) ≡ find (λ m. ends_at l.byte m.token) l.tokens
