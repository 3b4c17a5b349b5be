use Rattle.std.proofs.Common.{◌≡◌, drop}
use Rattle.std.specs.List.{find}
use Rattle.flt_server_outline.specs.Uses.{has}
use Rattle.flt_server_outline.proofs.uses.first_with.Given as goal

abbrev pub invariant-loop-marked : goal.invariant-loop-marked
invariant-loop-marked l = find (λ m. has l.byte m.token) (drop l.marked-index l.tokens) ≡ find (λ m. has l.byte m.token) l.tokens
