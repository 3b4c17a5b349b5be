use Rattle.std.proofs.Common.{◌≡◌, drop}
use Rattle.std.specs.List.{find}
use Rattle.flt_explain_hints.specs.Spot.{stands_at}
use Rattle.flt_explain_hints.proofs.spot.token_at.Given as goal

abbrev pub invariant-loop-token : goal.invariant-loop-token
invariant-loop-token l = find (stands_at l.fault) l.tokens ≡ find (stands_at l.fault) (drop l.token-index l.tokens)
