use Rattle.std.proofs.Common.{◌≡◌, drop}
use Rattle.flt_emit.specs.Uses.{returns}
use Rattle.flt_emit.proofs.uses.+returns.Given as goal

abbrev pub invariant-returns-loop-statement : goal.invariant-returns-loop-statement
invariant-returns-loop-statement l = returns l.body ≡ returns (drop l.statement-index l.body)
