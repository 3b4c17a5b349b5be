use Rattle.std.proofs.Common.{◌≡◌, drop}
use Rattle.flt_emit.specs.Uses.{stands_in}
use Rattle.flt_emit.proofs.uses.+stands.Given as goal

abbrev pub invariant-stands_in-loop-statement : goal.invariant-stands_in-loop-statement
invariant-stands_in-loop-statement l = stands_in l.sought l.body ≡ stands_in l.sought (drop l.statement-index l.body)
