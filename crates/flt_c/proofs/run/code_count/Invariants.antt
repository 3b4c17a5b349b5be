use Rattle.std.proofs.Common.{◌≡◌, ◌+◌, drop}
use Rattle.flt_c.specs.Runs.{plain_count}
use Rattle.flt_c.specs.declared.run.Plain.TheVariants as p
use Rattle.flt_c.proofs.run.code_count.Given as goal

abbrev pub invariant-loop-b : goal.invariant-loop-b
invariant-loop-b l = (l.n ≡ l.b-index) × (l.n + plain_count p.Code (drop l.b-index l.z) ≡ plain_count p.Code l.z)
