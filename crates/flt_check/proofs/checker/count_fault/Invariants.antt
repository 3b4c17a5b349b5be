use Rattle.std.proofs.Common.{◌≡◌, ◌<◌, ℕ, false}
use Rattle.flt_check.specs.Checker.{differs}
use Rattle.flt_check.proofs.checker.count_fault.Given as goal

abbrev pub invariant-loop-callback : goal.invariant-loop-callback
invariant-loop-callback l = (c : ℕ) → c < l.callback → differs l.graph l.cert c ≡ false
