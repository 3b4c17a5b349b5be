use Rattle.std.proofs.Common.{◌≡◌, drop}
use Rattle.std.specs.List.{find}
use Rattle.flt_explain_warnings.specs.Changed.{clashes}
use Rattle.flt_explain_warnings.proofs.changed.opponent.Given as goal

abbrev pub invariant-loop-other : goal.invariant-loop-other
invariant-loop-other l = find (clashes l.cert l.write) (drop l.other-index l.uses) ≡ find (clashes l.cert l.write) l.uses
