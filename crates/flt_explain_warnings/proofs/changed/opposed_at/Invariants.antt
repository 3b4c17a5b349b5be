use Rattle.std.proofs.Common.{◌≡◌, drop}
use Rattle.std.specs.List.{find}
use Rattle.flt_explain_warnings.specs.Changed.{is_opposed}
use Rattle.flt_explain_warnings.proofs.changed.opposed_at.Given as goal

abbrev pub invariant-loop-write : goal.invariant-loop-write
invariant-loop-write l = find (is_opposed l.cert l.uses l.site) (drop l.write-index l.uses) ≡ find (is_opposed l.cert l.uses l.site) l.uses
