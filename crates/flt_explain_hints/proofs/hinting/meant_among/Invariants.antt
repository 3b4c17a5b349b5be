use Rattle.std.proofs.Common.{◌≡◌, drop}
use Rattle.flt_explain_hints.specs.Hinting.{meant_among}
use Rattle.flt_explain_hints.proofs.hinting.meant_among.Given as goal

abbrev pub invariant-loop-entry : goal.invariant-loop-entry
invariant-loop-entry l = meant_among (drop l.entry-index l.table) l.byte ≡ meant_among l.table l.byte
