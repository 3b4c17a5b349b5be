use Rattle.std.proofs.Common.{◌≡◌, ◌++◌, take}
use Rattle.flt_c_macros.proofs.form.add.Given as goal

abbrev pub invariant-loop-b : goal.invariant-loop-b
invariant-loop-b l = l.text ≡ l.initial.text ++ take l.b-index l.more
