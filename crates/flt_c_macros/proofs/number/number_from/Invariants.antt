use Rattle.std.proofs.Common.{◌≡◌, ◌≤◌, ◌^◌, length}
use Rattle.flt_c_macros.specs.Numbers.{number_from}
use Rattle.flt_c_macros.proofs.number.number_from.Given as goal

abbrev pub invariant-loop-text : goal.invariant-loop-text
invariant-loop-text l = (number_from l.base l.number l.text ≡ number_from l.base 0 l.initial.text) × (l.number ≤ 2 ^ 63)

abbrev pub decreases-loop-text : goal.decreases-loop-text
decreases-loop-text l = length l.text
