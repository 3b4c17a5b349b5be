use Rattle.std.proofs.Common.{◌≡◌, length}
use Rattle.flt_c_macros.specs.Numbers.{are_suffixes}
use Rattle.flt_c_macros.proofs.number.are_suffixes.Given as goal

abbrev pub invariant-loop-text : goal.invariant-loop-text
invariant-loop-text l = are_suffixes l.text ≡ are_suffixes l.initial.text

abbrev pub decreases-loop-text : goal.decreases-loop-text
decreases-loop-text l = length l.text
