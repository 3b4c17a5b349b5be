use Rattle.std.proofs.Common.{◌≡◌, ◌++◌, length, map}
use Rattle.flt_explain_hints.specs.Phrases.{phrase_of}
use Rattle.flt_explain_hints.specs.Telling.{listed}
use Rattle.flt_explain_hints.proofs.telling.listed.Given as goal

abbrev pub invariant-loop-left : goal.invariant-loop-left
invariant-loop-left l = l.out.items ++ listed (map phrase_of l.left) ≡ l.fn.out.items ++ listed (map phrase_of l.phrases)

abbrev pub decreases-loop-left : goal.decreases-loop-left
decreases-loop-left l = length l.left
