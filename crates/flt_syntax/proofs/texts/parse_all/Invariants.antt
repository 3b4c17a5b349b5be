use Rattle.std.proofs.Common.{map, take}
use Rattle.flt_syntax.specs.Texts.{AreSpelled}
use Rattle.flt_syntax.proofs.texts.parse_all.Given as goal

abbrev pub invariant-loop-number : goal.invariant-loop-number
invariant-loop-number l = AreSpelled (map (λ text. text.items) (take l.number l.texts)) (map (λ t. t.filter) l.trees.items)
