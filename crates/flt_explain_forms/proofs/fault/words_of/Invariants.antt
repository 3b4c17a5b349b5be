use Rattle.std.proofs.Common.{◌≡◌, map, take}
use Rattle.flt_explain_forms.proofs.fault.words_of.Given as goal

abbrev pub invariant-loop-one : goal.invariant-loop-one
invariant-loop-one l = map (λ w. w.now) l.words ≡ map (λ e. e.word.now) (take l.one-index l.expected)
