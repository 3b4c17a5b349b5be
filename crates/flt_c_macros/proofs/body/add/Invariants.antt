use Rattle.std.proofs.Common.{◌≡◌, ◌++◌, take}
use Rattle.flt_c_macros.proofs.body.add.Given as goal

abbrev pub invariant-loop-word : goal.invariant-loop-word
invariant-loop-word l = l.words ≡ l.initial.words ++ take l.word-index l.more
