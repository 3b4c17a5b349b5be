use Rattle.std.proofs.Common.{◌≡◌, drop}
use Rattle.flt_c_macros.specs.Uses.{with_words}
use Rattle.flt_c_macros.proofs.text.push_all.Given as goal

abbrev pub invariant-loop-word : goal.invariant-loop-word
invariant-loop-word l = with_words l.words l.fn.state ≡ with_words (drop l.word-index l.words) l.state
