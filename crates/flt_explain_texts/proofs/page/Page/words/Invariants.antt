use Rattle.std.proofs.Common.{◌≡◌, ◌++◌, take}
use Rattle.flt_explain_texts.specs.Page.{all_shown}
use Rattle.flt_explain_texts.proofs.page.Page.words.Given as goal

abbrev pub invariant-loop-word : goal.invariant-loop-word
invariant-loop-word l = l.self.out.items ≡ l.initial.self.out.items ++ all_shown (take l.word-index l.words)
