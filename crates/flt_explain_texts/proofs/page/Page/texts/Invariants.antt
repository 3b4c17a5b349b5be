use Rattle.std.proofs.Common.{◌≡◌, ◌++◌, take}
use Rattle.flt_explain_texts.specs.Page.{joined}
use Rattle.flt_explain_texts.proofs.page.Page.texts.Given as goal

abbrev pub invariant-loop-text : goal.invariant-loop-text
invariant-loop-text l = l.self.out.items ≡ l.initial.self.out.items ++ joined (take l.text-index l.texts)
