use Rattle.std.proofs.Common.{◌≡◌, ◌++◌, drop}
use Rattle.flt_explain_texts.specs.Page.{numbered}
use Rattle.flt_explain_texts.proofs.page.Page.numbers.Given as goal

abbrev pub invariant-loop-text : goal.invariant-loop-text
invariant-loop-text l = record {
  at : l.at ≡ l.text-index;
  said : l.self.out.items ++ numbered (drop l.text-index l.texts) (drop l.text-index l.numbers)
      ≡ l.initial.self.out.items ++ numbered l.texts l.numbers;
}
