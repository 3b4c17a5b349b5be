use Rattle.std.proofs.Common.{◌≡◌, ◌++◌, flat_map, take}
use Rattle.flt_explain_texts.specs.Page.{said}
use Rattle.flt_explain_texts.proofs.page.Page.say.Given as goal

abbrev pub invariant-loop-part : goal.invariant-loop-part
invariant-loop-part l = l.self.out.items ≡ l.initial.self.out.items ++ flat_map said (take l.part-index l.parts)
