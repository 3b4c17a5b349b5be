use Rattle.std.proofs.Common.{◌≡◌, ◌++◌}
use Rattle.std.specs.Prelude.{replicate}
use Rattle.flt_explain_texts.proofs.page.Page.run.Given as goal

abbrev pub invariant-loop-time : goal.invariant-loop-time
invariant-loop-time l = l.self.out.items ≡ l.initial.self.out.items ++ replicate l._time l.sign
