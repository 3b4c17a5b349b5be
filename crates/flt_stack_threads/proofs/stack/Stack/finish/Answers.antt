use Rattle.std.proofs.Common.{◌≡◌, true, false, sym, ◌∙◌}
use Rattle.flt_stack_threads.proofs.stack.Stack.finish.Goals as goal

pub returns-clause-differ : goal.returns-clause-differ
returns-clause-differ g c = λ same. let e : true ≡ false = sym (c.end-journal.ensures.agree.1 same) ∙ c.if-same.false in absurd (cc)
