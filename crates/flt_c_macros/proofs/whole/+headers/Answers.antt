use Rattle.std.proofs.Common.{sym, subst, ◌∙◌, arith}
use Rattle.flt_c_macros.proofs.Headers.{enters}
use Rattle.flt_c_macros.specs.States.{Does}
use Rattle.flt_c_macros.proofs.whole.+headers.Goals as goal

pub enter-returns-clause-done : goal.enter-returns-clause-done
enter-returns-clause-done t c =
    subst (λ o. Does o c.read.result c.read.new.spellings c.read.new.state)
    (enters c.args.kept.now c.args.headers.now c.args.at c.args.number (c.args.spellings.now, c.args.state.now) c.args.depth
    c.in-Some.tokens.now c.as_slice.result.now c.enter.new.self (sym c.has_read.ensures ∙ c.if-has_read.false)
    (sym (rw c.in-Some.is at c.tokens_of.ensures)) (omega (arith, c.if-depth-eq0.false)) c.in_ok-enter.ensures c.as_slice.ensures)
    c.read.ensures.done
