use Rattle.std.proofs.Common.{◌-◌, ◌+◌, drop, sym, ap, ◌∙◌}
use Rattle.flt_syntax.specs.Scope.{scope_of}
use Rattle.flt_syntax.specs.Statement.{block, statement, statements_from}
use Rattle.flt_syntax.proofs.Onto.{turn_on, below_more, fits_more}
use Rattle.flt_syntax.proofs.Turns.{turn_left}
use Rattle.flt_syntax.proofs.statement.+parser.Goals as goal

pub statements-loop-turn-preserved : goal.statements-loop-turn-preserved
statements-loop-turn-preserved t c =
    let scope = scope_of c.args.scope.now in
    let inner = block scope c.args.depth in
    let start = c.len-start.result in
    let stack = c.loop-turn.stack.items in
    let i = c.loop-turn.tokens.rest.now in
    let more = c.statement.new.stack.items in
    let new = c.statement.new.tokens.rest.now in
    let read = statement scope inner c.args.repeats in
    record {
      same = c.loop-turn.invariant.same
          ∙ (ap (λ n. statements_from scope inner n c.args.repeats (drop start stack) i)
          (turn_left c.left-turn-end.result c.loop-turn._turn c.loop-turn-test.true)
          ∙ turn_on scope inner (c.left-turn-end.result - (c.loop-turn._turn + 1)) c.args.repeats start stack more i new
          (sym c.sees.ensures ∙ c.if-sees.false) c.loop-turn.invariant.fits c.in_ok-statement.ensures);
      below = below_more read start stack more i new c.loop-turn.invariant.fits c.in_ok-statement.ensures
          ∙ c.loop-turn.invariant.below;
      fits = fits_more read start stack more i new c.loop-turn.invariant.fits c.in_ok-statement.ensures;
    }
