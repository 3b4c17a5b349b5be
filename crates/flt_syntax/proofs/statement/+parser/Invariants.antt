use Rattle.std.proofs.Common.{◌≡◌, ◌+◌, ◌-◌, ◌*◌, ◌≤◌, drop, take, length}
use Rattle.flt_syntax.specs.Scope.{scope_of}
use Rattle.flt_syntax.specs.Statement.{block, statements, statements_from}
use Rattle.flt_syntax.proofs.statement.+parser.Given as goal

abbrev pub decreases-block : goal.decreases-block
decreases-block l = 5 * l.depth

abbrev pub decreases-otherwise : goal.decreases-otherwise
decreases-otherwise l = 5 * l.depth + 1

abbrev pub decreases-choice : goal.decreases-choice
decreases-choice l = 5 * l.depth + 2

abbrev pub decreases-repetition : goal.decreases-repetition
decreases-repetition l = 5 * l.depth + 2

abbrev pub decreases-statement : goal.decreases-statement
decreases-statement l = 5 * l.depth + 3

abbrev pub decreases-statements : goal.decreases-statements
decreases-statements l = 5 * l.depth + 4

abbrev pub invariant-statements-loop-turn : goal.invariant-statements-loop-turn
invariant-statements-loop-turn l =
    let scope = scope_of l.scope in
    record {
      same : statements scope (block scope l.depth) l.repeats l.fn.tokens.rest.now
          ≡ statements_from scope (block scope l.depth) (l._turn-end - l._turn) l.repeats (drop l.start l.stack.items) l.tokens.rest.now;
      below : take l.start l.stack.items ≡ l.fn.stack.items;
      fits : l.start ≤ length l.stack.items;
    }
