use Rattle.std.proofs.Common.{◌≡◌, ◌+◌, ◌-◌, ◌*◌}
use Rattle.flt_c_syntax.specs.Cursor.{many, many_from}
use Rattle.flt_c_syntax.specs.Statement.{else_if, else_branch, next_statement, nested}
use Rattle.flt_c_syntax.proofs.statement.+statement.Given as goal

abbrev pub decreases-nested : goal.decreases-nested
decreases-nested l = 10 * l.depth

abbrev pub decreases-else_if : goal.decreases-else_if
decreases-else_if l = 10 * l.depth + 1

abbrev pub decreases-else_ifs : goal.decreases-else_ifs
decreases-else_ifs l = 10 * l.depth + 2

abbrev pub decreases-otherwise : goal.decreases-otherwise
decreases-otherwise l = 10 * l.depth + 1

abbrev pub decreases-choice : goal.decreases-choice
decreases-choice l = 10 * l.depth + 3

abbrev pub decreases-counting : goal.decreases-counting
decreases-counting l = 10 * l.depth + 1

abbrev pub decreases-repetition : goal.decreases-repetition
decreases-repetition l = 10 * l.depth + 1

abbrev pub decreases-guarded : goal.decreases-guarded
decreases-guarded l = 10 * l.depth + 1

abbrev pub decreases-else_branch : goal.decreases-else_branch
decreases-else_branch l = 10 * l.depth + 1

abbrev pub decreases-else_branches : goal.decreases-else_branches
decreases-else_branches l = 10 * l.depth + 2

abbrev pub decreases-directed : goal.decreases-directed
decreases-directed l = 10 * l.depth + 3

abbrev pub decreases-named : goal.decreases-named
decreases-named l = 10 * l.depth + 1

abbrev pub decreases-conditional : goal.decreases-conditional
decreases-conditional l = 10 * l.depth + 1

abbrev pub decreases-statement : goal.decreases-statement
decreases-statement l = 10 * l.depth + 5

abbrev pub decreases-next_statement : goal.decreases-next_statement
decreases-next_statement l = 10 * l.depth + 6

abbrev pub decreases-statements : goal.decreases-statements
decreases-statements l = 10 * l.depth + 7

abbrev pub decreases-body : goal.decreases-body
decreases-body l = 10 * l.depth + 8

abbrev pub invariant-else_ifs-loop-turn : goal.invariant-else_ifs-loop-turn
invariant-else_ifs-loop-turn l =
    let step = else_if l.known l.depth (nested l.known l.depth) in
    many step l.fn.tokens.rest.now ≡ many_from step (l._turn-end - l._turn) l.found l.tokens.rest.now

abbrev pub invariant-else_branches-loop-turn : goal.invariant-else_branches-loop-turn
invariant-else_branches-loop-turn l =
    let step = else_branch l.known l.depth (nested l.known l.depth) in
    many step l.fn.tokens.rest.now ≡ many_from step (l._turn-end - l._turn) l.found l.tokens.rest.now

abbrev pub invariant-statements-loop-turn : goal.invariant-statements-loop-turn
invariant-statements-loop-turn l =
    let step = next_statement l.known l.depth (nested l.known l.depth) in
    many step l.fn.tokens.rest.now ≡ many_from step (l._turn-end - l._turn) l.found l.tokens.rest.now
