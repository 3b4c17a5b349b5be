use Rattle.std.proofs.Common.{◌≡◌, ◌+◌, ◌-◌, ◌*◌, suc}
use Rattle.flt_c_syntax.specs.Cursor.{many, many_from}
use Rattle.flt_c_syntax.specs.Expression.{designator, next_initialiser, next_argument, suffix, link, level, expression}
use Rattle.flt_c_syntax.proofs.expression.+expression.Given as goal

abbrev pub decreases-expression : goal.decreases-expression
decreases-expression l = 80 * l.depth

abbrev pub decreases-designator : goal.decreases-designator
decreases-designator l = 80 * l.depth + 3

abbrev pub decreases-designators : goal.decreases-designators
decreases-designators l = 80 * l.depth + 4

abbrev pub decreases-initialiser : goal.decreases-initialiser
decreases-initialiser l = 80 * l.depth + 5

abbrev pub decreases-next_initialiser : goal.decreases-next_initialiser
decreases-next_initialiser l = 80 * l.depth + 6

abbrev pub decreases-initialisers : goal.decreases-initialisers
decreases-initialisers l = 80 * l.depth + 7

abbrev pub decreases-braces : goal.decreases-braces
decreases-braces l = 80 * l.depth + 8

abbrev pub decreases-next_argument : goal.decreases-next_argument
decreases-next_argument l = 80 * l.depth + 3

abbrev pub decreases-arguments : goal.decreases-arguments
decreases-arguments l = 80 * l.depth + 4

abbrev pub decreases-suffix : goal.decreases-suffix
decreases-suffix l = 80 * l.depth + 5

abbrev pub decreases-suffixes : goal.decreases-suffixes
decreases-suffixes l = 80 * l.depth + 6

abbrev pub decreases-bracketed : goal.decreases-bracketed
decreases-bracketed l = 80 * l.depth + 9

abbrev pub decreases-named_cast : goal.decreases-named_cast
decreases-named_cast l = 80 * l.depth + 9

abbrev pub decreases-primary : goal.decreases-primary
decreases-primary l = 80 * l.depth + 10

abbrev pub decreases-unary : goal.decreases-unary
decreases-unary l = 80 * l.depth + 11

abbrev pub decreases-middle : goal.decreases-middle
decreases-middle l = 80 * l.depth + 3

abbrev pub decreases-argument : goal.decreases-argument
decreases-argument l = 80 * l.depth + 75

abbrev pub decreases-value : goal.decreases-value
decreases-value l = 80 * l.depth + 75

abbrev pub decreases-link_here : goal.decreases-link_here
decreases-link_here l = 80 * l.depth + 4 * l.n + 13

abbrev pub decreases-link : goal.decreases-link
decreases-link l = 80 * l.depth + 4 * l.n + 14

abbrev pub decreases-links : goal.decreases-links
decreases-links l = 80 * l.depth + 4 * l.n + 15

abbrev pub decreases-level : goal.decreases-level
decreases-level l = 80 * l.depth + 4 * l.n + 12

abbrev pub invariant-designators-loop-turn : goal.invariant-designators-loop-turn
invariant-designators-loop-turn l =
    let step = designator l.known (expression l.known l.depth) in
    many step l.fn.tokens.rest.now ≡ many_from step (l._turn-end - l._turn) l.found l.tokens.rest.now

abbrev pub invariant-initialisers-loop-turn : goal.invariant-initialisers-loop-turn
invariant-initialisers-loop-turn l =
    let step = next_initialiser l.known (expression l.known l.depth) in
    many step l.fn.tokens.rest.now ≡ many_from step (l._turn-end - l._turn) l.found l.tokens.rest.now

abbrev pub invariant-arguments-loop-turn : goal.invariant-arguments-loop-turn
invariant-arguments-loop-turn l =
    let step = next_argument l.known (expression l.known l.depth) in
    many step l.fn.tokens.rest.now ≡ many_from step (l._turn-end - l._turn) l.found l.tokens.rest.now

abbrev pub invariant-suffixes-loop-turn : goal.invariant-suffixes-loop-turn
invariant-suffixes-loop-turn l =
    let step = suffix l.known (expression l.known l.depth) in
    many step l.fn.tokens.rest.now ≡ many_from step (l._turn-end - l._turn) l.found l.tokens.rest.now

abbrev pub invariant-links-loop-turn : goal.invariant-links-loop-turn
invariant-links-loop-turn l =
    let step = link l.known (expression l.known l.depth) (suc l.n) (level l.known (expression l.known l.depth) l.n) in
    many step l.fn.tokens.rest.now ≡ many_from step (l._turn-end - l._turn) l.found l.tokens.rest.now
