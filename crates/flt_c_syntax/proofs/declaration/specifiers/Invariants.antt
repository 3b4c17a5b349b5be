use Rattle.std.proofs.Common.{◌≡◌, ◌-◌}
use Rattle.flt_c_syntax.specs.Cursor.{many, many_from}
use Rattle.flt_c_syntax.specs.Statement.{specifier}
use Rattle.flt_c_syntax.proofs.declaration.specifiers.Given as goal

abbrev pub invariant-loop-turn : goal.invariant-loop-turn
invariant-loop-turn l =
    let step = specifier in
    many step l.fn.tokens.rest.now ≡ many_from step (l._turn-end - l._turn) l.found l.tokens.rest.now
