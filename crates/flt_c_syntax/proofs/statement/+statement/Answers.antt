use Rattle.std.proofs.Common.{◌-◌, sym, ap, subst, ◌∙◌, arith}
use Rattle.flt_c_syntax.specs.Cursor.{Reads}
use Rattle.flt_c_syntax.specs.Statement.{nested, nested_as}
use Rattle.flt_c_syntax.proofs.Turns.{nested_inside}
use Rattle.flt_c_syntax.proofs.statement.+statement.Goals as goal

pub nested-returns-in-Body : goal.nested-returns-in-Body
nested-returns-in-Body t c =
    let known = c.args.known.now in
    let i = c.args.tokens.now.rest.now in
    subst (λ o. Reads o c.body.result c.body.new.tokens.rest.now)
    (sym (nested_inside known c.args.depth c.args.nest i (omega (arith, c.if-depth-eq0.false))
    ∙ ap (λ n. nested_as known (c.args.depth - 1) (nested known (c.args.depth - 1)) n i) c.in-Body.is)) c.body.ensures

pub nested-returns-in-Branch : goal.nested-returns-in-Branch
nested-returns-in-Branch t c =
    let known = c.args.known.now in
    let i = c.args.tokens.now.rest.now in
    subst (λ o. Reads o c.statements.result c.statements.new.tokens.rest.now)
    (sym (nested_inside known c.args.depth c.args.nest i (omega (arith, c.if-depth-eq0.false))
    ∙ ap (λ n. nested_as known (c.args.depth - 1) (nested known (c.args.depth - 1)) n i) c.in-Branch.is)) c.statements.ensures
