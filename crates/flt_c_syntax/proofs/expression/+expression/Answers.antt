use Rattle.std.proofs.Common.{◌-◌, sym, ap, subst, ◌∙◌, arith}
use Rattle.flt_c_syntax.specs.Cursor.{Reads}
use Rattle.flt_c_syntax.specs.Expression.{expression, expression_as}
use Rattle.flt_c_syntax.proofs.Turns.{expression_inside}
use Rattle.flt_c_syntax.proofs.expression.+expression.Goals as goal

pub expression-returns-in-Whole : goal.expression-returns-in-Whole
expression-returns-in-Whole t c =
    let known = c.args.known.now in
    let i = c.args.tokens.now.rest.now in
    subst (λ o. Reads o c.level.result c.level.new.tokens.rest.now)
    (sym (expression_inside known c.args.depth c.args.role i (omega (arith, c.if-depth-eq0.false))
    ∙ ap (λ r. expression_as known (expression known (c.args.depth - 1)) r i) c.in-Whole.is)) c.level.ensures

pub expression-returns-in-Argument : goal.expression-returns-in-Argument
expression-returns-in-Argument t c =
    let known = c.args.known.now in
    let i = c.args.tokens.now.rest.now in
    subst (λ o. Reads o c.argument.result c.argument.new.tokens.rest.now)
    (sym (expression_inside known c.args.depth c.args.role i (omega (arith, c.if-depth-eq0.false))
    ∙ ap (λ r. expression_as known (expression known (c.args.depth - 1)) r i) c.in-Argument.is)) c.argument.ensures

pub expression-returns-in-Value : goal.expression-returns-in-Value
expression-returns-in-Value t c =
    let known = c.args.known.now in
    let i = c.args.tokens.now.rest.now in
    subst (λ o. Reads o c.value.result c.value.new.tokens.rest.now)
    (sym (expression_inside known c.args.depth c.args.role i (omega (arith, c.if-depth-eq0.false))
    ∙ ap (λ r. expression_as known (expression known (c.args.depth - 1)) r i) c.in-Value.is)) c.value.ensures
