use Rattle.std.proofs.Common.{sym, ◌∙◌}
use Rattle.flt_syntax.proofs.FirstBytes.{short_variable}
use Rattle.flt_syntax.proofs.lex.variable_at.Goals as goal

pub returns-in-len3-up : goal.returns-in-len3-up
returns-in-len3-up c =
    short_variable c.args.z.now c.variable.result c.in-len3-up.len_at_least c.variable.ensures
    (sym c.is_word.ensures ∙ c.if-not-is_word.true)
