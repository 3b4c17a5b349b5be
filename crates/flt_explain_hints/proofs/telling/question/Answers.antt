use Rattle.std.specs.Prelude.{codes}
use Rattle.flt_explain_hints.specs.Telling.{question, quoted}
use Rattle.flt_explain_hints.proofs.Written.{three_pieces}
use Rattle.flt_explain_hints.proofs.telling.question.Goals as goal

pub returns : goal.returns
unfolding question
returns c =
    three_pieces c.text-2.result c.args.out.now.items _ _ _ (codes "did you mean ") (quoted c.args.word.now) (codes "?")
    c.in_ok-text.ensures c.in_ok-quoted.ensures c.text-2.ensures
