use Rattle.std.specs.Prelude.{codes}
use Rattle.flt_explain_hints.specs.OpenCall.{word_of}
use Rattle.flt_explain_hints.specs.Telling.{incomplete, quoted}
use Rattle.flt_explain_hints.proofs.Written.{four_pieces}
use Rattle.flt_explain_hints.proofs.telling.incomplete.Goals as goal

pub returns : goal.returns
unfolding incomplete
returns c =
    four_pieces c.bytes.result c.args.out.now.items _ _ _ _ (codes "the call before this isn't complete: ")
    (quoted (word_of c.args.call.kind)) (codes " in line ") c.args.line.now
    c.in_ok-text.ensures (rw c.word.ensures at c.in_ok-quoted.ensures) c.in_ok-text-2.ensures c.bytes.ensures
