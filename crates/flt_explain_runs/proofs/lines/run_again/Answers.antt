use Rattle.std.proofs.Common.{◌++◌, ◌∷◌, [], ◌∙◌, ap, append_assoc, sym}
use Rattle.std.specs.Prelude.{codes}
use Rattle.flt_explain_runs.specs.Lines.{again_words, lengths}
use Rattle.flt_explain_runs.proofs.lines.run_again.Goals as goal

pub returns : goal.returns
returns c =
    let words = again_words c.args.broken.now.violation c.args.broken.now.entry in
    let last = codes "; it is no run of this text, and `--journal` doesn't keep it:" ++ 10 ∷ [] in
    c.in_ok-line.ensures.ok ∙ ap (λ l. words ++ (l ++ last)) c.lengths_of-lengths.ensures
    ∙ sym (append_assoc words (lengths c.args.broken.now.journal) last)
