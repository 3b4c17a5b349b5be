use Rattle.std.proofs.Common.{◌≡◌, ◌++◌, ◌∷◌, [], subst}
use Rattle.std.specs.Prelude.{codes, OnOk}
use Rattle.flt_tree.specs.Names.{Text}
use Rattle.flt_explain_reports.specs.MarkWords.{mode_told}
use Rattle.flt_explain_reports.proofs.mark_words.tell_mode.Goals as goal

pub returns : goal.returns
unfolding mode_told
returns c =
    subst
    (λ (a : Text). OnOk c.texts.result (c.texts.new.self.out.items
    ≡ c.args.page.now.out.items ++ (codes " the operation might be " ++ (a ++ (c.args.mode.now ++ (codes " here" ++ 10 ∷ []))))))
    c.article-article.ensures c.texts.ensures
