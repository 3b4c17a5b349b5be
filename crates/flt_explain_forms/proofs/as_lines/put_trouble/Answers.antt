use Rattle.std.proofs.Common.{◌≡◌, ◌++◌, ℕ, List, IfOk, ap, subst, ◌∙◌}
use Rattle.flt_explain_parts.specs.Help.{help_in, help_of, open_line}
use Rattle.flt_explain_parts.specs.Members.{line_of}
use Rattle.flt_explain_forms.specs.Fault.{fault}
use Rattle.flt_explain_hints.specs.Telling.{notes_of, title_of}
use Rattle.flt_explain_forms.proofs.as_lines.put_trouble.Goals as goal

pub returns : goal.returns
unfolding help_of
returns c =
    let files = c.args.files.now in
    let trouble = c.args.trouble.now in
    let line : c.as_slice.result.now ≡ open_line files trouble = c.as_slice.ensures.value ∙ c.in_ok-line.ensures in
    let help : c.in_ok-help.help.items ≡ help_of files trouble =
    c.in_ok-help.ensures ∙ ap help_in (c.in_ok-told.ensures.notes ∙ ap (notes_of trouble) line) in
    let same : line_of (fault files trouble c.in_ok-told.told.title.items c.in_ok-help.help.items)
    ≡ line_of (fault files trouble (title_of trouble) (help_of files trouble)) =
    λ i. line_of (fault files trouble (c.in_ok-told.ensures.title i) (help i)) in
    subst (λ (t : List ℕ). IfOk c.put_fault_line.result (λ v. v.items ≡ c.args.out.items ++ t)) same c.put_fault_line.ensures
