use Rattle.std.proofs.Common.{ℕ, ◌++◌, ap, ◌∙◌}
use Rattle.flt_explain_parts.proofs.Adding.{written}
use Rattle.flt_explain_parts.specs.Members.{line_of}
use Rattle.flt_explain_forms.specs.Warning.{warning}
use Rattle.flt_explain_forms.proofs.warning.put_line.Goals as goal

pub returns : goal.returns
returns c =
    written _ _ _ _ c.new-writer.ensures.before c.new-writer.ensures.tokens c.in_ok-put_warning.ensures.ok c.into_inner-out.ensures.items
    c.in_ok-push.ensures.items
    ∙ ap (λ (home : ℕ). c.args.out.items ++ line_of (warning c.args.files.now home c.args.detail.now)) c.file_at-home.ensures
