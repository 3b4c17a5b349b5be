use Rattle.std.proofs.Common.{ℕ, ◌++◌, ap, ◌∙◌}
use Rattle.flt_explain_parts.proofs.Adding.{written}
use Rattle.flt_explain_parts.specs.Members.{line_of}
use Rattle.flt_explain_parts.specs.Points.{region_at}
use Rattle.flt_explain_forms.specs.Finding.{finding}
use Rattle.flt_explain_forms.specs.RunMember.{member_of}
use Rattle.flt_explain_forms.proofs.finding.put_line.Goals as goal

pub returns : goal.returns
returns c =
    let region = region_at c.args.lines.now c.args.graph.now c.args.detail.now.finding.callback in
    written _ _ _ _ c.new-writer.ensures.before c.new-writer.ensures.tokens c.in_ok-put_finding.ensures.ok c.into_inner-out.ensures.items
    c.in_ok-push.ensures.items
    ∙ ap (λ (home : ℕ). c.args.out.items ++ line_of (finding c.args.files.now home region (member_of c.args.own) c.args.detail.now))
    c.file_at.ensures
