use Rattle.std.proofs.Common.{arith, subst}
use Rattle.flt_explain_texts.specs.declared.sources.Source.{Source}
use Rattle.flt_explain_forms.specs.Lines.{IsPart}
use Rattle.flt_explain_forms.specs.RunMember.{members_in}
use Rattle.flt_explain_forms.proofs.Sources.{one_more_told}
use Rattle.flt_explain_forms.proofs.as_lines.put_sources.Goals as goal

pub loop-number-preserved : goal.loop-number-preserved
loop-number-preserved c =
    let one = c.in_ok-one.ensures in
    let runs = members_in c.args.runs c.loop-number.number in
    let part = subst (λ (s : Source). IsPart c.args.style c.args.options runs s one.0 c.in_ok-one.one.status)
    c.index-sources-number.is one.1 in
    one_more_told c.args.sources.now c.loop-number.number c.index-sources-number.result (omega (arith, c.loop-number-test.true))
    c.args.style c.args.options
    (members_in c.args.runs) _ _ one.0 _ _ _ _ c.loop-number.invariant part one.2 c.greater.ensures
