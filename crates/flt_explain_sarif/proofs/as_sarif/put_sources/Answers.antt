use Rattle.std.proofs.Common.{◌++◌, arith, subst}
use Rattle.flt_explain_texts.specs.declared.sources.Source.{Source}
use Rattle.flt_explain_parts.proofs.Adding.{both}
use Rattle.flt_explain_sarif.specs.RunFlow.{flows_in}
use Rattle.flt_explain_sarif.specs.Sarif.{IsPart}
use Rattle.flt_explain_sarif.proofs.Sources.{one_more_shown}
use Rattle.flt_explain_sarif.proofs.as_sarif.put_sources.Goals as goal

pub loop-number-preserved : goal.loop-number-preserved
loop-number-preserved c =
    let sofar = c.loop-number.invariant in
    let one = c.in_ok-own.ensures in
    let runs = flows_in c.args.runs c.loop-number.number in
    let part = subst (λ (s : Source). IsPart c.args.options c.args.names.now runs s one.0 c.in_ok-own.own)
    c.index-sources-number.is one.1 in (
      sofar.0 ++ one.0,
      one_more_shown c.args.sources.now c.loop-number.number c.index-sources-number.result (omega (arith, c.loop-number-test.true))
          c.args.options c.args.names.now
          (flows_in c.args.runs) sofar.0 one.0 _ _ _ sofar.1 part c.greater-status.ensures,
      both sofar.2 one.2,
    )
