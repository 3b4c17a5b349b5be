use Rattle.std.proofs.Common.{◌++◌, max, ap, refl, ◌∙◌}
use Rattle.flt_explain_parts.specs.Rules.{drift_rules}
use Rattle.flt_explain_parts.proofs.Adding.{both}
use Rattle.flt_explain_sarif.specs.DriftResults.{drift_results}
use Rattle.flt_explain_sarif.specs.RunFlow.{flows_in}
use Rattle.flt_explain_sarif.specs.Sarif.{IsRun, run_members}
use Rattle.flt_explain_sarif.proofs.as_sarif.put_run_members.Goals as goal

pub returns : goal.returns
returns c =
    let tool = c.in_ok-put_tool.ensures in
    let found = c.in_ok-own.ensures in
    let status = c.greater-status.result in
    let rules = tool.0 ++ drift_rules c.args.drifted.now in
    let results = found.0 ++ drift_results c.args.names.now c.args.drifted.now in
    let members = run_members rules c.args.names.now c.args.unread.now results status in
    let runs = flows_in c.args.runs in
    let is : IsRun c.args.options c.args.names.now runs c.args.sources.now c.args.unread.now c.args.drifted.now members status = record {
      rules = tool.0;
      described = tool.1;
      results = found.0;
      own = c.in_ok-own.own;
      found = found.1;
      greatest = c.greater-status.ensures ∙ ap (max c.in_ok-own.own) c.drift_status.ensures;
      members = refl;
    } in
    (members, is, both tool.2 (both c.in_ok-put_setting.ensures.ok (both found.2 c.in_ok-put_invocations.ensures.ok)))
