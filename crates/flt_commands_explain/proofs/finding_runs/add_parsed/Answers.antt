use Rattle.flt_commands_explain.specs.FindingRuns as spec
use Rattle.flt_commands_explain.proofs.finding_runs.add_parsed.Goals as goal

pub returns-in_ok-push-in-Ok-3 : goal.returns-in_ok-push-in-Ok-3
returns-in_ok-push-in-Ok-3 c =
    rw (c.in_ok-push-in-Ok-3.ensures.items, c.in_ok-push-in-Ok.ensures.items, c.in_ok-push-in-Ok-2.ensures.ok)
    (spec.parses c.in-Ok.tree c.in-Ok.ensures.spelled)

pub returns-in-Err-Syntax : goal.returns-in-Err-Syntax
returns-in-Err-Syntax c = spec.fails (rw c.in-Err-Syntax.field-0-is at c.in-Err-Syntax.ensures.fault)
