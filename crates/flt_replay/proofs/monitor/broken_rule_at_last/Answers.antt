use Rattle.std.proofs.Common.{rules}
use Rattle.flt_replay_world.specs.Filters.{filters_of}
use Rattle.flt_replay.proofs.Judging.Lesser.{breaks_rule}
use Rattle.flt_replay.proofs.monitor.broken_rule_at_last.Goals as goal

pub returns : goal.returns
returns c =
    breaks_rule (filters_of c.args.trees.now) c.in_ok-stack.stack c.args.journal.now c.in-Some.before.now c.in-Some.last.now
    c.last_rule-rule.result c.in_ok-stack.ensures (search rules) c.last_rule-rule.ensures
