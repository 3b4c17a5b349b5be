use Rattle.std.proofs.Common.{flat_map, take}
use Rattle.flt_explain_parts.specs.Members.{Added}
use Rattle.flt_explain_parts.specs.Rules.{drift_rule}
use Rattle.flt_explain_parts.proofs.rules.put_each_drift_rule.Given as goal

abbrev pub invariant-loop-kind : goal.invariant-loop-kind
invariant-loop-kind l = Added l.initial.writer l.writer (flat_map drift_rule (take l.kind-index l.kinds))
