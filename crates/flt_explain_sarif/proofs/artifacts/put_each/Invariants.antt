use Rattle.std.proofs.Common.{flat_map, take}
use Rattle.flt_explain_parts.specs.Members.{Added}
use Rattle.flt_explain_sarif.specs.Sarif.{artifact}
use Rattle.flt_explain_sarif.proofs.artifacts.put_each.Given as goal

abbrev pub invariant-loop-name : goal.invariant-loop-name
invariant-loop-name l = Added l.initial.writer l.writer (flat_map (λ n. artifact n.now) (take l.name-index l.names))
