use Rattle.std.proofs.Common.{List, take}
use Rattle.json.specs.Token.{Token}
use Rattle.flt_explain_parts.specs.Members.{Added}
use Rattle.flt_explain_sarif.specs.RunFlow.{flows_in}
use Rattle.flt_explain_sarif.specs.Sarif.{AreResults}
use Rattle.flt_explain_sarif.proofs.as_sarif.put_sources.Given as goal

abbrev pub invariant-loop-number : goal.invariant-loop-number
invariant-loop-number l =
    (ts : List Token) × AreResults l.options l.names (flows_in l.runs) 0 (take l.number l.sources) ts l.status
    × Added l.initial.writer l.writer ts
