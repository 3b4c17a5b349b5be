use Rattle.std.proofs.Common.{List, take}
use Rattle.json.specs.Token.{Token}
use Rattle.flt_explain_parts.specs.Members.{Added}
use Rattle.flt_explain_parts.specs.Rules.{AreRules}
use Rattle.flt_explain_parts.proofs.rules.put_rules.Given as goal

abbrev pub invariant-loop-reported : goal.invariant-loop-reported
invariant-loop-reported l = (ts : List Token) × AreRules (take l.reported-index l.rules) ts × Added l.initial.writer l.writer ts
