use Rattle.std.proofs.Common.{◌≡◌, drop}
use Rattle.flt_explain_texts.specs.Operands.{first_or, last_spelled}
use Rattle.flt_explain_texts.proofs.operands.last_spelled.Given as goal

abbrev pub invariant-loop-token : goal.invariant-loop-token
invariant-loop-token l =
    first_or (last_spelled l.statement l.word (drop l.token-index l.tokens)) l.found ≡ last_spelled l.statement l.word l.tokens
