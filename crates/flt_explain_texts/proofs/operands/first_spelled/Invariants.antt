use Rattle.std.proofs.Common.{◌≡◌, drop}
use Rattle.std.specs.List.{find}
use Rattle.flt_explain_texts.specs.Operands.{spells}
use Rattle.flt_explain_texts.proofs.operands.first_spelled.Given as goal

abbrev pub invariant-loop-token : goal.invariant-loop-token
invariant-loop-token l = find (spells l.statement l.word) (drop l.token-index l.tokens) ≡ find (spells l.statement l.word) l.tokens
