use Rattle.std.proofs.Common.{◌≡◌, drop}
use Rattle.flt_c_drift.specs.Tokens.{brackets_from}
use Rattle.flt_c_drift.specs.declared.tokens.Brackets.TheVariants as bracket
use Rattle.flt_c_drift.proofs.tokens.is_enclosed.Given as goal

abbrev pub invariant-loop-b : goal.invariant-loop-b
invariant-loop-b l = brackets_from l.brackets (drop l.b-index l.tokens) ≡ brackets_from bracket.Nothing l.tokens
