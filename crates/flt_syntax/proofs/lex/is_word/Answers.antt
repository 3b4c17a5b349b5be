use Rattle.std.proofs.Common.{false, refl, arith}
use Rattle.flt_syntax.specs.declared.lex.TheConstants.{WORD_BYTES}
use Rattle.flt_syntax.proofs.Cut.{table_agrees}
use Rattle.flt_syntax.proofs.lex.is_word.Goals as goal

pub returns : goal.returns
returns c = table_agrees WORD_BYTES false 256 c.args.b (omega arith) refl
