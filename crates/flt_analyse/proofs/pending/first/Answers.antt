use Rattle.std.proofs.Common.{rules, get_or, sym, arith}
use Rattle.std.specs.Int.{w64}
use Rattle.std.proofs.lemmas.Nat.Bits.{bit_at-trailing_zeros}
use Rattle.flt_analyse.proofs.Bits.{first_is, least_none}
use Rattle.flt_analyse.proofs.pending.first.Goals as goal

pub returns-then-word-ne0-clause-value : goal.returns-then-word-ne0-clause-value
returns-then-word-ne0-clause-value c =
    let low = bit_at-trailing_zeros w64 (get_or c.args.words.now c.words.index 0) (omega arith) (search rules) in
    first_is c.args.words.now c.words.index _ (omega arith) low.0 c.words.invariant low.1 low.2

pub returns-clause-value : goal.returns-clause-value
returns-clause-value c = sym (least_none c.args.words.now (λ k l. c.words.invariant k (omega arith)))
