use Rattle.std.proofs.Common.{rules}
use Rattle.flt_stack_threads.proofs.Bits.{none_below}
use Rattle.flt_stack_threads.proofs.word.lowest_bit.Goals as goal

pub returns-clause-below : goal.returns-clause-below
returns-clause-below c = none_below c.args.bits (search rules) (search rules)
