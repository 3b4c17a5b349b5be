use Rattle.std.proofs.Common.{rules}
use Rattle.flt_stack_threads.proofs.Bits.{none_from}
use Rattle.flt_stack_threads.proofs.word.has_none_from.Goals as goal

pub returns : goal.returns
returns c = λ gone. none_from c.args.bits c.args.bit (search rules)
