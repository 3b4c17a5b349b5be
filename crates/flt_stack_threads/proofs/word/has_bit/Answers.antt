use Rattle.flt_stack_threads.proofs.Bits.{is_set}
use Rattle.flt_stack_threads.proofs.word.has_bit.Goals as goal

pub returns : goal.returns
returns c = is_set c.args.bits c.args.bit c.requires
