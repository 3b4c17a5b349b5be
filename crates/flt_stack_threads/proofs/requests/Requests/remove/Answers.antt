use Rattle.std.proofs.Common.{w64}
use Rattle.std.proofs.lemmas.Nat.Bits.{bit_at_clear_other, bit_at_clear_same}
use Rattle.flt_stack_threads.proofs.requests.Requests.remove.Goals as goal

pub returns-clause-bits : goal.returns-clause-bits
returns-clause-bits c = (
  bit_at_clear_same w64 c.args.self.now.bits c.args.bit c.requires,
  bit_at_clear_other w64 c.args.self.now.bits c.args.bit c.requires,
)
