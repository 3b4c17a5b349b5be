use Rattle.std.proofs.Common.{rules, arith}
use Rattle.flt_stack_threads.proofs.Bits.{all_clear}
use Rattle.flt_stack_threads.proofs.stack.Stack.cancel_all.Goals as goal

pub returns-then-seat-eq0-clause-tried : goal.returns-then-seat-eq0-clause-tried
returns-then-seat-eq0-clause-tried g c = λ bit _. all_clear _ (search rules) bit

pub returns-clause-tried : goal.returns-clause-tried
returns-clause-tried g c = λ bit below. c.loop-bit.invariant.tried bit (omega arith)
