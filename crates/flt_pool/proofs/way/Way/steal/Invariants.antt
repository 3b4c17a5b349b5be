use Rattle.std.proofs.Common.{◌≡◌}
use Rattle.crossbeam_deque.specs.Handles.{view, stealer_deque}
use Rattle.flt_pool.proofs.way.Way.steal.Given as goal

abbrev pub invariant-loop : goal.invariant-loop
invariant-loop g l = (view l.self.pass ≡ view l.initial.self.pass) × (stealer_deque l.self.thief ≡ stealer_deque l.initial.self.thief)
