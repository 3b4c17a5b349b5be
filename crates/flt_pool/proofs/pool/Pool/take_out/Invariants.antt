use Rattle.std.proofs.Common.{◌≡◌}
use Rattle.crossbeam_deque.specs.Injected.{injector_view, IsInjectorPassOf}
use Rattle.flt_pool.proofs.pool.Pool.take_out.Given as goal

abbrev pub invariant-loop : goal.invariant-loop
invariant-loop g l = IsInjectorPassOf l.self.inlet l.pass × (injector_view l.pass ≡ injector_view l.initial.pass)
