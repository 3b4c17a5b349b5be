use Rattle.std.proofs.Common.{◌≡◌, take}
use Rattle.std.specs.Prelude.{filter, ◌==◌}
use Rattle.flt_model.specs.World.{visit_at}
use Rattle.flt_replay_world.proofs.world.World.visits_among.Given as goal

abbrev pub invariant-loop-visit : goal.invariant-loop-visit
invariant-loop-visit l = l.among.items ≡ filter (λ v. (visit_at l.self.store v).operation == l.operation) (take l.visit-index l.visits)
