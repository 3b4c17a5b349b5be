use Rattle.std.proofs.Common.{◌<◌, ℕ, length}
use Rattle.flt_graph.specs.Graph.{points_at}
use Rattle.flt_analyse.proofs.analyser.has_room.Given as goal

abbrev pub invariant-rooms : goal.invariant-rooms
invariant-rooms l = record {
  some : 0 < length l.graph.callbacks;
  few : length l.graph.callbacks < 17;
  points : (c : ℕ) → c < l.callback → (0 < points_at l.graph c) × (points_at l.graph c < 513);
}
