use Rattle.std.proofs.Common.{◌≡◌, ◌<◌, ℕ, false, length, get_or}
use Rattle.std.specs.Prelude.{nat_lt}
use Rattle.flt_cert.proofs.kept.joined_points.Given as goal

abbrev pub invariant-loop-point : goal.invariant-loop-point
invariant-loop-point l = record {
  long : length l.joined ≡ 512;
  each : (p : ℕ) → p < l.point → get_or l.joined p false ≡ nat_lt 1 (get_or l.edges p 0);
}
