use Rattle.std.proofs.Common.{◌≡◌, length}
use Rattle.flt_cert.specs.Counts.{AreCounts, edges_so_far}
use Rattle.flt_cert.proofs.kept.edges_in.Given as goal

abbrev pub invariant-loop-point : goal.invariant-loop-point
invariant-loop-point l = record {
  long : length l.edges ≡ 512;
  counts : AreCounts l.edges (edges_so_far l.graph l.callback l.point);
}
