use Rattle.std.proofs.Common.{◌≡◌, length}
use Rattle.flt_cert.proofs.Counted.{Marked}
use Rattle.flt_cert.proofs.kept.keep_repeats.Given as goal

abbrev pub invariant-loop-point : goal.invariant-loop-point
invariant-loop-point l = record {
  long : length l.kept ≡ 512;
  marked : Marked l.kept l.initial.kept l.graph l.callback l.point;
}
