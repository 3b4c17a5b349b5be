use Rattle.std.proofs.Common.{◌≡◌}
use Rattle.std.specs.Io.KnownBytes.{Appends}
use Rattle.std.specs.Prelude.{replicate}
use Rattle.flt_door.proofs.door.put_signs.Given as goal

abbrev pub invariant-loop-time : goal.invariant-loop-time
invariant-loop-time g l = record {
  taken : Appends (g.O.Sink.taken l.fn.out) (g.O.Sink.taken l.out) (replicate l._time l.sign);
  fine : g.O.Sink.failures l.out ≡ g.O.Sink.failures l.fn.out;
}
