use Rattle.std.proofs.Common.{◌≡◌, ◌≤◌, ◌-◌, ◌++◌, List, ℕ, drop, length}
use Rattle.std.specs.Io.KnownBytes.{Appends}
use Rattle.flt_door.specs.Door.{at_door}
use Rattle.flt_door.proofs.door.put_let_out.Given as goal

abbrev pub invariant-loop-at : goal.invariant-loop-at
invariant-loop-at g l = record {
  within : l.at ≤ length l.bytes;
  taken : (front : List ℕ) × Appends (g.O.Sink.taken l.fn.out) (g.O.Sink.taken l.out) front
      × (at_door l.bytes ≡ front ++ at_door (drop l.at l.bytes));
  fine : g.O.Sink.failures l.out ≡ g.O.Sink.failures l.fn.out;
}

abbrev pub decreases-loop-at : goal.decreases-loop-at
decreases-loop-at g l = length l.bytes - l.at
