use Rattle.std.proofs.Common.{◌≡◌, ◌≤◌, ◌+◌, length, map}
use Rattle.flt_commands_explain.specs.Sources as spec
use Rattle.flt_commands_explain.proofs.sources.bytes_in.Given as goal

abbrev pub invariant-loop-joined : goal.invariant-loop-joined
invariant-loop-joined l = record {
  same : map (λ bytes. bytes.items) l.all.items ≡ spec.bytes_in l.yielded;
  room : length l.all.items + length l.joined-iterator.rest.items ≤ l.all.cap;
}
