use Rattle.std.proofs.Common.{◌≡◌, map}
use Rattle.flt_replay_records.proofs.sparse_counts.SparseCounts.numbers.Given as goal

abbrev pub invariant-loop-number : goal.invariant-loop-number
invariant-loop-number l = l.numbers.items ≡ map (λ n. n.now) l.yielded
