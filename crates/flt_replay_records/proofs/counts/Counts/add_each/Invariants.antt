use Rattle.std.proofs.Common.{◌≡◌, ℕ, ◌+◌, take}
use Rattle.flt_replay_records.specs.Counts.{count, occurs}
use Rattle.flt_replay_records.proofs.counts.Counts.add_each.Given as goal

abbrev pub invariant-loop-number : goal.invariant-loop-number
invariant-loop-number l = (n : ℕ) → count l.self n ≡ count l.initial.self n + occurs n (take l.number-index l.numbers)
