use Rattle.std.proofs.Common.{◌≡◌, ◌+◌, ◌-◌, ℕ, length, get_or}
use Rattle.flt_replay.specs.Rows.{blank}
use Rattle.flt_replay.proofs.ledger.rows.Rows.grow.Given as goal

abbrev pub invariant-loop-self : goal.invariant-loop-self
invariant-loop-self l = (l.self-inside.others ≡ l.initial.self-inside.others)
    × ((a : ℕ) → get_or l.self-inside.firsts.items a blank ≡ get_or l.initial.self-inside.firsts.items a blank)

abbrev pub decreases-loop-self : goal.decreases-loop-self
decreases-loop-self l = l.activation + 1 - length l.self-inside.firsts.items
