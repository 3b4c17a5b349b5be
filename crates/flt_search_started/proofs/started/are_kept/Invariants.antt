use Rattle.std.proofs.Common.{◌≡◌, ℕ, ◌<◌, true}
use Rattle.flt_search_started.specs.Marks.{is_kept}
use Rattle.flt_search_started.proofs.started.are_kept.Given as goal

-- the callbacks before this number are kept
abbrev pub invariant-loop-number : goal.invariant-loop-number
invariant-loop-number l = (k : ℕ) → k < l.number → is_kept l.callbacks l.marks k ≡ true
