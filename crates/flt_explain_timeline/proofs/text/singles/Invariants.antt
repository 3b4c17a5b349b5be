use Rattle.std.proofs.Common.{◌≡◌, map}
use Rattle.std.specs.List.{range_with_len}
use Rattle.flt_explain_timeline.specs.Text.{single}
use Rattle.flt_explain_timeline.proofs.text.singles.Given as goal

-- the rows so far
abbrev pub invariant-loop-first : goal.invariant-loop-first
invariant-loop-first l = l.rows ≡ map single (range_with_len 0 l.first)
