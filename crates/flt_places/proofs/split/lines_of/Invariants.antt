use Rattle.std.proofs.Common.{◌≡◌, ◌≤◌, ◌==◌, ◌++◌, ◌-◌, length, map}
use Rattle.std.specs.List.{position_or_len, slice_split}
use Rattle.flt_places.proofs.split.lines_of.Given as goal

abbrev pub invariant-loop-end : goal.invariant-loop-end
invariant-loop-end l = record {
  end : l.end ≡ position_or_len (λ b. b == 10) l.rest;
  within : l.end ≤ length l.rest;
  lines : map (λ b. b.now) l.lines.items ++ slice_split (λ b. b == 10) l.rest ≡ slice_split (λ b. b == 10) l.text;
}

abbrev pub decreases-loop-end : goal.decreases-loop-end
decreases-loop-end l = length l.rest
