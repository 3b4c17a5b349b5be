use Rattle.std.proofs.Common.{◌≡◌, ◌==◌, ◌-◌, ◌+◌, ◌≤◌, length, drop}
use Rattle.std.specs.List.{position_or_len}
use Rattle.flt_cert.proofs.lines.len_of_few.Given as goal

abbrev pub invariant-loop-len : goal.invariant-loop-len
invariant-loop-len l =
    (position_or_len (λ b. b == 10) l.text ≡ l.len + position_or_len (λ b. b == 10) (drop l.len l.text)) × (l.len ≤ length l.text)

abbrev pub decreases-loop-len : goal.decreases-loop-len
decreases-loop-len l = length l.text - l.len
