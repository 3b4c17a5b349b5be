use Rattle.std.proofs.Common.{◌≡◌, ◌/◌, ◌^◌}
use Rattle.flt_explain_timeline.proofs.text.has_bit.Given as goal

-- the bits below are gone
abbrev pub invariant-loop-place : goal.invariant-loop-place
invariant-loop-place l = l.left ≡ l.fn.bits / 2 ^ l._place
