-- Sums that are counted in 64 bits.
use Rattle.std.proofs.Common.{◌≡◌, ℕ, ◌+◌, ◌^◌, ◌≤◌, ◌<◌, min, arith}
use Rattle.flt_stack_crew.specs.Following.{IsSum}

-- so many more are counted
pub sum_more : (count sum more after later : ℕ) → IsSum count sum → after ≡ min (count + more) 18446744073709551615 →
    later ≡ sum + more → IsSum after later
sum_more count sum more after later so counted grown =
    (omega (arith, so.0, counted, grown), λ few. omega (arith, so.1 (omega (arith, few, grown)), counted, grown, few))
