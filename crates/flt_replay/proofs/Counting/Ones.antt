-- The ones that are counted: 1 where numbers are equal, and only of the activation that is asked for.
use Rattle.std.proofs.Common.{◌≡◌, ◌≢◌, ℕ, arith}
use Rattle.std.proofs.lemmas.Bool.Decides.{nat_tests}
use Rattle.flt_model.specs.Trace.{one_if, of_actor}

-- a number is counted once where it is itself
pub one_here : (n : ℕ) → one_if n n ≡ 1
unfolding one_if
one_here n = grind (arith, nat_tests)

-- another number isn't counted
pub one_elsewhere : (k n : ℕ) → k ≢ n → one_if k n ≡ 0
unfolding one_if
one_elsewhere k n h = grind (arith, nat_tests)

-- what an activation has is counted for itself
pub actor_here : (a n : ℕ) → of_actor a a n ≡ n
unfolding of_actor
actor_here a n = grind (arith, nat_tests)

-- what an activation has isn't counted for another one
pub actor_elsewhere : (a b n : ℕ) → a ≢ b → of_actor a b n ≡ 0
unfolding of_actor
actor_elsewhere a b n h = grind (arith, nat_tests)

-- nothing is nothing for every activation
pub actor_none : (a b : ℕ) → of_actor a b 0 ≡ 0
unfolding of_actor
actor_none a b = grind (arith, nat_tests)
