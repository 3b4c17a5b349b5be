-- What a look-up by a number says of a key.
use Rattle.std.proofs.Common.{◌≡◌, ◌≢◌, ◌<◌, ℕ, true, false, ◌==◌, arith, sym}
use Rattle.std.proofs.lemmas.Bool.Decides.{nat_tests}
use Rattle.std.proofs.lemmas.Cmp.{ranked}
use Rattle.std.specs.BTreeMap.{is_at}
use Rattle.std.specs.Ordering.{nat_cmp}
use Rattle.std.specs.declared.cmp.Ordering.TheVariants.{Less}

pub at_is : (n k : ℕ) → is_at (nat_cmp n) k ≡ (n == k)
at_is n k = grind (arith, nat_tests)

-- a number is found at itself
pub at_self : (n : ℕ) → is_at (nat_cmp n) n ≡ true
at_self n = grind (arith, nat_tests)

-- another number isn't found at it
pub at_other : (n k : ℕ) → k ≢ n → is_at (nat_cmp n) k ≡ false
at_other n k h = grind (arith, nat_tests)

-- the key is a later one
pub at_later : (n k : ℕ) → n < k → is_at (nat_cmp n) k ≡ false
at_later n k h = grind (arith, nat_tests)

-- the key is an earlier one
pub at_earlier : (n k : ℕ) → k < n → is_at (nat_cmp n) k ≡ false
at_earlier n k h = grind (arith, nat_tests)

-- a number that compares as less is less
pub less_is : (n k : ℕ) → nat_cmp n k ≡ Less → n < k
less_is n k h = ranked n k Less (sym h)
