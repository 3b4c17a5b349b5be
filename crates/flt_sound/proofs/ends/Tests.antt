-- Small facts of tests.
use Rattle.std.proofs.Common.{◌≡◌, Bool, true, false, refl}
use Rattle.std.specs.Prelude.{not, ◌||◌}

-- what a thing implies is so where the thing is
pub implied : (x y : Bool) → (not x || y) ≡ true → x ≡ true → y ≡ true
implied true y e h = e
implied false y e h = absurd (cc)

-- what a thing needs is so where the thing is
pub needed : (x y : Bool) → (x || not y) ≡ true → y ≡ true → x ≡ true
needed true y e h = refl
needed false true e h = absurd (cc)
needed false false e h = absurd (cc)

-- where the checker's test implies a fact, what is wanted only where the test holds has that fact
pub allowed : (checked so wanted : Bool) → (checked ≡ true → so ≡ true) → (checked || not wanted) ≡ true → (not wanted || so) ≡ true
allowed checked so false f h = refl
allowed true so true f h = f refl
allowed false so true f h = absurd (cc)
