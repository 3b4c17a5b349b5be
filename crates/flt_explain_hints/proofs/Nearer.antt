-- The nearest of some is found one after the other.
use Rattle.std.proofs.Common.{◌≡◌, Option, Some, None, refl, arith}
use Rattle.std.proofs.lemmas.Bool.Decides.{nat_tests}
use Rattle.flt_explain_hints.specs.Misspelt.{nearer}
use Rattle.flt_explain_hints.specs.declared.misspelt.NearAbsence.{NearAbsence}

-- the nearest of three, from the first on or from the last on
pub nearer_in_turn : (a b c : Option NearAbsence) → nearer (nearer a b) c ≡ nearer a (nearer b c)
nearer_in_turn None b c = refl
nearer_in_turn (Some x) None c = refl
nearer_in_turn (Some x) (Some y) None = grind (arith, nat_tests)
nearer_in_turn (Some x) (Some y) (Some z) = grind (arith, nat_tests)
