-- Each major function's name has what is cut off.
use Rattle.std.proofs.Common.{arith, ◌≡◌, ◌≤◌, ◌+◌, ◌-◌, length, refl}
use Rattle.std.proofs.lemmas.Bool.{eqb-true}
use Rattle.std.specs.Prelude.{◌==◌}
use Rattle.flt_rules.proofs.Operations.{of_each}
use Rattle.flt_rules.specs.Place.{major_name}
use Rattle.flt_rules.specs.declared.place.Operation.{Operation}

-- it is at least as long as that
pub long : (kind : Operation) → 7 ≤ length (major_name kind)
long kind =
    let h = eqb-true _ _ (of_each (λ o. 7 + (length (major_name o) - 7) == length (major_name o)) refl kind) in
    omega (arith, h)
