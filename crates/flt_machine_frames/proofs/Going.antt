-- Many local steps: one more at the end of them, and that they come to an end.
use Rattle.std.proofs.Common.{◌≡◌, ℕ, zero, suc, ◌+◌, ◌≤◌, Bool, Option, Some, None, ap, sym, subst, arith}
use Rattle.std.specs.Prelude.{option_and_then}
use Rattle.flt_tree.specs.Measures.{cost}
use Rattle.flt_model.specs.LocalSteps.{local_step}
use Rattle.flt_model.specs.World.{Activation}
use Rattle.flt_model.proofs.LocalCosts.{IsCheaper, local_cheaper}
use Rattle.flt_machine_frames.specs.Leads.{locally}

-- one step more
pub locally_more : (draining : Bool) (n : ℕ) (act last further : Activation) → locally draining n act ≡ Some last →
    local_step draining last last.rest ≡ Some further → locally draining (suc n) act ≡ Some further
locally_more draining zero act last further e more =
    let same : act ≡ last = cc in
    let step : local_step draining act act.rest ≡ Some further =
    subst (λ (x : Activation). local_step draining x x.rest ≡ Some further) (sym same) more in
    ap (λ (o : Option Activation). option_and_then (locally draining zero) o) step
locally_more draining (suc n) act last further e more =
    by (local_step draining act act.rest) e (λ b h. locally_more draining n b last further h more)
  where
    by : (o : Option Activation) → option_and_then (locally draining n) o ≡ Some last →
        ((b : Activation) → locally draining n b ≡ Some last → locally draining (suc n) b ≡ Some further) →
        option_and_then (locally draining (suc n)) o ≡ Some further
    by None h ih = absurd (cc)
    by (Some b) h ih = ih b h

-- what remains has become so much cheaper
pub costs_fall : (draining : Bool) (n : ℕ) (act last : Activation) → locally draining n act ≡ Some last → cost last.rest + n ≤ cost act.rest
costs_fall draining zero act last e =
    let same : act ≡ last = cc in
    let less = ap (λ (x : Activation). cost x.rest) same in
    omega arith
costs_fall draining (suc n) act last e =
    by (local_step draining act act.rest) (local_cheaper draining act act.rest) e (λ b h. costs_fall draining n b last h)
  where
    by : (o : Option Activation) → IsCheaper (cost act.rest) o → option_and_then (locally draining n) o ≡ Some last →
        ((b : Activation) → locally draining n b ≡ Some last → cost last.rest + n ≤ cost b.rest) → cost last.rest + suc n ≤ cost act.rest
    by None less h fall = absurd (cc)
    by (Some b) less h fall = let lower : cost last.rest + n ≤ cost b.rest = fall b h in omega arith
