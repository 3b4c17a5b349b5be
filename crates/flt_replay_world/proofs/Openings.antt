-- The world before the first move doesn't depend on the filters but for how many they are.
use Rattle.std.proofs.Common.{◌≡◌, ℕ, List, [], ◌∷◌, length, map, replicate, refl, ap}
use Rattle.flt_tree.specs.declared.filter.Filter.{Filter}
use Rattle.flt_model.specs.declared.parts.Entry.{Entry}
use Rattle.flt_model.specs.declared.parts.Holder.{Holder}
use Rattle.flt_model.specs.declared.parts.Presence.TheVariants.{Attached}
use Rattle.flt_model.specs.World.{opening}
use Rattle.flt_replay_world.specs.Opening.{opened}

all_the_same : {X : Type 0} (x : X) (p : List Filter) → replicate (length p) x ≡ map (λ _. x) p
all_the_same x [] = refl
all_the_same {X = X} x (f ∷ p) = ap (λ (l : List X). x ∷ l) (all_the_same x p)

pub opened_is : (p : List Filter) → opened (length p) ≡ opening p
opened_is p = rw (
  all_the_same Attached p,
  all_the_same {X = List Entry} [] p,
  all_the_same {X = List (List Holder)} (replicate 8 []) p,
) refl

-- the world at the beginning for so many filters is that of these filters
pub opened_of : (n : ℕ) (p : List Filter) → length p ≡ n → opened n ≡ opening p
opened_of n p e = rw (← e) (opened_is p)
