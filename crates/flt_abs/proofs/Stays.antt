-- What a change leaves proper.
use Rattle.std.proofs.Common.{◌≡◌, ℕ, zero, suc, true, List, [], ◌∷◌, length, ap, ◌∙◌}
use Rattle.std.specs.Prelude.{◌==◌}
use Rattle.std.proofs.Math.ListN.{set, length-set}
use Rattle.std.specs.List.{list_all}
use Rattle.std.proofs.lemmas.Bool.{and_parts, and_from}
use Rattle.flt_abs.specs.Sets.{StatusSet, is_possible}
use Rattle.flt_abs.specs.State.{State, is_proper}

all_set : (xs : List StatusSet) (i : ℕ) (s : StatusSet) → list_all is_possible xs ≡ true → is_possible s ≡ true →
    list_all is_possible (set xs i s) ≡ true
all_set [] i s h e = h
all_set (x ∷ xs) zero s h e = and_from _ _ e (and_parts _ _ h).1
all_set (x ∷ xs) (suc i) s h e = let parts = and_parts _ _ h in and_from _ _ parts.0 (all_set xs i s parts.1 e)

-- a state stays proper where a context's set is replaced by one that isn't empty
pub proper_contexts : (x : State) (i : ℕ) (s : StatusSet) → is_proper x ≡ true → is_possible s ≡ true →
    is_proper (record x { contexts = set x.contexts i s }) ≡ true
proper_contexts x i s h e =
    let a = and_parts _ _ h in
    let b = and_parts _ _ a.1 in
    let c = and_parts _ _ b.1 in
    let long : (length (set x.contexts i s) == 9) ≡ true = ap (λ n. n == 9) (length-set x.contexts i s) ∙ a.0 in
    and_from _ _ long (and_from _ _ b.0 (and_from _ _ (all_set x.contexts i s c.0 e) c.1))

-- a state stays proper where an operation's set is replaced by one that isn't empty
pub proper_operations : (x : State) (i : ℕ) (s : StatusSet) → is_proper x ≡ true → is_possible s ≡ true →
    is_proper (record x { operations = set x.operations i s }) ≡ true
proper_operations x i s h e =
    let a = and_parts _ _ h in
    let b = and_parts _ _ a.1 in
    let c = and_parts _ _ b.1 in
    let d = and_parts _ _ c.1 in
    let long : (length (set x.operations i s) == 5) ≡ true = ap (λ n. n == 5) (length-set x.operations i s) ∙ b.0 in
    and_from _ _ a.0 (and_from _ _ long (and_from _ _ c.0 (and_from _ _ (all_set x.operations i s d.0 e) d.1)))
