-- Groups part findings.
use Rattle.std.proofs.Common.{◌≡◌, ◌≤◌, ◌+◌, ℕ, Bool, true, false, List, [], ◌∷◌, length, arith, sym, refl, ◌∙◌}
use Rattle.std.specs.Prelude.{filter, sum_by, if◌then◌else◌}
use Rattle.std.specs.List.{list_all}
use Rattle.std.proofs.lemmas.Bool.{and_from}
use Rattle.std.proofs.lemmas.List.Filters.{sum_by-filter_both}
use Rattle.std.proofs.lemmas.List.Sums.{length-filter, count_by-le-length, sum_by-cons}
use Rattle.flt_explain_origins.specs.Grouping.{is_like, is_unlike, group, groups_in, weight, Part, is_alike, Alike}
use Rattle.flt_explain_origins.specs.declared.grouping.TracedFinding.{TracedFinding}

-- fewer are left
fewer : (p : TracedFinding → Bool) (xs : List TracedFinding) → length (filter p xs) ≤ length xs
fewer p xs = let e = length-filter p xs in let h = count_by-le-length p xs in omega (arith, e, h)

part_in : (weigh : TracedFinding → ℕ) (turns xs : List TracedFinding) → length xs ≤ length turns →
    sum_by (weight weigh) (groups_in turns xs) ≡ sum_by weigh xs
part_in weigh [] [] h = refl
part_in weigh [] (x ∷ xs) h = absurd (omega arith)
part_in weigh (turn ∷ turns) [] h = refl
part_in weigh (turn ∷ turns) (x ∷ xs) h =
    let less = fewer (is_unlike x) xs in
    let rest = part_in weigh turns (filter (is_unlike x) xs) (omega (arith, less)) in
    let both = sum_by-filter_both (is_like x) (is_unlike x) (λ y. refl) weigh xs in
    sum_by-cons (weight weigh) (group x (filter (is_like x) xs)) (groups_in turns (filter (is_unlike x) xs))
    ∙ together (weigh x) _ _ _ _ rest both ∙ sym (sum_by-cons weigh x xs)
  where
    together : (a b c d r : ℕ) → r ≡ c → b + c ≡ d → (a + b) + r ≡ a + d
    together a b c d r e f = omega (arith, e, f)

-- each finding is in exactly one group
pub part : Part
part xs weigh = part_in weigh xs xs (omega arith)

passed : (p : TracedFinding → Bool) (xs : List TracedFinding) → list_all p (filter p xs) ≡ true
passed p [] = refl
passed p (x ∷ xs) = by_test (p x) refl (passed p xs)
  where
    by_test : (b : Bool) → p x ≡ b → list_all p (filter p xs) ≡ true → list_all p (if b then x ∷ filter p xs else filter p xs) ≡ true
    by_test true e rest = and_from _ _ e rest
    by_test false e rest = rest

alike_in : (turns xs : List TracedFinding) → list_all is_alike (groups_in turns xs) ≡ true
alike_in [] xs = refl
alike_in (turn ∷ turns) [] = refl
alike_in (turn ∷ turns) (x ∷ xs) = and_from _ _ (passed (is_like x) xs) (alike_in turns (filter (is_unlike x) xs))

-- all of a group are of one callback, rule, subject and origin
pub alike : Alike
alike xs = alike_in xs xs
