-- What is true of each element.
use Rattle.std.proofs.Common.{◌≡◌, ℕ, ◌+◌, List, [], ◌∷◌, ◌++◌, All, Option, Some, length}
use Rattle.std.proofs.Common.{map, option_to_list, sum_by, ap, refl, sym, arith, ◌∙◌}
use Rattle.std.proofs.lemmas.List.{length-map}
use Rattle.std.proofs.lemmas.List.Elements.{All-head, All-map, All-pop, All-same, All-tail}
use Rattle.std.proofs.lemmas.List.Sums.{sum_by-cons}

module _ {X Y : Type 0} (xs : List X) (ys : List Y) (f : X → Y) (same : map f xs ≡ ys) where
  -- what is true of the value at each element is true of each value
  pub each_value : (P : Y → Type 0) → All (λ (x : X). P (f x)) xs → All P ys
  each_value P h = All-same P ys (map f xs) (sym same) (All-map P f xs h)

  -- there are as many values as elements
  pub as_many : length ys ≡ length xs
  as_many = sym (ap length same) ∙ length-map xs f

-- where each element counts once, the sum is the length
pub sum_of_ones : {X : Type 0} (f : X → ℕ) (xs : List X) → All (λ (x : X). f x ≡ 1) xs → sum_by f xs ≡ length xs
sum_of_ones f [] h = refl
sum_of_ones f (x ∷ xs) h =
    sum_by-cons f x xs ∙ omega (arith, All-head (λ y. f y ≡ 1) x xs h, sum_of_ones f xs (All-tail (λ y. f y ≡ 1) x xs h))

-- what is true of each element is true of the one that was taken off the end
pub of_popped : {X : Type 0} (before after : List X) (popped : Option X) (x : X) → popped ≡ Some x →
    before ≡ after ++ option_to_list popped → (P : X → Type 0) → All P before → P x
of_popped before after popped x is items P h =
    (All-pop P before after (Some x) (items ∙ ap (λ o. after ++ option_to_list o) is) h).1
