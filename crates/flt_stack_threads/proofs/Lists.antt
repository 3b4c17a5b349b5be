-- What is true of each element.
use Rattle.std.proofs.Common.{◌≡◌, ◌<◌, List, [], ◌∷◌, ◌++◌, All, length, map, get_or, ap, sym, subst, ◌∙◌}
use Rattle.std.proofs.lemmas.List.{get_or-map, length-map, map-append}
use Rattle.std.proofs.lemmas.List.Elements.{All-push}

module _ {X : Type 0} (xs ys : List X) (x : X) (more : ys ≡ xs ++ x ∷ []) where
  -- what holds of each and of the new one holds of all
  pub all_more : (P : X → Type 0) → All P xs → P x → All P ys
  all_more P h p = subst (All P) (sym more) (All-push P xs x h p)

  -- a function's values have one more, too
  pub map_more : {Y : Type 0} (f : X → Y) (zs : List Y) → map f xs ≡ zs → map f ys ≡ zs ++ f x ∷ []
  map_more f zs same = ap (map f) more ∙ map-append f xs (x ∷ []) ∙ ap (λ us. us ++ f x ∷ []) same

module _ {X Y : Type 0} (xs : List X) (ys : List Y) (f : Y → X) (same : map f ys ≡ xs) where
  -- what is true of each of a function's values is true of the value of each argument
  pub each_of : (P : X → Type 0) → All P xs → All (λ (y : Y). P (f y)) ys
  each_of P h k d here =
      let there : k < length xs = subst (λ n. k < n) (sym (length-map ys f) ∙ ap length same) here in
      let at : P (get_or xs k (f d)) = h k (f d) there in
      subst P (ap (λ l. get_or l k (f d)) (sym same) ∙ get_or-map f ys k d (f d) here) at

  -- there are as many values as arguments
  pub as_many : length ys ≡ length xs
  as_many = sym (length-map ys f) ∙ ap length same
