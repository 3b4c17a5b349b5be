-- What is true of each element.
use Rattle.std.proofs.Common.{◌≡◌, ◌<◌, ◌+◌, List, [], ◌∷◌, ◌++◌, All, Some, length, map, get_or, refl, ap, sym, subst, ◌∙◌}
use Rattle.std.proofs.lemmas.List.{get_or-map, length-map, length_push, map-append}
use Rattle.std.proofs.lemmas.List.Elements.{All-pop, All-push}

module _ {X Y : Type 0} (f : Y → X) where
  -- what is true of each of a function's values is true of the value of each argument
  pub each_of : (P : X → Type 0) (xs : List X) (ys : List Y) → map f ys ≡ xs → All P xs → All (λ (y : Y). P (f y)) ys
  each_of P xs ys same h k d here =
      let there : k < length xs = subst (λ n. k < n) (sym (length-map ys f) ∙ ap length same) here in
      let at : P (get_or xs k (f d)) = h k (f d) there in
      subst P (ap (λ l. get_or l k (f d)) (sym same) ∙ get_or-map f ys k d (f d) here) at

  -- a function of each value of a function
  pub map_of_map : {Z : Type 0} (g : X → Z) (ys : List Y) → map (λ (y : Y). g (f y)) ys ≡ map g (map f ys)
  map_of_map g [] = refl
  map_of_map g (y ∷ ys) = ap (λ zs. g (f y) ∷ zs) (map_of_map g ys)

-- what is true of each and something else that is true of each
pub both_of : {X : Type 0} (P Q : X → Type 0) (xs : List X) → All P xs → All Q xs → All (λ x. P x × Q x) xs
both_of P Q xs p q k d here = (p k d here, q k d here)

module _ {X : Type 0} (xs ys : List X) (x : X) (more : ys ≡ xs ++ x ∷ []) where
  -- what holds of each and of the new one holds of all
  pub all_more : (P : X → Type 0) → All P xs → P x → All P ys
  all_more P h p = subst (All P) (sym more) (All-push P xs x h p)

  -- what holds of all holds of each but the last, and of the last
  pub all_less : (P : X → Type 0) → All P ys → All P xs × P x
  all_less P h = All-pop P ys xs (Some x) more h

  -- a function's values have one more, too
  pub map_more : {Y : Type 0} (f : X → Y) (zs : List Y) → map f xs ≡ zs → map f ys ≡ zs ++ f x ∷ []
  map_more f zs same = ap (map f) more ∙ map-append f xs (x ∷ []) ∙ ap (λ us. us ++ f x ∷ []) same

  -- it is longer by one
  pub longer : length ys ≡ length xs + 1
  longer = ap length more ∙ length_push xs x
