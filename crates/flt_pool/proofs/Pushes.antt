-- Lists that have one element more.
use Rattle.std.proofs.Common.{◌≡◌, ◌+◌, List, [], ◌∷◌, ◌++◌, length, map, All, sym, ap, ◌∙◌, subst}
use Rattle.std.proofs.lemmas.List.{length_push, map-append}
use Rattle.std.proofs.lemmas.List.Elements.{All-push}

module _ {X : Type 0} (xs ys : List X) (x : X) (more : ys ≡ xs ++ x ∷ []) where
  -- it is longer by one
  pub longer : length ys ≡ length xs + 1
  longer = ap length more ∙ length_push xs x

  -- what holds of each and of the new one holds of all
  pub all_more : (P : X → Type 0) → All P xs → P x → All P ys
  all_more P h p = subst (All P) (sym more) (All-push P xs x h p)

  -- a function's values have one more, too
  pub map_more : {Y : Type 0} (f : X → Y) → map f ys ≡ map f xs ++ f x ∷ []
  map_more f = ap (map f) more ∙ map-append f xs (x ∷ [])
