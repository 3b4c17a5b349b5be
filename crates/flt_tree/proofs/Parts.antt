-- The parts of a list at a place: what a function makes of those before it, of the one there and of those after it. Crates above cite these
-- laws, too.
use Rattle.std.proofs.Common.{◌≡◌, ℕ, ◌+◌, ◌<◌, List, [], ◌∷◌, ◌++◌, length, get_or, take, drop, map, sym, ap, ◌∙◌, arith}
use Rattle.std.proofs.lemmas.List.{take-append-drop, drop_more, map-append, map_more, length-take-le, length-map}

module _ {X Y : Type 0} (f : X → Y) (xs : List X) (i : ℕ) (x d : X) (h : i < length xs) (at : x ≡ get_or xs i d) where
  -- of those before the place and of the one there
  pub one_more : map f (take (i + 1) xs) ≡ map f (take i xs) ++ f x ∷ []
  one_more = rw at (map_more f xs i d h)

  -- of all
  pub parted : map f xs ≡ map f (take i xs) ++ f x ∷ map f (drop (i + 1) xs)
  parted =
      let rest : map f (drop i xs) ≡ f (get_or xs i d) ∷ map f (drop (i + 1) xs) = ap (map f) (drop_more xs i d h) in
      let whole : map f xs ≡ map f (take i xs) ++ map f (drop i xs) = sym (ap (map f) (take-append-drop i xs))
      ∙ map-append f (take i xs) (drop i xs) in
      rw at (rw rest at whole)

  -- the place is how many are before it
  pub places_before : i ≡ length (map f (take i xs))
  places_before =
      let front : length (take i xs) ≡ i = length-take-le i xs (omega arith) in
      sym (length-map (take i xs) f ∙ front)
