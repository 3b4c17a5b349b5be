-- What a loop makes of each element, one after another.
use Rattle.std.proofs.Common.{◌≡◌, ◌<◌, ◌+◌, ℕ, List, [], ◌∷◌, ◌++◌, add-one, append_assoc, ap, drop, get_or, length, map, sym, ◌∙◌}
use Rattle.std.proofs.Math.Seq.{drop-cons}

-- one more is made of the next element
pub one_more : {A B : Type 0} (f : A → B) (so_far grown whole : List B) (made : B) (all : List A) (place : ℕ) (d : A) → place < length all →
    made ≡ f (get_or all place d) → grown ≡ so_far ++ made ∷ [] → so_far ++ map f (drop place all) ≡ whole →
    grown ++ map f (drop (place + 1) all) ≡ whole
one_more f so_far grown whole made all place d within is longer so =
    ap (λ xs. xs ++ map f (drop (place + 1) all)) longer
    ∙ append_assoc so_far (made ∷ []) (map f (drop (place + 1) all))
    ∙ ap (λ x. so_far ++ x ∷ map f (drop (place + 1) all)) is
    ∙ ap (λ (k : ℕ). so_far ++ f (get_or all place d) ∷ map f (drop k all)) (add-one place)
    ∙ ap (λ xs. so_far ++ map f xs) (sym (drop-cons all place d within)) ∙ so
