-- What holds of each element of a list holds of the last one, and of each of the others.
use Rattle.std.proofs.Common.{List, [], ◌∷◌, ◌++◌, All, arith}
use Rattle.std.proofs.lemmas.List.Elements.{All-cons, All-nil, All-tail}

pub last_one : {X : Type 0} (P : X → Type 0) (xs : List X) (x : X) → All P (xs ++ x ∷ []) → P x × All P xs
last_one P [] x h = (h 0 x (omega arith), All-nil P)
last_one P (y ∷ ys) x h =
    let rest = last_one P ys x (All-tail P y (ys ++ x ∷ []) h) in (rest.0, All-cons P y ys (h 0 y (omega arith)) rest.1)
