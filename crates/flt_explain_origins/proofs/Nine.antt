-- A list of nine, element by element.
use Rattle.std.proofs.Common.{◌≡◌, List, [], ◌∷◌, length, map, get_or, arith}

-- what a function makes of nine elements is what it makes of the list
pub nine : {A B : Type 0} (f : A → B) (xs : List A) (a b c d e g h i j : A) → length xs ≡ 9 →
    a ≡ get_or xs 0 a → b ≡ get_or xs 1 b → c ≡ get_or xs 2 c → d ≡ get_or xs 3 d → e ≡ get_or xs 4 e → g ≡ get_or xs 5 g →
    h ≡ get_or xs 6 h → i ≡ get_or xs 7 i → j ≡ get_or xs 8 j →
    f a ∷ f b ∷ f c ∷ f d ∷ f e ∷ f g ∷ f h ∷ f i ∷ f j ∷ [] ≡ map f xs
nine f [] a b c d e g h i j len ea eb ec ed ee eg eh ei ej = absurd (omega arith)
nine f (xa ∷ []) a b c d e g h i j len ea eb ec ed ee eg eh ei ej = absurd (omega arith)
nine f (xa ∷ xb ∷ []) a b c d e g h i j len ea eb ec ed ee eg eh ei ej = absurd (omega arith)
nine f (xa ∷ xb ∷ xc ∷ []) a b c d e g h i j len ea eb ec ed ee eg eh ei ej = absurd (omega arith)
nine f (xa ∷ xb ∷ xc ∷ xd ∷ []) a b c d e g h i j len ea eb ec ed ee eg eh ei ej = absurd (omega arith)
nine f (xa ∷ xb ∷ xc ∷ xd ∷ xe ∷ []) a b c d e g h i j len ea eb ec ed ee eg eh ei ej = absurd (omega arith)
nine f (xa ∷ xb ∷ xc ∷ xd ∷ xe ∷ xg ∷ []) a b c d e g h i j len ea eb ec ed ee eg eh ei ej = absurd (omega arith)
nine f (xa ∷ xb ∷ xc ∷ xd ∷ xe ∷ xg ∷ xh ∷ []) a b c d e g h i j len ea eb ec ed ee eg eh ei ej = absurd (omega arith)
nine f (xa ∷ xb ∷ xc ∷ xd ∷ xe ∷ xg ∷ xh ∷ xi ∷ []) a b c d e g h i j len ea eb ec ed ee eg eh ei ej = absurd (omega arith)
nine f (xa ∷ xb ∷ xc ∷ xd ∷ xe ∷ xg ∷ xh ∷ xi ∷ xj ∷ []) a b c d e g h i j len ea eb ec ed ee eg eh ei ej =
    λ k. f (ea k) ∷ f (eb k) ∷ f (ec k) ∷ f (ed k) ∷ f (ee k) ∷ f (eg k) ∷ f (eh k) ∷ f (ei k) ∷ f (ej k) ∷ []
nine f (xa ∷ xb ∷ xc ∷ xd ∷ xe ∷ xg ∷ xh ∷ xi ∷ xj ∷ xk ∷ xs) a b c d e g h i j len ea eb ec ed ee eg eh ei ej = absurd (omega arith)
