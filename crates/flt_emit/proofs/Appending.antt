-- What is written one step at a time.
use Rattle.std.proofs.Common.{◌≡◌, ℕ, zero, suc, ◌+◌, List, [], ◌∷◌, ◌++◌, Result, Ok, Err, refl, sym, ap, ◌∙◌, append_assoc, append-nil}
use Rattle.std.proofs.Common.{add-one}
use Rattle.std.specs.Prelude.{OnOk}
use Rattle.flt_emit.specs.Line.{indentation}

below : (n : ℕ) → indentation n ++ 32 ∷ 32 ∷ 32 ∷ 32 ∷ [] ≡ indentation (suc n)
below zero = refl
below (suc n) = ap (λ l. 32 ∷ 32 ∷ 32 ∷ 32 ∷ l) (below n)

-- one level more
pub deeper : (n : ℕ) → indentation (n + 1) ≡ indentation n ++ 32 ∷ 32 ∷ 32 ∷ 32 ∷ []
deeper n = ap indentation (add-one n) ∙ sym (below n)

-- a text behind three others
pub after_three : {U E : Type 0} (r : Result U E) (a b c x y z w : List ℕ) → b ≡ a ++ (x ++ (y ++ z)) → OnOk r (c ≡ b ++ w) →
    OnOk r (c ≡ a ++ (x ++ (y ++ (z ++ (w ++ [])))))
after_three (Ok u) a b c x y z w e h = h ∙ ap (λ (l : List ℕ). l ++ w) e ∙ simp (append_assoc, append-nil)
after_three (Err f) a b c x y z w e h = h

-- two texts behind two others
pub after_two : {U E : Type 0} (r : Result U E) (a b c d x y z w : List ℕ) → b ≡ a ++ (x ++ y) → c ≡ b ++ z → OnOk r (d ≡ c ++ w) →
    OnOk r (d ≡ a ++ (x ++ (y ++ (z ++ w))))
after_two (Ok u) a b c d x y z w e f h =
    h ∙ ap (λ (l : List ℕ). l ++ w) (f ∙ ap (λ (l : List ℕ). l ++ z) e) ∙ simp append_assoc
after_two (Err g) a b c d x y z w e f h = h

-- three texts and one more behind two others
pub three_after_two : {U E : Type 0} (r : Result U E) (a b c d x y u v z w : List ℕ) → b ≡ a ++ (x ++ (y ++ [])) →
    c ≡ b ++ (u ++ (v ++ z)) → OnOk r (d ≡ c ++ w) → OnOk r (d ≡ a ++ (x ++ (y ++ (u ++ (v ++ (z ++ (w ++ [])))))))
three_after_two (Ok o) a b c d x y u v z w e f h =
    h ∙ ap (λ (l : List ℕ). l ++ w) (f ∙ ap (λ (l : List ℕ). l ++ (u ++ (v ++ z))) e) ∙ simp (append_assoc, append-nil)
three_after_two (Err g) a b c d x y u v z w e f h = h
