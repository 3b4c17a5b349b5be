-- The folder of a name, found from its end.
use Rattle.std.proofs.Common.{◌≡◌, ℕ, ◌-◌, ◌+◌, ◌<◌, ◌≤◌, Bool, true, false, cond, [], ◌∷◌, ◌++◌, length, take, get_or}
use Rattle.std.proofs.Common.{refl, sym, ap, ◌∙◌, arith}
use Rattle.std.proofs.lemmas.Bool.{eq-eqb, ne_eqb}
use Rattle.std.proofs.lemmas.List.{take_more}
use Rattle.std.proofs.lemmas.List.Folds.{list_any-append}
use Rattle.std.specs.List.{list_any}
use Rattle.std.specs.Prelude.{◌==◌, ◌||◌}
use Rattle.flt_c_tokens.specs.Bytes.{Text}
use Rattle.flt_c_headers.specs.Candidates.{folder_of, has_slash}

-- one byte more
ends : (b : ℕ) → (x : Bool) → (b == 47) ≡ x → folder_of (b ∷ []) ≡ cond x (b ∷ []) []
ends b true e = rw e refl
ends b false e = rw e refl

or_true : (x : Bool) → (x || (true || false)) ≡ true
or_true true = refl
or_true false = refl

or_false : (x : Bool) → (x || (false || false)) ≡ x
or_false true = refl
or_false false = refl

pub folder_more : (z : Text) (b : ℕ) (x : Bool) → (b == 47) ≡ x → folder_of (z ++ b ∷ []) ≡ cond x (z ++ b ∷ []) (folder_of z)
folder_more [] b x e = ends b x e
folder_more (a ∷ z) b true e =
    let slash : has_slash ((a ∷ z) ++ b ∷ []) ≡ true =
    list_any-append (λ c. c == 47) (a ∷ z) (b ∷ []) ∙ (ap (λ y. has_slash (a ∷ z) || (y || false)) e ∙ or_true (has_slash (a ∷ z))) in
    ap (λ y. cond y (a ∷ folder_of (z ++ b ∷ [])) []) slash ∙ ap (λ w. a ∷ w) (folder_more z b true e)
folder_more (a ∷ z) b false e =
    let slash : has_slash ((a ∷ z) ++ b ∷ []) ≡ has_slash (a ∷ z) =
    list_any-append (λ c. c == 47) (a ∷ z) (b ∷ []) ∙ (ap (λ y. has_slash (a ∷ z) || (y || false)) e ∙ or_false (has_slash (a ∷ z))) in
    ap (λ y. cond y (a ∷ folder_of (z ++ b ∷ [])) []) slash ∙ ap (λ w. cond (has_slash (a ∷ z)) (a ∷ w) []) (folder_more z b false e)

-- at the last byte of a name's front
module _ (z : Text) (n : ℕ) (some : 0 < n) (within : n ≤ length z) where
  last : take n z ≡ take (n - 1) z ++ get_or z (n - 1) 0 ∷ []
  last =
      let count : n ≡ n - 1 + 1 = omega arith in
      let there : n - 1 < length z = omega arith in ap (λ m. take m z) count ∙ take_more z (n - 1) 0 there

  pub at_slash : get_or z (n - 1) 0 ≡ 47 → folder_of (take n z) ≡ take n z
  at_slash e =
      ap folder_of last
      ∙ (folder_more (take (n - 1) z) (get_or z (n - 1) 0) true (eq-eqb (get_or z (n - 1) 0) 47 e) ∙ sym last)

  pub at_other : (get_or z (n - 1) 0 ≡ 47 → ⊥) → folder_of (take n z) ≡ folder_of (take (n - 1) z)
  at_other e =
      ap folder_of last ∙ folder_more (take (n - 1) z) (get_or z (n - 1) 0) false (ne_eqb (get_or z (n - 1) 0) 47 e)
