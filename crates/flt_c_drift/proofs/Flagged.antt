-- Of flags, the one at a place says whether it holds of this number.
use Rattle.std.proofs.Common.{◌≡◌, ◌<◌, ◌≤◌, ℕ, zero, suc, Bool, false, [], ◌∷◌, ◌++◌, length}
use Rattle.std.proofs.Common.{get_or, arith, ap, sym, refl, subst, ◌∙◌, inl, inr}
use Rattle.std.specs.Prelude.{◌⊎◌}
use Rattle.std.proofs.lemmas.Bool.{cases_lt}
use Rattle.std.proofs.lemmas.List.{length_push, get_or_append_left}
use Rattle.std.proofs.Math.Seq.{get_or-append_seam}
use Rattle.flt_c_drift.specs.Flags.{flags_below}

-- there are as many flags as numbers
pub length_of : (holds : ℕ → Bool) (n : ℕ) → length (flags_below holds n) ≡ n
length_of holds zero = refl
length_of holds (suc n) = let before = length_of holds n in let push = length_push (flags_below holds n) (holds n) in
    omega (before, push, arith)

-- a flag says whether it holds of the number of its place
pub flag_of : (holds : ℕ → Bool) (n c : ℕ) → c < n → get_or (flags_below holds n) c false ≡ holds c
flag_of holds zero c below = absurd (omega (below, arith))
flag_of holds (suc n) c below = by_place (cases_lt c n) (flag_of holds n c)
  where
    many : length (flags_below holds n) ≡ n
    many = length_of holds n

    by_place : ((c < n) ⊎ (n ≤ c)) → (c < n → get_or (flags_below holds n) c false ≡ holds c) →
        get_or (flags_below holds n ++ holds n ∷ []) c false ≡ holds c
    by_place (inl l) earlier =
        get_or_append_left (flags_below holds n) (holds n ∷ []) false c (subst (λ k. c < k) (sym many) l) ∙ earlier l
    by_place (inr g) earlier =
        let last : c ≡ n = omega (below, g, arith) in
        ap (λ k. get_or (flags_below holds n ++ holds n ∷ []) k false) (last ∙ sym many)
        ∙ get_or-append_seam (flags_below holds n) (holds n) [] false
        ∙ ap holds (sym last)
