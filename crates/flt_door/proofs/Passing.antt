-- All that goes out is shown.
use Rattle.std.proofs.Common.{◌≡◌, ◌≤◌, ℕ, zero, suc, Bool, true, false, List, [], ◌∷◌, ◌++◌}
use Rattle.std.proofs.Common.{length, take, drop, arith, ap, sym, refl, subst, ◌∙◌}
use Rattle.std.specs.Prelude.{◌==◌, if◌then◌else◌, replicate}
use Rattle.std.proofs.lemmas.List.{length-drop, length-take-le}
use Rattle.flt_shown.specs.Shown.{Text, front_of, sign_of}
use Rattle.flt_door.proofs.Fronts.{of_piece}
use Rattle.flt_door.proofs.Pieces.{piece_cut, piece_within}
use Rattle.flt_door.specs.Door.{AreShown, IsFront, Passes, at_door, nothing, one_more, piece}

-- a sign is a character that is shown
sign_passes : (tab : Bool) → Passes ((if tab then 32 else 63) ∷ [])
sign_passes true = refl
sign_passes false = refl

signs_shown : (b n : ℕ) (z : Text) → AreShown z → AreShown (replicate n (sign_of b) ++ z)
signs_shown b zero z are = are
signs_shown b (suc n) z are =
    one_more (sign_of b ∷ []) (replicate n (sign_of b) ++ z) (sign_passes (b == 9)) (signs_shown b n z are)

by_front : (b : ℕ) (z : Text) (n : ℕ) (passes : Bool) → (n, passes) ≡ piece (b ∷ z) → n ≤ length z → AreShown (at_door (drop n z)) →
    AreShown (at_door (b ∷ z))
by_front b z n true is within others =
    let alone : piece (b ∷ take n z) ≡ (n, true) = piece_cut b z n (sym is) in
    let long : length (take n z) ≡ n = length-take-le n z within in
    subst AreShown (sym (of_piece (b ∷ z) n true is))
    (one_more (b ∷ take n z) (at_door (drop n z)) (alone ∙ ap (λ m. (m, true)) (sym long)) others)
by_front b z n false is within others =
    subst AreShown (sym (of_piece (b ∷ z) n false is))
    (signs_shown b (suc (length (take n z))) (at_door (drop n z)) others)

up_to : (k : ℕ) (z : Text) → length z ≤ k → AreShown (at_door z)
up_to k [] within = nothing
up_to zero (b ∷ z) within = absurd (omega (arith, within))
up_to (suc k) (b ∷ z) within =
    let n : ℕ = (piece (b ∷ z)).0 in
    let fits : n ≤ length z = piece_within b z in
    let rest : length (drop n z) ≤ k = omega (arith, within, length-drop n z) in
    by_front b z n (piece (b ∷ z)).1 refl fits (up_to k (drop n z) rest)

pub all_shown : (z : Text) → AreShown (at_door z)
all_shown z = up_to (length z) z (omega arith)
