-- What goes out line by line is what goes out of all lines.
use Rattle.std.proofs.Common.{◌≡◌, ◌≤◌, ◌<◌, ℕ, zero, suc, Bool, List, [], ◌∷◌, ◌++◌, Option, None, inl, inr}
use Rattle.std.proofs.Common.{length, take, drop, flat_map, arith, append_assoc, append-nil, ap, sym, refl, subst, ◌∙◌}
use Rattle.std.specs.Prelude.{◌⊎◌}
use Rattle.std.specs.Io.KnownBytes.{Appends}
use Rattle.std.proofs.KnownBytes.{Appends-nil, Appends-trans}
use Rattle.std.proofs.lemmas.Bool.{cases_order}
use Rattle.std.proofs.lemmas.List.{length-take-le, take-append-drop, take_all}
use Rattle.flt_shown.specs.Shown.{Text, byte_shown, sign_by}
use Rattle.flt_door.proofs.Fronts.{anew, first_of}
use Rattle.flt_door.proofs.Pieces.{piece_seam, piece_short}
use Rattle.flt_door.specs.Door.{at_door, at_door_from, piece}
use Rattle.flt_door.specs.Lines.{AreWholeLines, Shows}

seam : (n : ℕ) (sign : Option ℕ) (y x : Text) → n ≤ length y →
    at_door_from n sign (y ++ 10 ∷ x) ≡ at_door_from n sign (y ++ 10 ∷ []) ++ at_door x
seam zero sign [] x within = refl
seam zero sign (b ∷ y) x within =
    let whole : ℕ × Bool = piece (b ∷ y ++ 10 ∷ x) in
    let line : ℕ × Bool = piece (b ∷ y ++ 10 ∷ []) in
    ap (λ w. byte_shown (sign_by whole.1 b) b ∷ w) (seam whole.0 (sign_by whole.1 b) y x (piece_short b y x))
    ∙ ap (λ (c : ℕ × Bool). byte_shown (sign_by c.1 b) b ∷ (at_door_from c.0 (sign_by c.1 b) (y ++ 10 ∷ []) ++ at_door x))
    (piece_seam b y x)
seam (suc n) sign [] x within = absurd (omega (arith, within))
seam (suc n) sign (b ∷ y) x within = ap (λ w. byte_shown sign b ∷ w) (seam n sign y x (omega (arith, within)))

-- what goes out of whole lines, and then of more
pub at_door_both : (x y : Text) → AreWholeLines x → at_door (x ++ y) ≡ at_door x ++ at_door y
at_door_both x y (inl none) = rw none refl
at_door_both x y (inr (line, is)) =
    rw is (ap at_door (append_assoc line (10 ∷ []) y) ∙ seam zero None line y (omega arith))

same_length : (n : ℕ) (sign : Option ℕ) (z : Text) → length (at_door_from n sign z) ≡ length z
same_length n sign [] = refl
same_length zero sign (b ∷ z) = ap suc (same_length (piece (b ∷ z)).0 (sign_by (piece (b ∷ z)).1 b) z)
same_length (suc n) sign (b ∷ z) = ap suc (same_length n sign z)

-- each byte stays one byte
pub at_door_length : (z : Text) → length (at_door z) ≡ length z
at_door_length z = same_length 0 None z

-- ---- whole lines

pub no_lines : AreWholeLines []
no_lines = inl refl

pub line_ends : (y : Text) → AreWholeLines (y ++ 10 ∷ [])
line_ends y = inr (y, refl)

pub lines_both : (x y : Text) → AreWholeLines x → AreWholeLines y → AreWholeLines (x ++ y)
lines_both x y first (inl none) = rw none (subst AreWholeLines (sym (append-nil x)) first)
lines_both x y first (inr (line, is)) = inr (x ++ line, ap (λ z. x ++ z) is ∙ sym (append_assoc x line (10 ∷ [])))

-- lines of each of some things
pub lines_of_all : {X : Type 0} (f : X → Text) → ((x : X) → AreWholeLines (f x)) → (xs : List X) → AreWholeLines (flat_map f xs)
lines_of_all f each [] = no_lines
lines_of_all f each (x ∷ xs) = lines_both (f x) (flat_map f xs) (each x) (lines_of_all f each xs)

-- ---- what went out

-- the first lines are the first bytes of what goes out
pub first_out : (z : Text) (n : ℕ) → AreWholeLines (take n z) → at_door (take n z) ≡ take n (at_door z)
first_out z n lines = by (cases_order n (length z))
  where
    by_all : length z ≤ n → at_door (take n z) ≡ take n (at_door z)
    by_all few =
        let long : length (at_door z) ≤ n = rw (at_door_length z) few in
        ap at_door (take_all n z few) ∙ sym (take_all n (at_door z) long)

    by : ((n ≡ length z) ⊎ ((n < length z) ⊎ (length z < n))) → at_door (take n z) ≡ take n (at_door z)
    by (inl same) = by_all (omega (arith, same))
    by (inr (inr more)) = by_all (omega (arith, more))
    by (inr (inl less)) =
        let long : length (at_door (take n z)) ≡ n = at_door_length (take n z) ∙ length-take-le n z (omega (arith, less)) in
        sym (ap (λ y. take n (at_door y)) (sym (take-append-drop n z)) ∙ ap (take n) (at_door_both (take n z) (drop n z) lines)
        ∙ first_of (at_door (take n z)) (at_door (drop n z)) n long)

-- nothing goes out
pub shows_nothing : (old : Option Text) → Shows old old []
shows_nothing old = record { lines = no_lines; out = Appends-nil old }

-- lines go out, and more
pub shows_both : (old between new : Option Text) (x y : Text) → Shows old between x → Shows between new y → Shows old new (x ++ y)
shows_both old between new x y first second = record {
  lines = lines_both x y first.lines second.lines;
  out = subst (Appends old new) (sym (at_door_both x y first.lines))
      (Appends-trans old between new (at_door x) (at_door y) first.out second.out);
}
