-- What goes out of the first bytes of a text.
use Rattle.std.proofs.Common.{◌≡◌, ◌≤◌, ◌<◌, ◌+◌, ◌-◌, ℕ, zero, suc, Bool, true, false, List, [], ◌∷◌, ◌++◌, Option, Some, None}
use Rattle.std.proofs.Common.{length, map, take, drop, get_or, arith, append_assoc, append-nil, ap, sym, refl, subst, ◌∙◌}
use Rattle.std.specs.Prelude.{replicate}
use Rattle.std.proofs.lemmas.List.{drop-drop, drop_more, length-append, length-drop, length-replicate, length-take-le}
use Rattle.std.proofs.lemmas.List.{replicate_more, set_at}
use Rattle.std.proofs.KnownBytes.{Appends-trans}
use Rattle.std.proofs.Math.ListN.{set}
use Rattle.std.proofs.Math.Seq.{take-add}
use Rattle.std.specs.Io.KnownBytes.{Appends}
use Rattle.flt_shown.proofs.Stretches.{hidden_front}
use Rattle.flt_shown.specs.Shown.{Text, byte_shown, front_of, sign_by, sign_of}
use Rattle.flt_door.specs.Door.{IsFront, at_door, at_door_from, piece}

own_bytes : (z : Text) → map (byte_shown None) z ≡ z
own_bytes [] = refl
own_bytes (b ∷ z) = ap (λ y. b ∷ y) (own_bytes z)

signs : (sign : ℕ) (z : Text) → map (byte_shown (Some sign)) z ≡ replicate (length z) sign
signs sign [] = refl
signs sign (b ∷ z) = ap (λ y. sign ∷ y) (signs sign z)

-- behind a piece another one begins
pub anew : (sign : Option ℕ) (z : Text) → at_door_from zero sign z ≡ at_door z
anew sign [] = refl
anew sign (b ∷ z) = refl

-- what goes out of what is left of a piece
left : (n : ℕ) (sign : Option ℕ) (z : Text) → at_door_from n sign z ≡ map (byte_shown sign) (take n z) ++ at_door (drop n z)
left zero sign z = anew sign z
left (suc n) sign [] = refl
left (suc n) sign (b ∷ z) = ap (λ y. byte_shown sign b ∷ y) (left n sign z)

nothing : (passes : Bool) (n : ℕ) → IsFront [] (suc n) passes
nothing true n = refl
nothing false n = refl

pub of_piece : (z : Text) (n : ℕ) (passes : Bool) → (n, passes) ≡ piece z → IsFront z (suc n) passes
of_piece [] n passes e = nothing passes n
of_piece (b ∷ z) n true e =
    ap (λ (c : ℕ × Bool). byte_shown (sign_by c.1 b) b ∷ at_door_from c.0 (sign_by c.1 b) z) (sym e)
    ∙ ap (λ y. b ∷ y) (left n None z ∙ ap (λ y. y ++ at_door (drop n z)) (own_bytes (take n z)))
of_piece (b ∷ z) n false e =
    ap (λ (c : ℕ × Bool). byte_shown (sign_by c.1 b) b ∷ at_door_from c.0 (sign_by c.1 b) z) (sym e)
    ∙ ap (λ y. sign_of b ∷ y)
    (left n (Some (sign_of b)) z ∙ ap (λ y. y ++ at_door (drop n z)) (signs (sign_of b) (take n z)))

-- the first piece is a front
pub first_front : (z : Text) (n : ℕ) (passes : Bool) → (n, passes) ≡ piece z → IsFront z (n + 1) passes
first_front z n passes e = let next : suc n ≡ n + 1 = omega arith in subst (λ k. IsFront z k passes) next (of_piece z n passes e)

-- a front that passes, and a piece more
pub passing_on : (z : Text) (at count : ℕ) → IsFront z at true → IsFront (drop at z) count true → IsFront z (at + count) true
passing_on z at count first next =
    first ∙ ap (λ y. take at z ++ y) next ∙ sym (append_assoc (take at z) (take count (drop at z)) (at_door (drop count (drop at z))))
    ∙ ap (λ y. y ++ at_door (drop count (drop at z))) (sym (take-add at count z))
    ∙ ap (λ y. take (at + count) z ++ at_door y) (drop-drop count at z)

-- where a piece passes, its bytes stay
pub one_passes : (z all : Text) (at count : ℕ) → take at z ++ at_door (drop at z) ≡ all → IsFront (drop at z) count true →
    take (at + count) z ++ at_door (drop (at + count) z) ≡ all
one_passes z all at count before front =
    ap (λ y. y ++ at_door (drop (at + count) z)) (take-add at count z)
    ∙ append_assoc (take at z) (take count (drop at z)) (at_door (drop (at + count) z))
    ∙ ap (λ y. take at z ++ (take count (drop at z) ++ at_door y)) (sym (drop-drop count at z))
    ∙ ap (λ y. take at z ++ y) (sym front) ∙ before

pub first_of : (xs ys : Text) (n : ℕ) → length xs ≡ n → take n (xs ++ ys) ≡ xs
first_of [] ys zero e = refl
first_of [] ys (suc n) e = absurd (omega (arith, e))
first_of (x ∷ xs) ys zero e = absurd (omega (arith, e))
first_of (x ∷ xs) ys (suc n) e = ap (λ z. x ∷ z) (first_of xs ys n (omega (arith, e)))

pub rest_of : (xs ys : Text) (n : ℕ) → length xs ≡ n → drop n (xs ++ ys) ≡ ys
rest_of [] ys zero e = refl
rest_of [] ys (suc n) e = absurd (omega (arith, e))
rest_of (x ∷ xs) ys zero e = absurd (omega (arith, e))
rest_of (x ∷ xs) ys (suc n) e = rest_of xs ys n (omega (arith, e))

-- the first piece is a front, which passes or doesn't
pub front_by : (z : Text) (p : ℕ × Bool) (passes : Bool) → p ≡ piece z → p.1 ≡ passes → IsFront z (p.0 + 1) passes
front_by z p passes is same =
    subst (λ b. IsFront z (p.0 + 1) b) same (first_front z p.0 p.1 is)

-- one that doesn't pass has the sign of its first byte for each
pub signs_out : (z : Text) (p : ℕ × Bool) (sign d : ℕ) → p ≡ piece z → p.1 ≡ false → p.0 < length z → sign ≡ sign_of (get_or z 0 d) →
    at_door z ≡ replicate (p.0 + 1) sign ++ at_door (drop (p.0 + 1) z)
signs_out z p sign d is same within own =
    front_by z p false is same
    ∙ ap (λ y. y ++ at_door (drop (p.0 + 1) z))
    (hidden_front z (p.0 + 1) d (omega arith) (omega (arith, within)) ∙ ap (replicate (p.0 + 1)) (sym own))

get_dropped : (z : Text) (at d : ℕ) → get_or (drop at z) 0 d ≡ get_or z at d
get_dropped z zero d = refl
get_dropped [] (suc at) d = refl
get_dropped (b ∷ z) (suc at) d = get_dropped z at d

-- where a piece doesn't pass, its sign stands for each of its bytes
pub one_hidden : (z hidden : Text) (at sign d : ℕ) (p : ℕ × Bool) → p ≡ piece (drop at z) → p.1 ≡ false →
    at + (p.0 + 1) ≤ length z → sign ≡ sign_of (get_or z at d) →
    hidden ≡ (take at z ++ replicate (p.0 + 1) sign) ++ drop (at + (p.0 + 1)) z →
    take (at + (p.0 + 1)) hidden ++ at_door (drop (at + (p.0 + 1)) hidden) ≡ take at z ++ at_door (drop at z)
one_hidden z hidden at sign d p found same within own is =
    let count : ℕ = p.0 + 1 in
    let front : Text = take at z ++ replicate count sign in
    let taken : length (take at z) ≡ at = length-take-le at z (omega (arith, within)) in
    let long : length front ≡ at + count =
    omega (arith, taken, length-append (take at z) (replicate count sign), length-replicate count sign) in
    let rest : p.0 < length (drop at z) = omega (arith, within, length-drop at z) in
    ap (λ y. take (at + count) y ++ at_door (drop (at + count) y)) is
    ∙ ap (λ y. y ++ at_door (drop (at + count) (front ++ drop (at + count) z))) (first_of front (drop (at + count) z) (at + count) long)
    ∙ ap (λ y. front ++ at_door y) (rest_of front (drop (at + count) z) (at + count) long)
    ∙ append_assoc (take at z) (replicate count sign) (at_door (drop (at + count) z))
    ∙ ap (λ y. take at z ++ (replicate count sign ++ at_door y)) (sym (drop-drop count at z))
    ∙ ap (λ y. take at z ++ y)
    (sym (signs_out (drop at z) p sign d found same rest (own ∙ ap sign_of (sym (get_dropped z at d)))))

-- one byte more becomes a sign
pub one_signed : (z signed : Text) (at k sign : ℕ) → at + k < length z →
    signed ≡ (take at z ++ replicate k sign) ++ drop (at + k) z →
    set signed (at + k) sign ≡ (take at z ++ replicate (k + 1) sign) ++ drop (at + (k + 1)) z
one_signed z signed at k sign less is =
    let front : Text = take at z ++ replicate k sign in
    let taken : length (take at z) ≡ at = length-take-le at z (omega (arith, less)) in
    let long : length front ≡ at + k =
    omega (arith, taken, length-append (take at z) (replicate k sign), length-replicate k sign) in
    let next : at + k + 1 ≡ at + (k + 1) = omega arith in
    ap (λ y. set y (at + k) sign) is
    ∙ ap (λ y. set (front ++ y) (at + k) sign) (drop_more z (at + k) 0 less)
    ∙ set_at front (get_or z (at + k) 0) (drop (at + k + 1) z) sign (at + k) long
    ∙ sym (append_assoc front (sign ∷ []) (drop (at + k + 1) z))
    ∙ ap (λ y. y ++ drop (at + k + 1) z) (append_assoc (take at z) (replicate k sign) (sign ∷ []))
    ∙ ap (λ y. (take at z ++ y) ++ drop (at + k + 1) z) (replicate_more k sign)
    ∙ ap (λ n. (take at z ++ replicate (k + 1) sign) ++ drop n z) next

-- a front that passes goes out as it is
pub front_out : (old new : Option Text) (z : Text) (n k : ℕ) → IsFront z n true → Appends old new (take k z) → k ≡ n →
    (front : Text) × Appends old new front × (at_door z ≡ front ++ at_door (drop n z))
front_out old new z n k front sent same = (take n z, subst (λ m. Appends old new (take m z)) same sent, front)

-- what went out, and what goes out of more
pub more_out : (old between new : Option Text) (z : Text) (at n : ℕ) →
    ((front : Text) × Appends old between front × (at_door z ≡ front ++ at_door (drop at z))) →
    ((front : Text) × Appends between new front × (at_door (drop at z) ≡ front ++ at_door (drop n (drop at z)))) →
    (front : Text) × Appends old new front × (at_door z ≡ front ++ at_door (drop (at + n) z))
more_out old between new z at n (first, taken, is) (next, more, so) = (
  first ++ next,
  Appends-trans old between new first next taken more,
  is ∙ ap (λ y. first ++ y) so ∙ sym (append_assoc first next (at_door (drop n (drop at z))))
      ∙ ap (λ y. (first ++ next) ++ at_door y) (drop-drop n at z),
)
