-- What is shown of the first bytes of a text.
use Rattle.std.proofs.Common.{◌≡◌, ◌≤◌, ◌<◌, ◌+◌, ℕ, zero, suc, Bool, true, false, List, [], ◌∷◌, ◌++◌, Option, Some, None}
use Rattle.std.proofs.Common.{length, map, take, drop, get_or, arith, append_assoc, append-nil, ap, sym, refl, subst, ◌∙◌}
use Rattle.std.specs.Prelude.{◌&&◌, replicate}
use Rattle.std.specs.Int.{is_in_range}
use Rattle.std.proofs.lemmas.List.{take_more, length-take-le}
use Rattle.flt_shown.specs.Shown.{ascii, begins, byte_shown, character, character_by, front_of}
use Rattle.flt_shown.specs.Shown.{shown, shown_from, sign_by, sign_of, IsStretch, Text}

-- ---- characters

own_bytes : (z : Text) → map (byte_shown None) z ≡ z
own_bytes [] = refl
own_bytes (b ∷ z) = ap (λ y. b ∷ y) (own_bytes z)

signs : (sign : ℕ) (z : Text) → map (byte_shown (Some sign)) z ≡ replicate (length z) sign
signs sign [] = refl
signs sign (b ∷ z) = ap (λ y. sign ∷ y) (signs sign z)

-- behind a character another one begins
anew : (sign : Option ℕ) (z : Text) → shown_from zero sign z ≡ shown z
anew sign [] = refl
anew sign (b ∷ z) = refl

-- what is left of a character is shown as that is
left : (n : ℕ) (sign : Option ℕ) (z : Text) → shown_from n sign z ≡ map (byte_shown sign) (take n z) ++ shown (drop n z)
left zero sign z = anew sign z
left (suc n) sign [] = refl
left (suc n) sign (b ∷ z) = ap (λ y. byte_shown sign b ∷ y) (left n sign z)

nothing : (is_shown : Bool) (n : ℕ) → IsStretch [] (suc n) is_shown
nothing true n = refl
nothing false n = refl

of_character : (z : Text) (n : ℕ) (is_shown : Bool) → (n, is_shown) ≡ character z → IsStretch z (suc n) is_shown
of_character [] n is_shown e = nothing is_shown n
of_character (b ∷ z) n true e =
    ap (λ (c : ℕ × Bool). byte_shown (sign_by c.1 b) b ∷ shown_from c.0 (sign_by c.1 b) z) (sym e)
    ∙ ap (λ y. b ∷ y) (left n None z ∙ ap (λ y. y ++ shown (drop n z)) (own_bytes (take n z)))
of_character (b ∷ z) n false e =
    ap (λ (c : ℕ × Bool). byte_shown (sign_by c.1 b) b ∷ shown_from c.0 (sign_by c.1 b) z) (sym e)
    ∙ ap (λ y. sign_of b ∷ y)
    (left n (Some (sign_of b)) z ∙ ap (λ y. y ++ shown (drop n z)) (signs (sign_of b) (take n z)))

-- the first character is a stretch
pub of_first : (z : Text) (n : ℕ) (is_shown : Bool) → (n, is_shown) ≡ character z → IsStretch z (n + 1) is_shown
of_first z n is_shown e = let next : suc n ≡ n + 1 = omega arith in subst (λ k. IsStretch z k is_shown) next (of_character z n is_shown e)

-- a character that isn't shown has the sign of its first byte for each
pub hidden_front : (z : Text) (n d : ℕ) → 0 < n → n ≤ length z → front_of false (take n z) ≡ replicate n (sign_of (get_or z 0 d))
hidden_front z zero d some within = absurd (omega (arith, some))
hidden_front [] (suc n) d some within = absurd (omega (arith, within))
hidden_front (b ∷ z) (suc n) d some within =
    ap (λ k. sign_of b ∷ replicate k (sign_of b)) (length-take-le n z (omega (arith, within)))

-- ---- printable bytes

-- a printable byte is shown as it stands
printed : (b : ℕ) (z : Text) → is_in_range 32 126 b ≡ true → shown (b ∷ z) ≡ b ∷ shown z
printed b z e =
    ap (λ (c : ℕ × Bool). byte_shown (sign_by c.1 b) b ∷ shown_from c.0 (sign_by c.1 b) z)
    (ap (λ p. character_by (p && true) (begins ascii (b ∷ z)) (b ∷ z)) e)
    ∙ ap (λ y. b ∷ y) (anew None z)

at_byte : (z : Text) (i d : ℕ) → i < length z → drop i z ≡ get_or z i d ∷ drop (suc i) z
at_byte [] i d less = absurd (omega (arith, less))
at_byte (b ∷ z) zero d less = refl
at_byte (b ∷ z) (suc i) d less = at_byte z i d (omega (arith, less))

-- one printable byte more
pub one_printed : (z : Text) (i d : ℕ) → i < length z → is_in_range 32 126 (get_or z i d) ≡ true → IsStretch z i true →
    IsStretch z (i + 1) true
one_printed z i d less e before =
    let next : suc i ≡ i + 1 = omega arith in
    let b = get_or z i d in
    before ∙ ap (λ y. take i z ++ shown y) (at_byte z i d less) ∙ ap (λ y. take i z ++ y) (printed b (drop (suc i) z) e)
    ∙ sym (append_assoc (take i z) (b ∷ []) (shown (drop (suc i) z)))
    ∙ ap (λ y. y ++ shown (drop (suc i) z)) (sym (take_more z i d less))
    ∙ ap (λ k. take (i + 1) z ++ shown (drop k z)) next

-- ---- what the prover takes

pub ruleset front_steps = (append_assoc, append-nil, hidden_front)
