-- A sign is no longer than the text in which it stands.
use Rattle.std.proofs.Common.{◌≡◌, ℕ, zero, suc, ◌≤◌, ◌<◌, Bool, true, false, List, [], ◌∷◌, length, refl, sym, arith}
use Rattle.std.proofs.lemmas.Bool.{and_parts, eqb-true, true≢false}
use Rattle.std.proofs.lemmas.Grind.{common_steps}
use Rattle.std.specs.Prelude.{◌&&◌, ◌==◌, nat_lt}
use Rattle.flt_c_tokens.specs.Bytes.{Text, byte_at}
use Rattle.flt_c_tokens.specs.Signs.{begins, first_of_signs, sign, sign_of, signs}
use Rattle.flt_c_tokens.specs.declared.piece.Piece.{Piece}
use Rattle.flt_c_tokens.specs.declared.token.Kind.{Kind}

-- a byte that isn't 0 is there
pub there : (z : Text) (n c : ℕ) → 0 < c → byte_at z n ≡ c → n < length z
there [] n c p e = absurd (omega arith)
there (b ∷ z) zero c p e = omega arith
there (b ∷ z) (suc n) c p e = let h = there z n c p e in omega arith

-- one to four bytes, the last of them not 0
abbrev is_proper : Text → Bool
is_proper (a ∷ []) = true
is_proper (a ∷ (b ∷ [])) = nat_lt 0 b
is_proper (a ∷ (b ∷ (c ∷ []))) = nat_lt 0 c
is_proper (a ∷ (b ∷ (c ∷ (d ∷ [])))) = nat_lt 0 d
is_proper _ = false

abbrev are_proper : List (Text × Kind) → Bool
are_proper [] = true
are_proper (s ∷ ss) = is_proper s.0 && are_proper ss

-- the first four bytes of a text
abbrev four : Text → Text
four z = byte_at z 0 ∷ byte_at z 1 ∷ byte_at z 2 ∷ byte_at z 3 ∷ []

above : (b : ℕ) → nat_lt 0 b ≡ true → 0 < b
above b h = grind (arith, common_steps)

abbrev Fits : Text → ℕ → Type 0
Fits z n = (1 ≤ n) × (n ≤ length z)

last_there : (z : Text) (n b : ℕ) → nat_lt 0 b ≡ true → (byte_at z n == b) ≡ true → n < length z
last_there z n b p e = there z n b (above b p) (eqb-true (byte_at z n) b e)

reaches : (z w : Text) → 1 ≤ length z → is_proper w ≡ true → begins 0 w (four z) ≡ true → Fits z (length w)
reaches z [] some p e = absurd (true≢false (sym p))
reaches z (a ∷ []) some p e = (omega arith, some)
reaches z (a ∷ (b ∷ [])) some p e =
    let two = and_parts (byte_at z 0 == a) (byte_at z 1 == b) e in
    let h : 1 < length z = last_there z 1 b p two.1 in (omega arith, omega arith)
reaches z (a ∷ (b ∷ (c ∷ []))) some p e =
    let one = and_parts (byte_at z 0 == a) (byte_at z 1 == b && byte_at z 2 == c) e in
    let two = and_parts (byte_at z 1 == b) (byte_at z 2 == c) one.1 in
    let h : 2 < length z = last_there z 2 c p two.1 in (omega arith, omega arith)
reaches z (a ∷ (b ∷ (c ∷ (d ∷ [])))) some p e =
    let one = and_parts (byte_at z 0 == a) (byte_at z 1 == b && (byte_at z 2 == c && byte_at z 3 == d)) e in
    let two = and_parts (byte_at z 1 == b) (byte_at z 2 == c && byte_at z 3 == d) one.1 in
    let three = and_parts (byte_at z 2 == c) (byte_at z 3 == d) two.1 in
    let h : 3 < length z = last_there z 3 d p three.1 in (omega arith, omega arith)
reaches z (a ∷ (b ∷ (c ∷ (d ∷ (f ∷ w))))) some p e = absurd (true≢false (sym p))

fits_in : (ss : List (Text × Kind)) (z : Text) → are_proper ss ≡ true → 1 ≤ length z → Fits z (first_of_signs ss (four z)).length
fits_in [] z p some = (omega arith, some)
fits_in (s ∷ ss) z p some =
    let two = and_parts (is_proper s.0) (are_proper ss) p in
    by (begins 0 s.0 (four z)) refl (reaches z s.0 some two.0) (fits_in ss z two.1 some)
  where
    by : (x : Bool) → begins 0 s.0 (four z) ≡ x → (begins 0 s.0 (four z) ≡ true → Fits z (length s.0)) →
        Fits z (first_of_signs ss (four z)).length → Fits z (first_of_signs (s ∷ ss) (four z)).length
    by true e here later = rw e (here e)
    by false e here later = rw e later

-- the sign at the front of a text has a byte and no more than there are
pub sign_fits : (z : Text) → 1 ≤ length z → (1 ≤ (sign z).length) × ((sign z).length ≤ length z)
unfolding sign sign_of
sign_fits z some = fits_in signs z refl some

-- so has one that was found by its bytes
pub found_fits : (z : Text) (found : Piece) (a b c d : ℕ) → a ≡ byte_at z 0 → b ≡ byte_at z 1 → c ≡ byte_at z 2 → d ≡ byte_at z 3 →
    found ≡ sign_of a b c d → 1 ≤ length z → (1 ≤ found.length) × (found.length ≤ length z)
unfolding sign
found_fits z found a b c d ea eb ec ed e some = rw (e, ea, eb, ec, ed) (sign_fits z some)
