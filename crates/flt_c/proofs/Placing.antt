-- Places in a file, byte by byte and over continuations.
use Rattle.std.proofs.Common.{◌≡◌, ◌⊎◌, inl, inr, ℕ, zero, suc, ◌+◌, ◌<◌, ◌≤◌, Bool, true, false}
use Rattle.std.proofs.Common.{List, [], ◌∷◌, drop, get_or, length, refl, sym, ap, ◌∙◌, arith}
use Rattle.std.proofs.lemmas.Bool.{eqb-true, and_parts}
use Rattle.std.specs.Prelude.{◌==◌, ◌&&◌}
use Rattle.flt_c.proofs.Follow.{differ}
use Rattle.flt_c.specs.declared.place.Place.{Place}
use Rattle.flt_c.specs.Places.{past, past_continuation, place_from, place_of, first_place}
use Rattle.flt_c.specs.Scan.{continuation}

abbrev is_some_list : {A : Type 0} → List A → Bool
is_some_list [] = false
is_some_list (b ∷ z) = true

abbrev tail_of : {A : Type 0} → List A → List A
tail_of [] = []
tail_of (b ∷ z) = z

-- what stands after the next element
pub drop_next : {A : Type 0} (z : List A) (n : ℕ) (b : A) (y : List A) → drop n z ≡ b ∷ y → drop (suc n) z ≡ y
drop_next [] zero b y e = elim (differ (ap is_some_list e)) [ ]
drop_next [] (suc n) b y e = elim (differ (ap is_some_list e)) [ ]
drop_next (a ∷ z) zero b y e = ap tail_of e
drop_next (a ∷ z) (suc n) b y e = drop_next z n b y e

-- the next element
pub get_there : {A : Type 0} (z : List A) (n : ℕ) (d b : A) (y : List A) → drop n z ≡ b ∷ y → get_or z n d ≡ b
get_there [] zero d b y e = elim (differ (ap is_some_list e)) [ ]
get_there [] (suc n) d b y e = elim (differ (ap is_some_list e)) [ ]
get_there (a ∷ z) zero d b y e = ap (λ l. get_or l 0 d) e
get_there (a ∷ z) (suc n) d b y e = get_there z n d b y e

drop_nil : (k : ℕ) → drop {A = ℕ} k [] ≡ []
drop_nil zero = refl
drop_nil (suc k) = refl

-- what stands some bytes further on
pub drop_more : (k n : ℕ) (z y : List ℕ) → drop n z ≡ y → drop (n + k) z ≡ drop k y
drop_more zero n z y e = let q : n + zero ≡ n = omega arith in rw q e
drop_more (suc k) n z [] e = let q : n + suc k ≡ suc n + k = omega arith in rw q (drop_more k (suc n) z [] (drop_none z n e) ∙ drop_nil k)
  where
    drop_none : (z : List ℕ) (n : ℕ) → drop n z ≡ [] → drop (suc n) z ≡ []
    drop_none [] n e = refl
    drop_none (a ∷ z) zero e = elim (differ (sym (ap is_some_list e))) [ ]
    drop_none (a ∷ z) (suc n) e = drop_none z n e
drop_more (suc k) n z (b ∷ y) e = let q : n + suc k ≡ suc n + k = omega arith in rw q (drop_more k (suc n) z y (drop_next z n b y e))

-- the place after the next byte
pub place_next : (at : Place) (z : List ℕ) (n b : ℕ) (y : List ℕ) → drop n z ≡ b ∷ y → place_from at z (suc n) ≡ past (place_from at z n) b
place_next at [] zero b y e = elim (differ (ap is_some_list e)) [ ]
place_next at [] (suc n) b y e = elim (differ (ap is_some_list e)) [ ]
place_next at (a ∷ z) zero b y e = ap (λ c. past at c) (ap (λ l. get_or l 0 0) e)
place_next at (a ∷ z) (suc n) b y e = place_next (past at a) z n b y e

-- ---- continuations

record Continued (z : List ℕ) : Type 0 where
  after : List ℕ
  bytes : ((z ≡ 92 ∷ 10 ∷ after) × (continuation z ≡ 2)) ⊎ ((z ≡ 92 ∷ 13 ∷ 10 ∷ after) × (continuation z ≡ 3))

three : (a b c : ℕ) (z : List ℕ) (p q r : Bool) → (a == 92) ≡ p → (b == 10) ≡ q → (b == 13 && c == 10) ≡ r →
    0 < continuation (a ∷ b ∷ c ∷ z) →
    Continued (a ∷ b ∷ c ∷ z)
three a b c z false q r ea eb ec h = let n : continuation (a ∷ b ∷ c ∷ z) ≡ 0 = rw ea refl in absurd (omega (arith, n, h))
three a b c z true true r ea eb ec h =
    let x : a ≡ 92 = eqb-true a 92 ea in let y : b ≡ 10 = eqb-true b 10 eb in
    let same : a ∷ b ∷ c ∷ z ≡ 92 ∷ 10 ∷ c ∷ z = rw (x, y) refl in
    let n : continuation (a ∷ b ∷ c ∷ z) ≡ 2 = rw (ea, eb) refl in
    record { after = c ∷ z; bytes = inl (same, n) }
three a b c z true false true ea eb ec h =
    let both = and_parts (b == 13) (c == 10) ec in
    let x : a ≡ 92 = eqb-true a 92 ea in let y : b ≡ 13 = eqb-true b 13 both.0 in let w : c ≡ 10 = eqb-true c 10 both.1 in
    let same : a ∷ b ∷ c ∷ z ≡ 92 ∷ 13 ∷ 10 ∷ z = rw (x, y, w) refl in
    let n : continuation (a ∷ b ∷ c ∷ z) ≡ 3 = rw (ea, eb, ec) refl in
    record { after = z; bytes = inr (same, n) }
three a b c z true false false ea eb ec h = let n : continuation (a ∷ b ∷ c ∷ z) ≡ 0 = rw (ea, eb, ec) refl in absurd (omega (arith, n, h))

two : (a b : ℕ) (p : Bool) → (a == 92 && b == 10) ≡ p → 0 < continuation (a ∷ b ∷ []) → Continued (a ∷ b ∷ [])
two a b true e h =
    let both = and_parts (a == 92) (b == 10) e in
    let x : a ≡ 92 = eqb-true a 92 both.0 in let y : b ≡ 10 = eqb-true b 10 both.1 in
    let same : a ∷ b ∷ [] ≡ 92 ∷ 10 ∷ [] = rw (x, y) refl in
    let n : continuation (a ∷ b ∷ []) ≡ 2 = rw e refl in
    record { after = []; bytes = inl (same, n) }
two a b false e h = let n : continuation (a ∷ b ∷ []) ≡ 0 = rw e refl in absurd (omega (arith, n, h))

continued : (z : List ℕ) → 0 < continuation z → Continued z
continued [] h = absurd (omega arith)
continued (a ∷ []) h = absurd (omega arith)
continued (a ∷ b ∷ []) h = two a b (a == 92 && b == 10) refl h
continued (a ∷ b ∷ c ∷ z) h = three a b c z (a == 92) (b == 10) (b == 13 && c == 10) refl refl refl h

two_on : (file : List ℕ) (n : ℕ) (y : List ℕ) → drop n file ≡ 92 ∷ 10 ∷ y → place_of file (n + 2) ≡ past_continuation (place_of file n) 2
two_on file n y e =
    let q : n + 2 ≡ suc (suc n) = omega arith in
    let first = place_next first_place file n 92 (10 ∷ y) e in
    let second = place_next first_place file (suc n) 10 y (drop_next file n 92 (10 ∷ y) e) in
    let more : (place_of file n).start + 1 + 1 ≡ (place_of file n).start + 2 = omega arith in
    ap (place_of file) q ∙ (second ∙ (ap (λ (p : Place). past p 10) first
    ∙ ap (λ (k : ℕ). record { line = (place_of file n).line + 1; column = 1; start = k }) more))

three_on : (file : List ℕ) (n : ℕ) (y : List ℕ) → drop n file ≡ 92 ∷ 13 ∷ 10 ∷ y →
    place_of file (n + 3) ≡ past_continuation (place_of file n) 3
three_on file n y e =
    let q : n + 3 ≡ suc (suc (suc n)) = omega arith in
    let first = place_next first_place file n 92 (13 ∷ 10 ∷ y) e in
    let after = drop_next file n 92 (13 ∷ 10 ∷ y) e in
    let second = place_next first_place file (suc n) 13 (10 ∷ y) after in
    let third = place_next first_place file (suc (suc n)) 10 y (drop_next file (suc n) 13 (10 ∷ y) after) in
    let more : (place_of file n).start + 1 + 1 + 1 ≡ (place_of file n).start + 3 = omega arith in
    ap (place_of file) q ∙ (third ∙ (ap (λ (p : Place). past p 10) (second ∙ ap (λ (p : Place). past p 13) first)
    ∙ ap (λ (k : ℕ). record { line = (place_of file n).line + 1; column = 1; start = k }) more))

-- the place after a continuation
pub continued_on : (file : List ℕ) (n : ℕ) (z : List ℕ) → drop n file ≡ z → 0 < continuation z →
    place_of file (n + continuation z) ≡ past_continuation (place_of file n) (continuation z)
continued_on file n z e h =
    let c = continued z h in
    elim c.bytes [
      | inl both ↦ rw both.1 (two_on file n c.after (e ∙ both.0))
      | inr both ↦ rw both.1 (three_on file n c.after (e ∙ both.0))
    ]

-- it is there
pub continuation_there : (z : List ℕ) → 0 < continuation z → continuation z ≤ length z
continuation_there z h =
    let c = continued z h in
    elim c.bytes [
      | inl both ↦ let n : length z ≡ suc (suc (length c.after)) = ap length both.0 in let m = both.1 in omega (arith, n, m)
      | inr both ↦ let n : length z ≡ suc (suc (suc (length c.after))) = ap length both.0 in let m = both.1 in omega (arith, n, m)
    ]
