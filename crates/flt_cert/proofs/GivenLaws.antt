-- What is read from the line of a point that is given is spelled so, and what is spelled so is read.
use Rattle.std.proofs.Common.{◌≡◌, ◌<◌, ◌≤◌, ℕ, Bool, true, false, [], ◌∷◌, ◌++◌, refl, ap, subst, arith, ◌∙◌}
use Rattle.std.specs.Prelude.{not, ◌==◌, ◌||◌, nat_lt, if◌then◌else◌, Option, Some, None}
use Rattle.std.proofs.lemmas.Bool.{or_parts, or_from, eqb-true, ltb-true, ltb-false, lt-ltb, le-ltb, not-false, agree_below, agree_below_at}
use Rattle.flt_cert.specs.Text.{Text, decimal, ◌>>=◌}
use Rattle.flt_cert.specs.Format.{Point, is_point, point_text, point_line}
use Rattle.flt_cert.specs.Reading.{point_of}
use Rattle.flt_cert.specs.ThinReading.{number_at, given_at}
use Rattle.flt_cert.proofs.FieldLaws.{some_inside, point_takes, point_again}

-- ---- the number

is_again : Text → ℕ → Bool
is_again rest p = number_at (decimal p ++ 32 ∷ rest) == p

all_again : (rest : Text) → agree_below (is_again rest) (λ p. true) 513 ≡ true
unfolding is_again
all_again rest = refl

number_again : (p : ℕ) (rest : Text) → p < 513 → number_at (decimal p ++ 32 ∷ rest) ≡ p
unfolding is_again
number_again p rest h =
    eqb-true (number_at (decimal p ++ 32 ∷ rest)) p (agree_below_at (is_again rest) (λ q. true) 513 p (all_again rest) h)

-- ---- the line

-- a point with its number
abbrev numbered : ℕ → Option Point → Option (ℕ × Point)
numbered n o = o >>= λ y. Some (n, y)

-- a line that gives a point is the line of that point, and its number is within the bounds
pub given_takes : (least count : ℕ) (text : Text) (p : ℕ) (x : Point) → given_at least count text ≡ Some (p, x) →
    (text ≡ point_line p x) × (is_point x ≡ true) × (least ≤ p) × (p < count)
unfolding given_at
given_takes least count text p x h = by_bounds (nat_lt n least || not (nat_lt n count)) refl h
  where
    n : ℕ
    n = number_at text

    by_point : (nat_lt n least || not (nat_lt n count)) ≡ false → (o : Option Point) → point_of n text ≡ o →
        numbered n o ≡ Some (p, x) → (text ≡ point_line p x) × (is_point x ≡ true) × (least ≤ p) × (p < count)
    by_point within None e k = cc
    by_point within (Some y) e k =
        let both = or_parts (nat_lt n least) (not (nat_lt n count)) within in
        let low : least ≤ n = ltb-false n least both.0 in
        let high : n < count = ltb-true n count (not-false (nat_lt n count) both.1) in
        let takes = point_takes n text y e in
        let pair : (n, y) ≡ (p, x) = some_inside k in
        let number : n ≡ p = ap (λ (q : ℕ × Point). q.0) pair in
        let point : y ≡ x = ap (λ (q : ℕ × Point). q.1) pair in (
          takes.0 ∙ (ap (λ m. point_line m y) number ∙ ap (λ z. point_line p z) point),
          subst (λ (z : Point). is_point z ≡ true) point takes.1,
          omega (arith, low, number),
          omega (arith, high, number),
        )

    by_bounds : (b : Bool) → (nat_lt n least || not (nat_lt n count)) ≡ b →
        (if b then None else numbered n (point_of n text)) ≡ Some (p, x) →
        (text ≡ point_line p x) × (is_point x ≡ true) × (least ≤ p) × (p < count)
    by_bounds true e k = cc
    by_bounds false e k = by_point e (point_of n text) refl k

-- the line of a point within the bounds gives it
pub given_again : (least count p : ℕ) (x : Point) → is_point x ≡ true → least ≤ p → p < count → count < 514 →
    given_at least count (point_line p x) ≡ Some (p, x)
unfolding given_at
given_again least count p x good low high few =
    let number : number_at (point_line p x) ≡ p = number_again p (point_text x ++ 10 ∷ []) (omega arith) in
    let within : (nat_lt p least || not (nat_lt p count)) ≡ false =
    or_from (nat_lt p least) (not (nat_lt p count)) (le-ltb p least low) (ap not (lt-ltb p count high)) in
    rw (number, within, point_again p x good) refl

-- no point is given by a line that begins without a digit
pub none_given : (least count : ℕ) (text : Text) → 0 < least → number_at text ≡ 0 → given_at least count text ≡ None
unfolding given_at
none_given least count text some number =
    let below : (nat_lt 0 least || not (nat_lt 0 count)) ≡ true = rw (lt-ltb 0 least some) refl in
    rw (number, below) refl
