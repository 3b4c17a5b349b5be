-- The bytes before a column.
use Rattle.std.proofs.Common.{◌≡◌, ◌<◌, ◌≤◌, ◌+◌, ◌-◌, ◌∷◌, [], ℕ, suc, Bool, true, false, List, length, take, drop}
use Rattle.std.proofs.Common.{get_or, nat_lt, if◌then◌else◌, add-one, drop-cons, ap, sym, ◌∙◌, refl, arith}
use Rattle.std.proofs.lemmas.Bool.{le-ltb, lt-ltb, ltb-false, ltb-true}
use Rattle.std.proofs.lemmas.List.Sums.{sum-map, sum_by-cons}
use Rattle.flt_places.specs.Columns.{bytes_before, units, units_of}

-- the units of a byte and of those after it
one_more : (b k : ℕ) (bytes : List ℕ) → units (take (suc k) (b ∷ bytes)) ≡ units_of b + units (take k bytes)
one_more b k bytes =
    sum-map units_of (b ∷ take k bytes) ∙ sum_by-cons units_of b (take k bytes)
    ∙ ap (λ n. units_of b + n) (sym (sum-map units_of (take k bytes)))

-- they have at most so many units
pub no_more : (line : List ℕ) (left n : ℕ) → n ≡ bytes_before line left → units (take n line) ≤ left
no_more [] left n is = rw is (omega arith)
no_more (b ∷ bytes) left n is =
    let rest = left - units_of b in
    by (nat_lt left (units_of b)) refl is (no_more bytes rest (bytes_before bytes rest) refl) where
      by : (large : Bool) → nat_lt left (units_of b) ≡ large → n ≡ (if large then 0 else 1 + bytes_before bytes (left - units_of b)) →
          units (take (bytes_before bytes (left - units_of b)) bytes) ≤ left - units_of b → units (take n (b ∷ bytes)) ≤ left
      by true known none others = rw none (omega arith)
      by false known some others =
          let one : n ≡ suc (bytes_before bytes (left - units_of b)) = omega (arith, some) in
          rw (one, one_more) (omega (arith, others, ltb-false left (units_of b) known))

-- with one byte more they have more
pub as_many : (line : List ℕ) (left n : ℕ) → n ≡ bytes_before line left → n < length line → left < units (take (n + 1) line)
as_many [] left n is more = absurd (omega (arith, more))
as_many (b ∷ bytes) left n is more =
    let rest = left - units_of b in
    by (nat_lt left (units_of b)) refl is (λ few. as_many bytes rest (bytes_before bytes rest) refl few) where
      by : (large : Bool) → nat_lt left (units_of b) ≡ large → n ≡ (if large then 0 else 1 + bytes_before bytes (left - units_of b)) →
          (bytes_before bytes (left - units_of b) < length bytes →
          left - units_of b < units (take (bytes_before bytes (left - units_of b) + 1) bytes)) → left < units (take (n + 1) (b ∷ bytes))
      by true known none others =
          let one : n + 1 ≡ suc 0 = omega (arith, none) in
          rw (one, one_more) (omega (arith, ltb-true left (units_of b) known))
      by false known some others =
          let one : n + 1 ≡ suc (bytes_before bytes (left - units_of b) + 1) = omega (arith, some) in
          rw (one, one_more) (omega (arith, others (omega (arith, more, some)), ltb-false left (units_of b) known))

-- the next byte has too many
pub stops : (line : List ℕ) (at left : ℕ) → at < length line → left < units_of (get_or line at 0) → bytes_before (drop at line) left ≡ 0
stops line at left low large = rw (drop-cons line at 0 low, lt-ltb _ _ large) refl

-- the next byte is one of them
pub goes : (line : List ℕ) (at left : ℕ) → at < length line → units_of (get_or line at 0) ≤ left →
    bytes_before (drop at line) left ≡ 1 + bytes_before (drop (at + 1) line) (left - units_of (get_or line at 0))
goes line at left low small = rw (add-one at, drop-cons line at 0 low, le-ltb _ _ small) refl
