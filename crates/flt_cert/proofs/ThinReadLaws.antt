-- The steps of reading thin certificates, as the loops make them.
use Rattle.std.proofs.Common.{◌≡◌, ◌<◌, ◌≤◌, ◌+◌, ◌-◌, ℕ, zero, suc, true, false, List, [], ◌∷◌, ◌++◌, length}
use Rattle.std.proofs.Common.{refl, ap, sym, ◌∙◌, arith, append-nil, append_assoc, length-append}
use Rattle.std.specs.Prelude.{Ok, Err, Some, None}
use Rattle.flt_cert.specs.Text.{Text}
use Rattle.flt_cert.specs.Format.{Point}
use Rattle.flt_cert.specs.Reading.{Place, line}
use Rattle.flt_cert.specs.Thin.{Slot, Thin}
use Rattle.flt_cert.specs.ThinReading.{given_at, nothing_given, padded, with_given, slots_from, thin_callback}
use Rattle.flt_cert.specs.ThinReading.{is_thin_end, thin_finished, thin_callbacks_from}

one_left : (n number : ℕ) → number < n → n - number ≡ suc (n - (number + 1))
one_left n number h = omega arith

-- ---- slots that give nothing

-- one more, where there are too few
pub padded_step : (count : ℕ) (found : List Slot) → length found < count → padded count (found ++ None ∷ []) ≡ padded count found
padded_step count found h =
    let len : length (found ++ None ∷ []) ≡ length found + 1 = length-append found (None ∷ []) in
    let one : count - length found ≡ suc (count - length (found ++ None ∷ [])) = omega arith in
    append_assoc found (None ∷ []) (nothing_given (count - length (found ++ None ∷ [])))
    ∙ ap (λ m. found ++ nothing_given m) (sym one)

-- none, where there are enough
pub padded_done : (count : ℕ) (found : List Slot) → count ≤ length found → padded count found ≡ found
padded_done count found h =
    let none : count - length found ≡ 0 = omega arith in
    ap (λ m. found ++ nothing_given m) none ∙ append-nil found

-- ---- the points of one callback

-- no line is left
pub no_slot_line : (left count : ℕ) (found : List Slot) (i : Place) (n : ℕ) → line i ≡ Err n → slots_from left count found i ≡ Err n
no_slot_line zero count found i n h = rw h refl
no_slot_line (suc left) count found i n h = rw h refl

-- a line that gives no point is the one behind the points
pub last_slot : (left count : ℕ) (found : List Slot) (text : Text) (i j : Place) → line i ≡ Ok (text, j) →
    given_at (length found) count text ≡ None → slots_from left count found i ≡ Ok ((padded count found, text), j)
last_slot zero count found text i j h none = rw h refl
last_slot (suc left) count found text i j h none = rw (h, none) refl

-- where no more may come, the next line is behind the points
pub no_slot_left : (count : ℕ) (found : List Slot) (text : Text) (i j : Place) → line i ≡ Ok (text, j) →
    slots_from 0 count found i ≡ Ok ((padded count found, text), j)
no_slot_left count found text i j h = rw h refl

-- a line that gives a point is followed by others
pub next_slot : (n turn count : ℕ) (found : List Slot) (text : Text) (p : ℕ) (x : Point) (i j : Place) → turn < n →
    line i ≡ Ok (text, j) → given_at (length found) count text ≡ Some (p, x) →
    slots_from (n - turn) count found i ≡ slots_from (n - (turn + 1)) count (with_given p x found) j
next_slot n turn count found text p x i j low h given = rw (one_left n turn low, h, given) refl

-- ---- callbacks

-- the last line
pub last_callback : (left : ℕ) (found : Thin) (text : Text) (i : Place) → is_thin_end found text ≡ true →
    thin_callbacks_from left found text i ≡ thin_finished found i
unfolding thin_callbacks_from
last_callback zero found text i last = rw last refl
last_callback (suc left) found text i last = rw last refl

-- as many callbacks as there may be, and another line
pub no_last : (found : Thin) (text : Text) (i : Place) → is_thin_end found text ≡ false →
    thin_callbacks_from 0 found text i ≡ Err i.number
unfolding thin_callbacks_from
no_last found text i last = rw last refl

-- a callback that is read is followed by others
pub next_callback : (n number : ℕ) (found : Thin) (text after : Text) (s : List Slot) (i j : Place) → number < n →
    length found ≡ number → is_thin_end found text ≡ false → thin_callback number text i ≡ Ok ((s, after), j) →
    thin_callbacks_from (n - number) found text i ≡ thin_callbacks_from (n - (number + 1)) (found ++ s ∷ []) after j
unfolding thin_callbacks_from
next_callback n number found text after s i j low count last read = rw (one_left n number low, last, count, read) refl

-- one that isn't, is where reading ends
pub bad_callback : (n number : ℕ) (found : Thin) (text : Text) (m : ℕ) (i : Place) → number < n → length found ≡ number →
    is_thin_end found text ≡ false → thin_callback number text i ≡ Err m → thin_callbacks_from (n - number) found text i ≡ Err m
unfolding thin_callbacks_from
bad_callback n number found text m i low count last read = rw (one_left n number low, last, count, read) refl
