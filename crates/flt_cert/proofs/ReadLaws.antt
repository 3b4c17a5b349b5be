-- The steps of reading, as the loops make them.
use Rattle.std.proofs.Common.{◌≡◌, ◌<◌, ◌+◌, ◌-◌, ℕ, zero, suc, true, false, List, [], ◌∷◌, ◌++◌, length, refl, arith}
use Rattle.std.specs.Prelude.{Ok, Err}
use Rattle.flt_cert.specs.Text.{Text}
use Rattle.flt_cert.specs.Format.{Point, Certificate}
use Rattle.flt_cert.specs.Reading.{Place, line, point, points_from, callback, callbacks_from, finished, is_last}

one_left : (n number : ℕ) → number < n → n - number ≡ suc (n - (number + 1))
one_left n number h = omega arith

-- one more point is read, and one fewer may follow
pub points_step : (n number : ℕ) (found : List Point) (p : Point) (i j : Place) → number < n → length found ≡ number →
    point number i ≡ Ok (p, j) →
    points_from (n - number) found i ≡ points_from (n - (number + 1)) (found ++ p ∷ []) j
points_step n number found p i j h count read = rw (one_left n number h, count, read) refl

-- a point that can't be read is refused at the line that its reading names
pub bad_point : (n number : ℕ) (found : List Point) (m : ℕ) (i : Place) → number < n → length found ≡ number → point number i ≡ Err m →
    points_from (n - number) found i ≡ Err m
bad_point n number found m i h count read = rw (one_left n number h, count, read) refl

-- where no line can be read, no callback is
pub no_line : (left : ℕ) (found : Certificate) (i : Place) (n : ℕ) → line i ≡ Err n → callbacks_from left found i ≡ Err n
unfolding callbacks_from
no_line zero found i n h = rw h refl
no_line (suc left) found i n h = rw h refl

-- the last line ends the certificate
pub last_callback : (left : ℕ) (found : Certificate) (text : Text) (i j : Place) → line i ≡ Ok (text, j) → is_last found text ≡ true →
    callbacks_from left found i ≡ finished found j
unfolding callbacks_from
last_callback zero found text i j h last = rw (h, last) refl
last_callback (suc left) found text i j h last = rw (h, last) refl

-- where no callback may follow, another line is refused
pub no_last : (found : Certificate) (text : Text) (i j : Place) → line i ≡ Ok (text, j) → is_last found text ≡ false →
    callbacks_from 0 found i ≡ Err j.number
unfolding callbacks_from
no_last found text i j h last = rw (h, last) refl

-- one more callback is read, and one fewer may follow
pub next_callback : (n number : ℕ) (found : Certificate) (text : Text) (ps : List Point) (i j k : Place) → number < n →
    length found ≡ number →
    line i ≡ Ok (text, j) → is_last found text ≡ false → callback number text j ≡ Ok (ps, k) →
    callbacks_from (n - number) found i ≡ callbacks_from (n - (number + 1)) (found ++ ps ∷ []) k
unfolding callbacks_from
next_callback n number found text ps i j k low count h last read = rw (one_left n number low, h, last, count, read) refl

-- a callback that can't be read is refused at the line that its reading names
pub bad_callback : (n number : ℕ) (found : Certificate) (text : Text) (m : ℕ) (i j : Place) → number < n → length found ≡ number →
    line i ≡ Ok (text, j) → is_last found text ≡ false → callback number text j ≡ Err m → callbacks_from (n - number) found i ≡ Err m
unfolding callbacks_from
bad_callback n number found text m i j low count h last read = rw (one_left n number low, h, last, count, read) refl
