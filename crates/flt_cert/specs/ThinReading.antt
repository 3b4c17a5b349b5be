-- Reading a thin certificate line by line, with the first malformed line.
use Rattle.std.specs.Prelude.{ℕ, zero, suc, ◌+◌, ◌-◌, ◌*◌, Bool, not, ◌&&◌, ◌||◌, nat_lt, if◌then◌else◌}
use Rattle.std.specs.Prelude.{List, [], ◌∷◌, ◌++◌, length, Option, Some, None, Ok, Err}
use Rattle.std.specs.Str.{bytes_eq}
use Rattle.flt_cert.specs.declared.fault.CertFault.{CertFault}
use Rattle.flt_cert.specs.declared.fault.CertFault.TheVariants.{Line, OutOfMemory}
use Rattle.flt_cert.specs.Text.{Text, ◌>>=◌}
use Rattle.flt_cert.specs.Format.{Point, last_line}
use Rattle.flt_cert.specs.Reading.{Place, Outcome, and_then, line, asked, point, point_of, head_of, closed}
use Rattle.flt_cert.specs.Thin.{Slot, Thin}
use Rattle.flt_cert.specs.ThinFormat.{first_thin_line, IsFirstThinFault}

-- ---- one line

-- a number with one more digit and what follows it, where a digit stands there
abbrev pub with_digit : ℕ → Text → ℕ × Text
with_digit n [] = (n, [])
with_digit n (b ∷ text) = if nat_lt 47 b && nat_lt b 58 then (10 * n + (b - 48), text) else (n, b ∷ text)

-- the number of the first digits, three at most; 0 where there is none
abbrev pub number_at : Text → ℕ
number_at text =
    let one = with_digit 0 text in
    let two = with_digit one.0 one.1 in
    (with_digit two.0 two.1).0

-- the point that a line gives, with its number: not below the first number, and below the second
unfoldable pub given_at : ℕ → ℕ → Text → Option (ℕ × Point)
given_at least count line =
    let p = number_at line in
    if nat_lt p least || not (nat_lt p count) then None else (point_of p line >>= λ x. Some (p, x))

-- ---- the points of one callback

abbrev pub nothing_given : ℕ → List Slot
nothing_given zero = []
nothing_given (suc n) = None ∷ nothing_given n

-- as many slots, where nothing is given behind those that were found
abbrev pub padded : ℕ → List Slot → List Slot
padded count found = found ++ nothing_given (count - length found)

-- those that were found, and the point with this number
abbrev pub with_given : ℕ → Point → List Slot → List Slot
with_given p x found = padded p found ++ Some x ∷ []

-- what follows where a point is given, or else
abbrev pub if_given : {A : Type 0} → Option (ℕ × Point) → (ℕ × Point → A) → A → A
if_given (Some q) f other = f q
if_given None f other = other

-- the lines of as many points as may still come, by rising numbers, behind what was found; and the line behind them, which is taken
-- too. So no line is looked at before its turn, and a fault up to a line depends on no line after it
abbrev pub slots_from : ℕ → ℕ → List Slot → Place → Outcome (List Slot × Text)
slots_from zero count found i = and_then (line i) (λ q. Ok ((padded count found, q.0), q.1))
slots_from (suc left) count found i =
    and_then (line i) (λ q.
    if_given (given_at (length found) count q.0) (λ g. slots_from left count (with_given g.0 g.1 found) q.1)
    (Ok ((padded count found, q.0), q.1)))

-- the points of one callback, of which the first is given, and the line behind them
unfoldable pub slots : ℕ → Place → Outcome (List Slot × Text)
slots count i = and_then (point 0 i) (λ q. slots_from count count (Some q.0 ∷ []) q.1)

-- the callback with this number, from its first line on, and the line behind it
unfoldable pub thin_callback : ℕ → Text → Place → Outcome (List Slot × Text)
thin_callback k text i = and_then (asked (head_of k text) i) (λ n. slots n.0 n.1)

-- ---- all lines

-- the last line, behind one callback or more
abbrev pub is_thin_end : Thin → Text → Bool
is_thin_end found text = nat_lt 0 (length found) && bytes_eq text last_line

-- nothing follows the last line
abbrev pub thin_finished : Thin → Place → Outcome Thin
thin_finished found i = and_then (closed i) (λ e. Ok (found, e.1))

-- as many callbacks as may still come, behind what was found, from a line on; and the last line
unfoldable pub thin_callbacks_from : ℕ → Thin → Text → Place → Outcome Thin
thin_callbacks_from zero found text i = if is_thin_end found text then thin_finished found i else Err i.number
thin_callbacks_from (suc left) found text i =
    if is_thin_end found text then thin_finished found i
    else and_then (thin_callback (length found) text i) (λ q. thin_callbacks_from left (found ++ q.0.0 ∷ []) q.0.1 q.1)

unfoldable pub thin_callbacks : Place → Outcome Thin
thin_callbacks i = and_then (line i) (λ q. thin_callbacks_from 16 [] q.0 q.1)

-- the first line of a thin certificate
abbrev pub is_first_thin : Text → Option (Unit {0})
is_first_thin line = if bytes_eq line first_thin_line then Some tt else None

unfoldable pub first_thin : Place → Outcome (Unit {0})
first_thin i = and_then (line i) (λ q. asked (is_first_thin q.0) q.1)

-- the whole of a thin certificate
unfoldable pub thin_certificate : Place → Outcome Thin
thin_certificate i = and_then (first_thin i) (λ q. thin_callbacks q.1)

-- a fault names the first malformed line
abbrev pub IsThinFaultOf : Text → CertFault → Type 0
IsThinFaultOf text OutOfMemory = Unit {0}
IsThinFaultOf text (Line n) = IsFirstThinFault text n
