-- Reading a certificate line by line, with the first malformed line.
use Rattle.std.specs.Prelude.{◌≡◌, ℕ, zero, suc, ◌+◌, ◌-◌, Bool, ◌&&◌, ◌==◌, nat_lt, if◌then◌else◌, List, []}
use Rattle.std.specs.Prelude.{◌∷◌, ◌++◌, length, take, drop, codes, Option, Some, None, Result, Ok, Err}
use Rattle.std.specs.Str.{bytes_eq}
use Rattle.flt_rules.specs.Call.{lock_at}
use Rattle.flt_rules.specs.Held.{held, holds_lock}
use Rattle.flt_rules.specs.Parsing as parsing
pub use Rattle.flt_rules.specs.Parsing.{and_then}
use Rattle.flt_rules.specs.declared.call.LockNumber.{LockNumber}
use Rattle.flt_rules.specs.declared.held.Access.{Access}
use Rattle.flt_rules.specs.declared.held.Access.TheVariants.{Exclusive, Shared}
use Rattle.flt_rules.specs.declared.held.HeldLock.{HeldLock}
use Rattle.flt_abs.specs.Sets.{StatusSet, ModeSet, DrainingSet, statuses, modes, draining}
use Rattle.flt_abs.specs.State.{State, state_of, is_proper}
use Rattle.flt_cert.specs.declared.fault.CertFault.{CertFault}
use Rattle.flt_cert.specs.declared.fault.CertFault.TheVariants.{Line, OutOfMemory}
use Rattle.flt_cert.specs.Text.{Text, lines_of, decimal, after, count_of, ◌>>=◌}
use Rattle.flt_cert.specs.Format.{Point, Certificate, first_line, last_line, IsFirstFullFault}

-- ---- one line

-- the set of a digit, 1 to 7
abbrev pub status_of : ℕ → Option StatusSet
status_of b = if nat_lt 48 b && nat_lt b 56 then Some (statuses (b - 48)) else None

-- the sets of digits, behind what was found
abbrev pub sets_from : List StatusSet → Text → Option (List StatusSet)
sets_from found [] = Some found
sets_from found (b ∷ text) = status_of b >>= λ s. sets_from (found ++ s ∷ []) text

-- as many bytes, and what follows them
abbrev pub front_of : ℕ → Text → Option (Text × Text)
front_of n text = if nat_lt (length text) n then None else Some (take n text, drop n text)

-- the sets of a digit, 1 to 3
abbrev pub modes_of : ℕ → Option ModeSet
modes_of b = if nat_lt 48 b && nat_lt b 52 then Some (modes (b - 48)) else None

abbrev pub draining_of : ℕ → Option DrainingSet
draining_of b = if nat_lt 48 b && nat_lt b 52 then Some (draining (b - 48)) else None

-- one byte, and what follows it
abbrev pub byte_at : Text → Option (ℕ × Text)
byte_at [] = None
byte_at (b ∷ text) = Some (b, text)

-- what follows one blank
abbrev pub blank : Text → Option Text
blank = after (32 ∷ [])

-- the lock with this digit, if it isn't among those found
abbrev pub lock_of : List HeldLock → ℕ → Option LockNumber
lock_of found b = if nat_lt b 48 then None else (lock_at (b - 48) >>= λ l. if holds_lock l found then None else Some l)

-- how a lock is held, by what stands behind its digit, and what follows: shared by "s"
abbrev pub access_at : Text → Access × Text
access_at [] = (Exclusive, [])
access_at (b ∷ text) = if b == 115 then (Shared, text) else (Exclusive, b ∷ text)

-- the locks found with one more, and what follows it
abbrev pub with_lock : List HeldLock → Text → Option (List HeldLock × Text)
with_lock found text =
    byte_at text >>= λ digit. lock_of found digit.0 >>= λ l. Some (found ++ held l (access_at digit.1).0 ∷ [], (access_at digit.1).1)

-- as many locks as may still come, up to LF, behind what was found
abbrev pub locks_from : ℕ → List HeldLock → Text → Option (List HeldLock)
locks_from zero found text = None
locks_from (suc left) found text =
    with_lock found text >>= λ more. byte_at more.1 >>= λ b.
    (if b.0 == 44 then locks_from left more.0 b.1 else (if b.0 == 10 && length b.1 == 0 then Some more.0 else None))

-- the last field: eight locks at most, or none
unfoldable pub locks_of : Text → Option (List HeldLock)
locks_of text = if bytes_eq text (45 ∷ 10 ∷ []) then Some [] else locks_from 8 [] text

-- a state, if it is one
abbrev pub made : State → Option State
made s = if is_proper s then Some s else None

-- the five fields
unfoldable pub state_at : Text → Option State
state_at text = do
  front ← front_of 9 text
  contexts ← sets_from [] front.0
  text ← blank front.1
  front ← front_of 5 text
  operations ← sets_from [] front.0
  text ← blank front.1
  digit ← byte_at text
  modes ← modes_of digit.0
  text ← blank digit.1
  digit ← byte_at text
  draining ← draining_of digit.0
  text ← blank digit.1
  locks ← locks_of text
  made (state_of contexts operations modes draining locks)

-- the point with this number
unfoldable pub point_of : ℕ → Text → Option Point
point_of p line = do
  text ← after (decimal p) line
  text ← blank text
  if bytes_eq text (33 ∷ 10 ∷ []) then Some None else (state_at text >>= λ s. Some (Some s))

-- how many points the callback with this number has
unfoldable pub head_of : ℕ → Text → Option ℕ
head_of k line = do
  text ← after (codes "callback ") line
  text ← after (decimal k) text
  text ← blank text
  count_of text

-- ---- lines

-- how many lines are read, and those that are left
pub record Place : Type 0 where
  pub number : ℕ
  pub lines : List Text

abbrev pub start : Text → Place
start text = record { number = 0; lines = lines_of text }

-- what was read and the place after it, or the number of the first malformed line
abbrev pub Outcome : Type 0 → Type 0
Outcome = parsing.Outcome Place ℕ

-- the next line
abbrev pub line_at : ℕ → List Text → Outcome Text
line_at n [] = Err (n + 1)
line_at n (line ∷ lines) = Ok (line, record { number = n + 1; lines = lines })

unfoldable pub line : Place → Outcome Text
line i = line_at i.number i.lines

-- what the latest line says, if it is as asked
abbrev pub asked : {A : Type 0} → Option A → Place → Outcome A
asked None i = Err i.number
asked (Some x) i = Ok (x, i)

-- the line of the point with this number
unfoldable pub point : ℕ → Place → Outcome Point
point p i = and_then (line i) (λ q. asked (point_of p q.0) q.1)

-- the lines of as many points as are left, behind what was found
abbrev pub points_from : ℕ → List Point → Place → Outcome (List Point)
points_from zero found i = Ok (found, i)
points_from (suc left) found i = and_then (point (length found) i) (λ q. points_from left (found ++ q.0 ∷ []) q.1)

-- the lines of the points of one callback
unfoldable pub points : ℕ → Place → Outcome (List Point)
points n = points_from n []

-- nothing follows the last line
abbrev pub closed_by : List Text → Place → Outcome (Unit {0})
closed_by [] i = Ok (tt, i)
closed_by (line ∷ lines) i = Err (i.number + 1)

unfoldable pub closed : Place → Outcome (Unit {0})
closed i = closed_by i.lines i

-- the last line, behind one callback or more
abbrev pub is_last : Certificate → Text → Bool
is_last found line = nat_lt 0 (length found) && bytes_eq line last_line

-- the callback with this number, from its first line on
unfoldable pub callback : ℕ → Text → Place → Outcome (List Point)
callback k line i = and_then (asked (head_of k line) i) (λ n. points n.0 n.1)

abbrev pub finished : Certificate → Place → Outcome Certificate
finished found i = and_then (closed i) (λ e. Ok (found, e.1))

-- as many callbacks as may still come, behind what was found, and the last line
unfoldable pub callbacks_from : ℕ → Certificate → Place → Outcome Certificate
callbacks_from zero found i = and_then (line i) (λ q. if is_last found q.0 then finished found q.1 else Err q.1.number)
callbacks_from (suc left) found i =
    and_then (line i) (λ q.
    if is_last found q.0 then finished found q.1
    else and_then (callback (length found) q.0 q.1) (λ ps. callbacks_from left (found ++ ps.0 ∷ []) ps.1))

abbrev pub callbacks : Place → Outcome Certificate
callbacks = callbacks_from 16 []

-- the first line of a certificate
abbrev pub is_first : Text → Option (Unit {0})
is_first line = if bytes_eq line first_line then Some tt else None

unfoldable pub first : Place → Outcome (Unit {0})
first i = and_then (line i) (λ q. asked (is_first q.0) q.1)

-- the whole of a certificate
unfoldable pub certificate : Place → Outcome Certificate
certificate i = and_then (first i) (λ q. callbacks q.1)

-- ---- what a function that reads ensures: what is read, unless memory runs out

abbrev pub Fails : {Y : Type 0} → Outcome Y → CertFault → Type 0
Fails outcome OutOfMemory = Unit {0}
Fails outcome (Line n) = outcome ≡ Err n

abbrev pub ReadsBy : {X Y : Type 0} → (X → Y) → Outcome Y → Result X CertFault → Place → Type 0
ReadsBy view outcome (Ok x) new = outcome ≡ Ok (view x, new)
ReadsBy view outcome (Err e) new = Fails outcome e

abbrev pub Reads : {A : Type 0} → Outcome A → Result A CertFault → Place → Type 0
Reads = ReadsBy (λ x. x)

-- a fault names the first malformed line
abbrev pub IsFullFaultOf : Text → CertFault → Type 0
IsFullFaultOf text OutOfMemory = Unit {0}
IsFullFaultOf text (Line n) = IsFirstFullFault text n
