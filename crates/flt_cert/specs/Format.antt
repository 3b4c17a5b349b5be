-- Full certificates and their spelling: format 1. This project's own format.
use Rattle.std.specs.Prelude.{◌≡◌, ℕ, suc, ◌+◌, Bool, true, ◌&&◌, nat_lt, List, [], ◌∷◌}
use Rattle.std.specs.Prelude.{◌++◌, length, map, codes, Option, Some, None, IsTrue}
use Rattle.std.specs.List.{list_all, flat_map}
use Rattle.std.specs.Prelude.{take}
use Rattle.flt_rules.specs.Call.{place_of}
use Rattle.flt_rules.specs.declared.held.Access.{Access}
use Rattle.flt_rules.specs.declared.held.Access.TheVariants.{Exclusive, Shared}
use Rattle.flt_rules.specs.declared.held.HeldLock.{HeldLock}
use Rattle.flt_abs.specs.Sets.{StatusSet, status_bits, mode_bits, draining_bits}
use Rattle.flt_abs.specs.State.{State, is_proper}
use Rattle.flt_cert.specs.Text.{Text, lines_of, decimal}

-- ---- certificates

-- what may be so at a point; none where it isn't reached
abbrev pub Point : Type 0
Point = Option State

-- for each callback the points, from 0
abbrev pub Certificate : Type 0
Certificate = List (List Point)

-- a state has no empty set
abbrev pub is_point : Point → Bool
is_point None = true
is_point (Some s) = is_proper s

-- a callback has 1 to 512 points
abbrev pub is_callback : List Point → Bool
is_callback points = nat_lt 0 (length points) && (nat_lt (length points) 513 && list_all is_point points)

-- a certificate has 1 to 16 callbacks
abbrev pub is_certificate : Certificate → Bool
is_certificate callbacks = nat_lt 0 (length callbacks) && (nat_lt (length callbacks) 17 && list_all is_callback callbacks)

-- ---- their lines

-- a digit for each variable
abbrev pub digits : List StatusSet → Text
digits = map (λ s. 48 + status_bits s)

-- a shared lock has "s" behind its place
abbrev pub access_text : Access → Text
access_text Exclusive = []
access_text Shared = 115 ∷ []

-- the place of a lock, and how it is held
abbrev pub lock_text : HeldLock → Text
lock_text h = (48 + place_of h.lock) ∷ access_text h.access

-- the locks after the first, each behind a comma
abbrev pub more_locks : List HeldLock → Text
more_locks [] = []
more_locks (h ∷ locks) = 44 ∷ (lock_text h ++ more_locks locks)

-- the locks, the oldest first, or "-"
abbrev pub locks_text : List HeldLock → Text
locks_text [] = 45 ∷ []
locks_text (h ∷ locks) = lock_text h ++ more_locks locks

-- the five fields of a state
abbrev pub state_text : State → Text
state_text s =
    digits s.contexts ++ 32 ∷ (digits s.operations ++ 32 ∷ (48 + mode_bits s.modes) ∷ 32 ∷ (48 + draining_bits s.draining) ∷ 32
    ∷ locks_text s.locks)

-- the same, or "!" where the point isn't reached
abbrev pub point_text : Point → Text
point_text None = 33 ∷ []
point_text (Some s) = state_text s

-- the number of a point, and what may be so at it
abbrev pub point_line : ℕ → Point → Text
point_line p point = decimal p ++ 32 ∷ (point_text point ++ 10 ∷ [])

-- the number of a callback, and how many points it has
abbrev pub callback_line : ℕ → ℕ → Text
callback_line k n = codes "callback " ++ (decimal k ++ 32 ∷ (decimal n ++ 10 ∷ []))

abbrev pub first_line : Text
first_line = codes "fltcert 1" ++ 10 ∷ []

abbrev pub last_line : Text
last_line = codes "end" ++ 10 ∷ []

-- the lines of points, the first of which has a number
abbrev pub point_lines : ℕ → List Point → List Text
point_lines p [] = []
point_lines p (point ∷ points) = point_line p point ∷ point_lines (suc p) points

-- the lines of one callback
abbrev pub one_callback : ℕ → List Point → List Text
one_callback k points = callback_line k (length points) ∷ point_lines 0 points

-- the lines of callbacks, the first of which has a number
abbrev pub callback_lines : ℕ → Certificate → List Text
callback_lines k [] = []
callback_lines k (points ∷ callbacks) = one_callback k points ++ callback_lines (suc k) callbacks

-- the lines of a full certificate
abbrev pub full_lines_for : Certificate → List Text
full_lines_for callbacks = first_line ∷ (callback_lines 0 callbacks ++ last_line ∷ [])

-- lines one after the other
abbrev pub joined : List Text → Text
joined = flat_map (λ line. line)

-- the one spelling of a full certificate
abbrev pub full_spelling : Certificate → Text
full_spelling callbacks = joined (full_lines_for callbacks)

-- ---- texts that are no full certificate

-- the first lines of a text, up to a number, are those of a full certificate
abbrev pub AgreeFull : ℕ → Text → Certificate → Type 0
AgreeFull n text callbacks = take n (lines_of text) ≡ take n (full_lines_for callbacks)

-- the first malformed line, counted from 1: the lines before it are the first of some full certificate, and
-- with it they are those of none; a missing line counts
pub record IsFirstFullFault (text : Text) (n : ℕ) : Type 0 where
  pub before : ℕ
  pub next : n ≡ suc before
  pub whose : Certificate
  pub certificate : IsTrue (is_certificate whose)
  pub begun : AgreeFull before text whose
  pub stopped : (callbacks : Certificate) → IsTrue (is_certificate callbacks) → AgreeFull n text callbacks → ⊥
