-- Sets of statuses, of modes and of answers to the draining test, each by what is in it.
use Rattle.std.specs.Prelude.{ℕ, ◌+◌, Bool, true, false, not, ◌||◌, ◌&&◌, ◌==◌, if◌then◌else◌}
use Rattle.std.specs.Int.RustNames.{bit_and}

-- the bit of what is in a set, and 0 for what isn't
abbrev pub bit_of : Bool → ℕ → ℕ
bit_of b n = if b then n else 0

-- ---- statuses

-- what may be so of a variable: it is NULL, it is held, or it was released or handed over
pub record StatusSet : Type 0 where
  pub null : Bool
  pub held : Bool
  pub stale : Bool

-- a certificate writes such a set as the sum of NULL 1, held 2 and stale 4
abbrev pub statuses : ℕ → StatusSet
statuses n = record { null = bit_and n 1 == 1; held = bit_and n 2 == 2; stale = bit_and n 4 == 4 }

-- the sum that stands for a set
abbrev pub status_bits : StatusSet → ℕ
status_bits s = bit_of s.null 1 + (bit_of s.held 2 + bit_of s.stale 4)

-- the sets of one status, and that of a call that may give nothing
abbrev pub null_alone : StatusSet
null_alone = record { null = true; held = false; stale = false }

abbrev pub held_alone : StatusSet
held_alone = record { null = false; held = true; stale = false }

abbrev pub stale_alone : StatusSet
stale_alone = record { null = false; held = false; stale = true }

abbrev pub null_or_held : StatusSet
null_or_held = record { null = true; held = true; stale = false }

-- the tests: is it surely held, surely given away
abbrev pub is_held : StatusSet → Bool
is_held s = s.held && (not s.null && not s.stale)

abbrev pub is_stale : StatusSet → Bool
is_stale s = s.stale && (not s.null && not s.held)

-- the union of two sets
abbrev pub either_status : StatusSet → StatusSet → StatusSet
either_status a b = record { null = a.null || b.null; held = a.held || b.held; stale = a.stale || b.stale }

-- each status of the first set is in the second
abbrev pub statuses_within : StatusSet → StatusSet → Bool
statuses_within a b = (not a.null || b.null) && ((not a.held || b.held) && (not a.stale || b.stale))

-- the set without NULL
abbrev pub without_null : StatusSet → StatusSet
without_null s = record s { null = false }

-- some status is in the set
abbrev pub is_possible : StatusSet → Bool
is_possible s = s.null || (s.held || s.stale)

-- ---- modes

-- which modes the operation may have
pub record ModeSet : Type 0 where
  pub irp : Bool
  pub fast : Bool

-- a certificate writes such a set as the sum of irp 1 and fast 2
abbrev pub modes : ℕ → ModeSet
modes n = record { irp = bit_and n 1 == 1; fast = bit_and n 2 == 2 }

-- the sum that stands for a set
abbrev pub mode_bits : ModeSet → ℕ
mode_bits s = bit_of s.irp 1 + bit_of s.fast 2

-- the sets of one mode
abbrev pub irp_alone : ModeSet
irp_alone = record { irp = true; fast = false }

abbrev pub fast_alone : ModeSet
fast_alone = record { irp = false; fast = true }

-- the union of two sets
abbrev pub either_mode : ModeSet → ModeSet → ModeSet
either_mode a b = record { irp = a.irp || b.irp; fast = a.fast || b.fast }

-- each mode of the first set is in the second
abbrev pub modes_within : ModeSet → ModeSet → Bool
modes_within a b = (not a.irp || b.irp) && (not a.fast || b.fast)

-- some mode is in the set
abbrev pub is_mode_possible : ModeSet → Bool
is_mode_possible s = s.irp || s.fast

-- ---- draining

-- whether draining may be unset, and whether it may be set
pub record DrainingSet : Type 0 where
  pub no : Bool
  pub yes : Bool

-- a certificate writes such a set as the sum of no 1 and yes 2
abbrev pub draining : ℕ → DrainingSet
draining n = record { no = bit_and n 1 == 1; yes = bit_and n 2 == 2 }

-- the sum that stands for a set
abbrev pub draining_bits : DrainingSet → ℕ
draining_bits s = bit_of s.no 1 + bit_of s.yes 2

-- the sets of one answer
abbrev pub no_alone : DrainingSet
no_alone = record { no = true; yes = false }

abbrev pub yes_alone : DrainingSet
yes_alone = record { no = false; yes = true }

-- the union of two sets
abbrev pub either_draining : DrainingSet → DrainingSet → DrainingSet
either_draining a b = record { no = a.no || b.no; yes = a.yes || b.yes }

-- each answer of the first set is in the second
abbrev pub drainings_within : DrainingSet → DrainingSet → Bool
drainings_within a b = (not a.no || b.no) && (not a.yes || b.yes)

-- some answer is in the set
abbrev pub is_draining_possible : DrainingSet → Bool
is_draining_possible s = s.no || s.yes
