-- The digit of a set that has held alone.
use Rattle.std.proofs.Common.{◌≡◌, ◌+◌, Bool, true, false, refl}
use Rattle.std.specs.Prelude.{not, ◌&&◌, ◌==◌}
use Rattle.flt_abs.specs.Sets.{StatusSet, bit_of, is_held, status_bits}

-- the same by what is in the set
pub held_by : (null held stale : Bool) → (bit_of null 1 + (bit_of held 2 + bit_of stale 4) == 2) ≡ (held && (not null && not stale))
held_by true true true = refl
held_by true true false = refl
held_by true false true = refl
held_by true false false = refl
held_by false true true = refl
held_by false true false = refl
held_by false false true = refl
held_by false false false = refl

-- it is 2
pub digit_of_held : (s : StatusSet) → (status_bits s == 2) ≡ is_held s
digit_of_held s = held_by s.null s.held s.stale
