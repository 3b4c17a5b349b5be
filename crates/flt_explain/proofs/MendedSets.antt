-- What is left of sets, and the digits of that.
use Rattle.std.proofs.Common.{◌≡◌, ◌<◌, ◌+◌, ◌&&◌, ◌||◌, Bool, true, false, not, refl, lit<}
use Rattle.std.specs.Prelude.{IsTrue}
use Rattle.std.specs.Int.RustNames.{bit_and}
use Rattle.flt_rules.specs.declared.rule.Rule.{Rule}
use Rattle.flt_abs.specs.Sets.{StatusSet, ModeSet, DrainingSet, bit_of, statuses, status_bits}
use Rattle.flt_abs.specs.Sets.{modes, mode_bits, draining, draining_bits, is_held, is_possible}
use Rattle.flt_abs.specs.State.{Status, Null, Held, Stale, has_status}
use Rattle.flt_explain.specs.Mending.{wants_held, wants_not_held, is_fine, mended, mended_modes, mended_draining}

-- ---- digits

abbrev set_of : Bool → Bool → Bool → StatusSet
set_of n h s = record { null = n; held = h; stale = s }

kept_held_by : (n h s : Bool) → statuses (bit_and (bit_of n 1 + (bit_of h 2 + bit_of s 4)) 2) ≡ set_of (n && false) (h && true) (s && false)
kept_held_by false false false = refl
kept_held_by false false true = refl
kept_held_by false true false = refl
kept_held_by false true true = refl
kept_held_by true false false = refl
kept_held_by true false true = refl
kept_held_by true true false = refl
kept_held_by true true true = refl

-- the bit of held is what is left where held is asked for
pub kept_held : (s : StatusSet) → statuses (bit_and (status_bits s) 2)
    ≡ record { null = s.null && false; held = s.held && true; stale = s.stale && false }
kept_held s = kept_held_by s.null s.held s.stale

kept_not_held_by : (n h s : Bool) →
    statuses (bit_and (bit_of n 1 + (bit_of h 2 + bit_of s 4)) 5) ≡ set_of (n && true) (h && false) (s && true)
kept_not_held_by false false false = refl
kept_not_held_by false false true = refl
kept_not_held_by false true false = refl
kept_not_held_by false true true = refl
kept_not_held_by true false false = refl
kept_not_held_by true false true = refl
kept_not_held_by true true false = refl
kept_not_held_by true true true = refl

-- and the others where it is not to be held
pub kept_not_held : (s : StatusSet) →
    statuses (bit_and (status_bits s) 5) ≡ record { null = s.null && true; held = s.held && false; stale = s.stale && true }
kept_not_held s = kept_not_held_by s.null s.held s.stale

kept_by : (n h s : Bool) → set_of n h s ≡ set_of (n && true) (h && true) (s && true)
kept_by false false false = refl
kept_by false false true = refl
kept_by false true false = refl
kept_by false true true = refl
kept_by true false false = refl
kept_by true false true = refl
kept_by true true false = refl
kept_by true true true = refl

-- and all where nothing is asked
pub kept : (s : StatusSet) → s ≡ record { null = s.null && true; held = s.held && true; stale = s.stale && true }
kept s = kept_by s.null s.held s.stale

within_held_by : (n h s : Bool) → bit_and (bit_of n 1 + (bit_of h 2 + bit_of s 4)) 2 < 8
within_held_by false false false = lit< tt
within_held_by false false true = lit< tt
within_held_by false true false = lit< tt
within_held_by false true true = lit< tt
within_held_by true false false = lit< tt
within_held_by true false true = lit< tt
within_held_by true true false = lit< tt
within_held_by true true true = lit< tt

-- the held bit of a set is within a set's bits
pub within_held : (s : StatusSet) → bit_and (status_bits s) 2 < 8
within_held s = within_held_by s.null s.held s.stale

within_not_held_by : (n h s : Bool) → bit_and (bit_of n 1 + (bit_of h 2 + bit_of s 4)) 5 < 8
within_not_held_by false false false = lit< tt
within_not_held_by false false true = lit< tt
within_not_held_by false true false = lit< tt
within_not_held_by false true true = lit< tt
within_not_held_by true false false = lit< tt
within_not_held_by true false true = lit< tt
within_not_held_by true true false = lit< tt
within_not_held_by true true true = lit< tt

-- what remains without the held bit is within a set's bits
pub within_not_held : (s : StatusSet) → bit_and (status_bits s) 5 < 8
within_not_held s = within_not_held_by s.null s.held s.stale

kept_irp_by : (a b : Bool) → modes (bit_and (bit_of a 1 + bit_of b 2) 1) ≡ record { irp = a; fast = false }
kept_irp_by false false = refl
kept_irp_by false true = refl
kept_irp_by true false = refl
kept_irp_by true true = refl

-- the first bit is what is left of two
pub kept_irp : (s : ModeSet) → modes (bit_and (mode_bits s) 1) ≡ mended_modes s
kept_irp s = kept_irp_by s.irp s.fast

kept_no_by : (a b : Bool) → draining (bit_and (bit_of a 1 + bit_of b 2) 1) ≡ record { no = a; yes = false }
kept_no_by false false = refl
kept_no_by false true = refl
kept_no_by true false = refl
kept_no_by true true = refl

-- the lowest bit of a draining set is what its rule leaves of it
pub kept_no : (s : DrainingSet) → draining (bit_and (draining_bits s) 1) ≡ mended_draining s
kept_no s = kept_no_by s.no s.yes

low_by : (a b : Bool) → bit_and (bit_of a 1 + bit_of b 2) 1 < 4
low_by false false = lit< tt
low_by false true = lit< tt
low_by true false = lit< tt
low_by true true = lit< tt

-- the lowest bit of a mode set is within its bits
pub within_irp : (s : ModeSet) → bit_and (mode_bits s) 1 < 4
within_irp s = low_by s.irp s.fast

-- the lowest bit of a draining set is within its bits
pub within_no : (s : DrainingSet) → bit_and (draining_bits s) 1 < 4
within_no s = low_by s.no s.yes

-- ---- the law

-- what a rule leaves of a set is what is fine for the rule
pub exact : (r : Rule) (s : StatusSet) (t : Status) → has_status (mended r s) t ≡ (has_status s t && is_fine r t)
exact r s Null = refl
exact r s Held = refl
exact r s Stale = refl

held_by : (n h s w z : Bool) → w ≡ true → ((n && not w) || ((h && not z) || (s && not w))) ≡ true →
    ((h && not z) && (not (n && not w) && not (s && not w))) ≡ true
held_by false false false true false e p = p
held_by false false false true true e p = p
held_by false false true true false e p = p
held_by false false true true true e p = p
held_by false true false true false e p = p
held_by false true false true true e p = p
held_by false true true true false e p = p
held_by false true true true true e p = p
held_by true false false true false e p = p
held_by true false false true true e p = p
held_by true false true true false e p = p
held_by true false true true true e p = p
held_by true true false true false e p = p
held_by true true false true true e p = p
held_by true true true true false e p = p
held_by true true true true true e p = p
held_by n h s false z e p = absurd (cc)

-- what is left for a rule that wants a status held is held
pub held : (r : Rule) (s : StatusSet) → IsTrue (wants_held r) → IsTrue (is_possible (mended r s)) → IsTrue (is_held (mended r s))
held r s e p = held_by s.null s.held s.stale (wants_held r) (wants_not_held r) e p

not_held_by : (h w : Bool) → w ≡ true → (h && not w) ≡ false
not_held_by false true e = refl
not_held_by true true e = refl
not_held_by h false e = absurd (cc)

-- what is left for a rule that wants a status not held isn't held
pub not_held : (r : Rule) (s : StatusSet) → IsTrue (wants_not_held r) → (mended r s).held ≡ false
not_held r s e = not_held_by s.held (wants_not_held r) e
