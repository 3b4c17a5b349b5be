-- Digits of sets that are all read, whatever stands among them.
use Rattle.std.proofs.Common.{◌≡◌, ◌<◌, ◌+◌, ◌-◌, ◌∙◌, ℕ, Bool, true, false, List, [], ◌∷◌}
use Rattle.std.proofs.Common.{◌++◌, length, get_or, take, drop, refl, sym, subst, arith}
use Rattle.std.specs.Prelude.{◌&&◌, nat_lt, if◌then◌else◌, Some, None, IsTrue, IsFalse}
use Rattle.std.proofs.Math.ListN.{set}
use Rattle.std.proofs.lemmas.Bool.{ltb-true}
use Rattle.std.proofs.lemmas.List.{take_more_set, drop_more}
use Rattle.flt_abs.specs.Sets.{StatusSet, statuses}
use Rattle.flt_abs.specs.SetLaws.{below_eight}
use Rattle.flt_cert.specs.Reading.{sets_from}
use Rattle.flt_cert.specs.Text.{Text, ◌>>=◌}

-- the byte of a digit has the lowest bits of its number
low_bits : (k : ℕ) → k < 8 → statuses k ≡ statuses (48 + k)
low_bits = below_eight (λ k. statuses k ≡ statuses (48 + k)) refl refl refl refl refl refl refl refl

-- so a digit's byte has its set
digit_bits : (d : ℕ) → 48 < d → d < 56 → statuses (d - 48) ≡ statuses d
digit_bits d low high =
    let same : 48 + (d - 48) ≡ d = omega arith in
    let P : ℕ → Type 0 = λ n. statuses (d - 48) ≡ statuses n in
    subst P same (low_bits (d - 48) (omega arith))

-- a digit from 1 to 7 adds the set of its byte's lowest bits, and no other byte may stand there
digit_adds : (found : List StatusSet) (d : ℕ) (text : Text) → sets_from found (d ∷ text) ≡
    (if nat_lt 48 d && nat_lt d 56 then sets_from (found ++ statuses d ∷ []) text else None)
digit_adds found d text = go (nat_lt 48 d) (nat_lt d 56) refl refl
  where
    go : (low high : Bool) → nat_lt 48 d ≡ low → nat_lt d 56 ≡ high →
        ((if low && high then Some (statuses (d - 48)) else None) >>= λ s. sets_from (found ++ s ∷ []) text)
        ≡ (if low && high then sets_from (found ++ statuses d ∷ []) text else None)
    go true true low high = rw (digit_bits d (ltb-true 48 d low) (ltb-true d 56 high)) refl
    go true false low high = refl
    go false high low e = refl

-- one place further, whatever stands there
set_one_more : (sets : List StatusSet) (digits : Text) (i : ℕ) → i < length sets → i < length digits →
    sets_from (take i sets) (drop i digits) ≡ (if nat_lt 48 (get_or digits i 0) && nat_lt (get_or digits i 0) 56
    then sets_from (take (i + 1) (set sets i (statuses (get_or digits i 0)))) (drop (i + 1) digits) else None)
set_one_more sets digits i here there =
    rw (drop_more digits i 0 there, take_more_set sets i (statuses (get_or digits i 0)) here)
    (digit_adds (take i sets) (get_or digits i 0) (drop (i + 1) digits))

-- what is known of places that are done: each is set by its digit, or some digit is none
pub record Filled (all : Bool) (sets : List StatusSet) (digits : Text) (i : ℕ) : Type 0 where
  pub known : IsTrue all → sets_from (take i sets) (drop i digits) ≡ sets_from [] digits
  pub unknown : IsFalse all → sets_from [] digits ≡ None

-- one place more is done
pub filled_more : (known fits : Bool) (sets : List StatusSet) (digits : Text) (i : ℕ) → i < length sets → i < length digits →
    fits ≡ (nat_lt 48 (get_or digits i 0) && nat_lt (get_or digits i 0) 56) → Filled known sets digits i →
    Filled (known && fits) (set sets i (statuses (get_or digits i 0))) digits (i + 1)
filled_more true true sets digits i here there fits so_far =
    let one = set_one_more sets digits i here there in
    record { known = λ h. sym (rw (← fits) at one) ∙ so_far.known refl; unknown = λ h. cc }
filled_more true false sets digits i here there fits so_far =
    let one = set_one_more sets digits i here there in
    record { known = λ h. cc; unknown = λ h. sym (so_far.known refl) ∙ (rw (← fits) at one) }
filled_more false fits sets digits i here there e so_far = record { known = λ h. cc; unknown = λ h. so_far.unknown refl }
