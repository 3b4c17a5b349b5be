-- A word that is shorter than some names is none of them.
use Rattle.std.proofs.Common.{◌≡◌, ℕ, ◌+◌, ◌<◌, Bool, true, false, List, [], ◌∷◌, ap, arith, length, refl}
use Rattle.std.proofs.lemmas.Bool.{ltb-true}
use Rattle.std.proofs.lemmas.Slice.Eq.{bytes_eq-Decides}
use Rattle.std.specs.Prelude.{◌&&◌, nat_lt, None}
use Rattle.std.specs.Str.{bytes_eq}
use Rattle.flt_c_drift.proofs.GoingOn.{both}
use Rattle.flt_c_drift.specs.Names.{call_of, calls, lock_call_of, lock_calls, place_from}

-- each of some names is longer than this
abbrev are_longer : ℕ → List (List ℕ) → Bool
are_longer n [] = true
are_longer n (name ∷ names) = nat_lt n (length name) && are_longer n names

is_other : (n : ℕ) (name word : List ℕ) → nat_lt n (length name) ≡ true → length word < n + 1 → (x : Bool) → bytes_eq name word ≡ x →
    x ≡ false
is_other n name word long short true e =
    let same = ap length ((bytes_eq-Decides name word).0 e) in
    let more = ltb-true n (length name) long in
    absurd (omega (arith, same, more, short))
is_other n name word long short false e = refl

has_no_place : (n at : ℕ) (names : List (List ℕ)) (word : List ℕ) → are_longer n names ≡ true → length word < n + 1 →
    None ≡ place_from at names word
has_no_place n at [] word long short = refl
has_no_place n at (name ∷ names) word long short =
    let parts = both (nat_lt n (length name)) (are_longer n names) long in
    rw (is_other n name word parts.0 short (bytes_eq name word) refl) (has_no_place n (at + 1) names word parts.1 short)

pub short_call : (word : List ℕ) → length word < 15 → None ≡ call_of word
unfolding call_of calls
short_call word short = has_no_place 14 0 calls word refl short

pub short_lock_call : (word : List ℕ) → length word < 17 → None ≡ lock_call_of word
unfolding lock_call_of lock_calls
short_lock_call word short = has_no_place 16 0 lock_calls word refl short
