-- What spells a thin certificate is read.
use Rattle.std.proofs.Common.{◌≡◌, ◌<◌, ◌≤◌, ◌+◌, ◌-◌, ℕ, zero, suc, true, false, List, [], ◌∷◌, ◌++◌, length}
use Rattle.std.proofs.Common.{refl, sym, ap, arith, ◌∙◌, append_assoc, append-nil, length-append}
use Rattle.std.specs.Prelude.{nat_lt, Ok, Some, None, codes}
use Rattle.std.specs.List.{list_all}
use Rattle.std.specs.Str.{bytes_eq}
use Rattle.std.proofs.lemmas.Bool.{and_parts, and_right, lt-ltb, ltb-true}
use Rattle.flt_cert.specs.Text.{Text, lines_of}
use Rattle.flt_cert.specs.Format.{Point, is_point, point_line, callback_line, last_line}
use Rattle.flt_cert.specs.Reading.{Place, line, closed, start}
use Rattle.flt_cert.specs.Thin.{Slot, Thin, is_slot, is_thin_callback, is_thin}
use Rattle.flt_cert.specs.ThinFormat.{slot_lines, one_thin_callback, thin_callback_lines, first_thin_line, thin_lines_for, thin_spelling}
use Rattle.flt_cert.specs.ThinReading.{number_at, given_at, nothing_given, padded, with_given, slots_from, slots, thin_callback}
use Rattle.flt_cert.specs.ThinReading.{is_thin_end, thin_callbacks_from, thin_callbacks, first_thin, thin_certificate}
use Rattle.flt_cert.proofs.Complete.{AllEnded, ended_front, no_lines, begins_with, both_ended}
use Rattle.flt_cert.proofs.Complete.{lines_joined, point_ended, callback_ended, point_read}
use Rattle.flt_cert.proofs.FieldLaws.{head_again}
use Rattle.flt_cert.proofs.GivenLaws.{given_again, none_given}

-- ---- lines

slots_ended : (p : ℕ) (slots : List Slot) → AllEnded (slot_lines p slots)
slots_ended p [] = no_lines
slots_ended p (Some point ∷ slots) = begins_with (point_ended p point) (slots_ended (suc p) slots)
slots_ended p (None ∷ slots) = slots_ended (suc p) slots

callbacks_ended : (k : ℕ) (t : Thin) → AllEnded (thin_callback_lines k t)
callbacks_ended k [] = no_lines
callbacks_ended k (slots ∷ t) =
    both_ended (one_thin_callback k slots) (thin_callback_lines (suc k) t)
    (begins_with (callback_ended k (length slots)) (slots_ended 0 slots)) (callbacks_ended (suc k) t)

-- the lines of a spelling
pub lines_spelled : (t : Thin) → lines_of (thin_spelling t) ≡ thin_lines_for t
lines_spelled t =
    lines_joined (thin_lines_for t) (begins_with (ended_front (codes "fltcert 2") refl)
    (both_ended (thin_callback_lines 0 t) (last_line ∷ []) (callbacks_ended 0 t) (begins_with (ended_front (codes "end") refl) no_lines)))

-- ---- reading them

nothing_more : (n : ℕ) (more : List Slot) → nothing_given (suc n) ++ more ≡ nothing_given n ++ None ∷ more
nothing_more zero more = refl
nothing_more (suc n) more = ap (λ (z : List Slot). None ∷ z) (nothing_more n more)

-- a line that gives no point ends the slots
slots_end : (left count : ℕ) (found : List Slot) (text : Text) (n : ℕ) (lines : List Text) → given_at (length found) count text ≡ None →
    slots_from left count found (record { number = n; lines = text ∷ lines }) ≡
    Ok ((padded count found, text), record { number = n + 1; lines = lines })
unfolding line
slots_end zero count found text n lines h = refl
slots_end (suc left) count found text n lines h = rw h refl

-- one that gives a point is followed by the others
slots_step : (left count : ℕ) (found : List Slot) (text : Text) (p : ℕ) (x : Point) (n : ℕ) (lines : List Text) →
    given_at (length found) count text ≡ Some (p, x) →
    slots_from (suc left) count found (record { number = n; lines = text ∷ lines }) ≡
    slots_from left count (with_given p x found) (record { number = n + 1; lines = lines })
unfolding line
slots_step left count found text p x n lines h = rw h refl

-- some that were found, then a gap, then more
slots_read : (more : List Slot) (left gap count : ℕ) (found : List Slot) (text : Text) (n : ℕ) (lines : List Text) →
    length found + gap + length more ≡ count → length more ≤ left → 0 < length found → count < 514 → number_at text ≡ 0 →
    list_all is_slot more ≡ true →
    (m : ℕ) × (slots_from left count found (record { number = n; lines = slot_lines (length found + gap) more ++ text ∷ lines }) ≡
    Ok ((found ++ (nothing_given gap ++ more), text), record { number = m; lines = lines }))
slots_read [] left gap count found text n lines size few some most bare good =
    let none = none_given (length found) count text some bare in
    let rest : count - length found ≡ gap = omega arith in (
      n + 1,
      slots_end left count found text n lines none
          ∙ ap (λ (z : List Slot). Ok ((found ++ z, text), record { number = n + 1; lines = lines }))
          (ap nothing_given rest ∙ sym (append-nil (nothing_given gap))),
    )
slots_read (None ∷ more) left gap count found text n lines size few some most bare good =
    let rest = slots_read more left (suc gap) count found text n lines (omega arith) (omega arith) some most bare good in
    let shifted : suc (length found + gap) ≡ length found + suc gap = omega arith in (
      rest.0,
      ap (λ m. slots_from left count found (record { number = n; lines = slot_lines m more ++ text ∷ lines })) shifted
          ∙ (rest.1 ∙ ap (λ (z : List Slot). Ok ((found ++ z, text), record { number = rest.0; lines = lines })) (nothing_more gap more)),
    )
slots_read (Some x ∷ more) zero gap count found text n lines size few some most bare good = absurd (omega arith)
slots_read (Some x ∷ more) (suc left) gap count found text n lines size few some most bare good =
    let p = length found + gap in
    let parts = and_parts (is_slot (Some x)) (list_all is_slot more) good in
    let given = given_again (length found) count p x parts.0 (omega arith) (omega arith) most in
    let wide : p - length found ≡ gap = omega arith in
    let more_found : List Slot = with_given p x found in
    let same : more_found ≡ (found ++ nothing_given gap) ++ Some x ∷ [] =
    ap (λ m. (found ++ nothing_given m) ++ Some x ∷ []) wide in
    let len : length more_found ≡ p + 1 = length_found p x found (omega arith) in
    let rest = slots_read more left 0 count more_found text (n + 1) lines (omega arith) (omega arith) (omega arith) most bare parts.1 in
    let shifted : suc p ≡ length more_found + 0 = omega arith in
    let joined : more_found ++ more ≡ found ++ (nothing_given gap ++ Some x ∷ more) =
    ap (λ (z : List Slot). z ++ more) same ∙ (append_assoc (found ++ nothing_given gap) (Some x ∷ []) more
    ∙ append_assoc found (nothing_given gap) (Some x ∷ more)) in (
      rest.0,
      slots_step left count found (point_line p x) p x n (slot_lines (suc p) more ++ text ∷ lines) given
          ∙ (ap (λ m. slots_from left count more_found (record { number = n + 1; lines = slot_lines m more ++ text ∷ lines })) shifted
          ∙ (rest.1 ∙ ap (λ (z : List Slot). Ok ((z, text), record { number = rest.0; lines = lines })) joined)),
    )
  where
    length_nothing : (n : ℕ) → length (nothing_given n) ≡ n
    length_nothing zero = refl
    length_nothing (suc n) = ap (λ m. suc m) (length_nothing n)

    length_found : (p : ℕ) (x : Point) (found : List Slot) → length found ≤ p → length (with_given p x found) ≡ p + 1
    length_found p x found h =
        let all = length-append (padded p found) (Some x ∷ []) in
        let front = length-append found (nothing_given (p - length found)) in
        let rest = length_nothing (p - length found) in
        omega arith

callback_read : (k : ℕ) (s : List Slot) (text : Text) (n : ℕ) (lines : List Text) → is_thin_callback s ≡ true → number_at text ≡ 0 →
    (m : ℕ) × (thin_callback k (callback_line k (length s)) (record { number = n; lines = slot_lines 0 s ++ text ∷ lines }) ≡
    Ok ((s, text), record { number = m; lines = lines }))
unfolding thin_callback slots
callback_read k [] text n lines h bare = cc
callback_read k (None ∷ s) text n lines h bare = cc
callback_read k (Some x ∷ s) text n lines h bare =
    let few = and_parts (nat_lt (length (Some x ∷ s)) 513) (list_all is_slot (Some x ∷ s)) h in
    let most : length (Some x ∷ s) < 513 = ltb-true (length (Some x ∷ s)) 513 few.0 in
    let good = and_parts (is_point x) (list_all is_slot s) few.1 in
    let count = length (Some x ∷ s) in
    let first = point_read 0 x n (slot_lines 1 s ++ text ∷ lines) good.0 in
    let rest = slots_read s count 0 count (Some x ∷ []) text (n + 1) lines (omega arith) (omega arith) (omega arith) (omega arith) bare
    good.1 in
    (rest.0, rw (head_again k (length (Some x ∷ s)) (omega arith) most, first) rest.1)

not_end : (t : Thin) (k n : ℕ) → is_thin_end t (callback_line k n) ≡ false
not_end t k n = and_right (nat_lt 0 (length t)) _ (let other : bytes_eq (callback_line k n) last_line ≡ false = refl in other)

-- the first line of what is left
first_of : ℕ → Thin → Text
first_of k [] = last_line
first_of k (s ∷ t) = callback_line k (length s)

-- the lines after it
after_first : ℕ → Thin → List Text
after_first k [] = []
after_first k (s ∷ t) = slot_lines 0 s ++ (thin_callback_lines (suc k) t ++ last_line ∷ [])

lines_are : (k : ℕ) (t : Thin) → thin_callback_lines k t ++ last_line ∷ [] ≡ first_of k t ∷ after_first k t
unfolding first_of after_first
lines_are k [] = refl
lines_are k (s ∷ t) = append_assoc (one_thin_callback k s) (thin_callback_lines (suc k) t) (last_line ∷ [])

no_number : (k : ℕ) (t : Thin) → number_at (first_of k t) ≡ 0
unfolding first_of
no_number k [] = refl
no_number k (s ∷ t) = refl

callbacks_read : (more : Thin) (left : ℕ) (found : Thin) (n : ℕ) → length more ≤ left → 0 < length found + length more →
    list_all is_thin_callback more ≡ true →
    (m : ℕ) × (thin_callbacks_from left found (first_of (length found) more)
    (record { number = n; lines = after_first (length found) more }) ≡ Ok (found ++ more, record { number = m; lines = [] }))
unfolding thin_callbacks_from closed first_of after_first
callbacks_read [] zero found n h some each =
    (n, rw (lt-ltb 0 (length found) (omega arith)) (ap (λ z. Ok (z, record { number = n; lines = [] })) (sym (append-nil found))))
callbacks_read [] (suc left) found n h some each =
    (n, rw (lt-ltb 0 (length found) (omega arith)) (ap (λ z. Ok (z, record { number = n; lines = [] })) (sym (append-nil found))))
callbacks_read (s ∷ more) zero found n h some each = absurd (omega arith)
callbacks_read (s ∷ more) (suc left) found n h some each =
    let k = length found in
    let parts = and_parts (is_thin_callback s) (list_all is_thin_callback more) each in
    let len : length (found ++ s ∷ []) ≡ suc k = length-append found (s ∷ [])
    ∙ (let e : length found + 1 ≡ suc (length found) = omega arith in e) in
    let read = callback_read k s (first_of (suc k) more) n (after_first (suc k) more) parts.0 (no_number (suc k) more) in
    let rest = callbacks_read more left (found ++ s ∷ []) read.0 (omega arith) (omega arith) parts.1 in
    let step : thin_callbacks_from (suc left) found (callback_line k (length s))
    (record { number = n; lines = slot_lines 0 s ++ first_of (suc k) more ∷ after_first (suc k) more })
    ≡ thin_callbacks_from left (found ++ s ∷ []) (first_of (suc k) more) (record { number = read.0; lines = after_first (suc k) more }) =
    rw (not_end found k (length s), read.1) refl in (
      rest.0,
      ap (λ z. thin_callbacks_from (suc left) found (callback_line k (length s)) (record { number = n; lines = slot_lines 0 s ++ z }))
          (lines_are (suc k) more)
          ∙ (step ∙ (ap (λ m. thin_callbacks_from left (found ++ s ∷ []) (first_of m more)
          (record { number = read.0; lines = after_first m more })) (sym len)
          ∙ (rest.1 ∙ ap (λ z. Ok (z, record { number = rest.0; lines = [] })) (append_assoc found (s ∷ []) more)))),
    )

-- what is spelled so is read
pub lines_read : (text : Text) (t : Thin) → is_thin t ≡ true → lines_of text ≡ thin_lines_for t → (o : Place)
    × (thin_certificate (start text) ≡ Ok (t, o))
unfolding thin_certificate first_thin thin_callbacks line
lines_read text t h lines =
    let some = and_parts (nat_lt 0 (length t)) _ h in
    let few = and_parts (nat_lt (length t) 17) _ some.1 in
    let most : length t < 17 = ltb-true (length t) 17 few.0 in
    let one : 0 < length t = ltb-true 0 (length t) some.0 in
    let rest = callbacks_read t 16 [] 2 (omega arith) (omega arith) few.1 in
    let all : lines_of text ≡ first_thin_line ∷ (first_of 0 t ∷ after_first 0 t) = lines
    ∙ ap (λ z. first_thin_line ∷ z) (lines_are 0 t) in
    (record { number = rest.0; lines = [] }, ap (λ z. thin_certificate (record { number = 0; lines = z })) all ∙ rest.1)
