-- Lines of fixed width spell states that hold no lock.
use Rattle.std.proofs.Common.{◌≡◌, ◌<◌, ◌≤◌, ◌+◌, ◌-◌, ◌∙◌, ℕ, suc, Bool, true, false, List, [], ◌∷◌, ◌++◌}
use Rattle.std.proofs.Common.{length, get_or, take, drop, refl, sym, ap, subst, arith, append_assoc}
use Rattle.std.specs.Prelude.{◌==◌, ◌&&◌, nat_lt, Some, None, IsTrue, IsFalse, IsSome}
use Rattle.std.specs.List.{list_all}
use Rattle.std.proofs.lemmas.Bool.{and_parts, and_from, eqb-true, eq-eqb, ltb-true, ltb-false, lt-ltb, agree_below, agree_below_at}
use Rattle.std.proofs.lemmas.List.{length-take-le, length-drop, length-map, take-append-drop}
use Rattle.std.proofs.lemmas.List.{get_or-take, get_or-drop, drop-drop, drop_more, drop_all}
use Rattle.std.proofs.lemmas.List.Folds.{list_all-append}
use Rattle.flt_abs.specs.Sets.{StatusSet, ModeSet, DrainingSet, statuses, modes, draining, status_bits, mode_bits}
use Rattle.flt_abs.specs.Sets.{draining_bits, is_possible, is_mode_possible, is_draining_possible}
use Rattle.flt_abs.specs.SetLaws.{below_eight, below_four}
use Rattle.flt_abs.specs.State.{state_of, is_proper}
use Rattle.flt_cert.specs.FixedWidth.{least, greatest, Within, InBounds}
use Rattle.flt_cert.specs.Format.{digits, state_text}
use Rattle.flt_cert.specs.Reading.{status_of, sets_from, front_of, modes_of, draining_of}
use Rattle.flt_cert.specs.Text.{Text, decimal, after}
use Rattle.flt_cert.proofs.FieldLaws.{some_inside, chosen, sets_take, modes_take, draining_takes, after_takes, front_takes}

-- ---- bytes that were compared

-- what is known of the places that were compared, of both groups
pub record Compared (within : Bool) (text : Text) (i : ℕ) : Type 0 where
  pub first : IsTrue within → (place : ℕ) → place < i → Within place (get_or text place 0)
  pub second : IsTrue within → (place : ℕ) → place < i → Within (place + 7) (get_or text (place + 7) 0)

one_more : (P : ℕ → Type 0) (i : ℕ) → ((place : ℕ) → place < i → P place) → P i → (place : ℕ) → place < i + 1 → P place
one_more P i others here place low = go (nat_lt place i) refl
  where
    go : (x : Bool) → nat_lt place i ≡ x → P place
    go true e = others place (ltb-true place i e)
    go false e =
        let past = ltb-false place i e in
        let same : i ≡ place = omega arith in
        subst P same here

-- one place more was compared in each group
pub compared_more : (within one two : Bool) (text : Text) (i : ℕ) → (IsTrue one → Within i (get_or text i 0)) →
    (IsTrue two → Within (i + 7) (get_or text (i + 7) 0)) → Compared within text i → Compared (within && (one && two)) text (i + 1)
compared_more true true true text i here there so_far =
    record {
      first = λ h. one_more (λ place. Within place (get_or text place 0)) i (so_far.first refl) (here refl);
      second = λ h. one_more (λ place. Within (place + 7) (get_or text (place + 7) 0)) i (so_far.second refl) (there refl);
    }
compared_more true true false text i here there so_far = record { first = λ h. cc; second = λ h. cc }
compared_more true false two text i here there so_far = record { first = λ h. cc; second = λ h. cc }
compared_more false one two text i here there so_far = record { first = λ h. cc; second = λ h. cc }

-- both groups cover the line
pub all_compared : (within : Bool) (text : Text) (i : ℕ) → 16 ≤ i → Compared within text i → IsTrue within → InBounds text
unfolding InBounds
all_compared within text i all compared h place low = go (nat_lt place i) refl
  where
    go : (x : Bool) → nat_lt place i ≡ x → Within place (get_or text place 0)
    go true e = compared.first h place (ltb-true place i e)
    go false e =
        let past = ltb-false place i e in
        let same : place - 7 + 7 ≡ place = omega arith in
        let P : ℕ → Type 0 = λ n. Within n (get_or text n 0) in
        subst P same (compared.second h (place - 7) (omega arith))

-- ---- digits

-- each is the digit of a set
Digits : Text → Type 0
Digits text = (i : ℕ) → i < length text → (48 < get_or text i 0) × (get_or text i 0 < 56)

set_possible : (n : ℕ) → n < 8 → 0 < n → is_possible (statuses n) ≡ true
set_possible = below_eight (λ n. 0 < n → is_possible (statuses n) ≡ true) (λ h. absurd (omega (arith, h)))
    (λ h. refl) (λ h. refl) (λ h. refl) (λ h. refl) (λ h. refl) (λ h. refl) (λ h. refl)

sets_read : (text : Text) (found : List StatusSet) → Digits text → list_all is_possible found ≡ true → (sets : List StatusSet)
    × (sets_from found text ≡ Some sets) × (list_all is_possible sets ≡ true)
unfolding Digits
sets_read [] found h possible = (found, refl, possible)
sets_read (b ∷ text) found h possible =
    let here = h 0 (omega arith) in
    let low : 48 < b = here.0 in
    let high : b < 56 = here.1 in
    let set : StatusSet = statuses (b - 48) in
    let read : status_of b ≡ Some set = rw (lt-ltb 48 b low, lt-ltb b 56 high) refl in
    let one : is_possible set ≡ true = set_possible (b - 48) (omega arith) (omega arith) in
    let others = sets_read text (found ++ set ∷ []) (λ i less. h (suc i) (omega (arith, less)))
    (list_all-append is_possible found (set ∷ []) ∙ and_from _ _ possible (and_from _ _ one refl)) in
    (others.0, rw read others.1, others.2)

-- what is known of sets that digits spell
record Spelled (sets : List StatusSet) (text : Text) : Type 0 where
  spells : text ≡ digits sets
  possible : list_all is_possible sets ≡ true
  count : length sets ≡ length text

-- the sets that are filled by digits
sets_filled : (known : Bool) (sets : List StatusSet) (text : Text) → Digits text → (IsTrue known → sets_from [] text ≡ Some sets) →
    (IsFalse known → sets_from [] text ≡ None) → Spelled sets text
sets_filled true sets text h found failed =
    let read = sets_read text [] h refl in
    let same : read.0 ≡ sets = some_inside (sym read.1 ∙ found refl) in
    let taken = sets_take text [] sets (found refl) in
    let spelled : text ≡ digits sets = taken.2 ∙ ap digits (sym taken.1) in
    record {
      spells = spelled;
      possible = ap (list_all is_possible) (sym same) ∙ read.2;
      count = sym (ap length spelled ∙ length-map sets (λ s. 48 + status_bits s));
    }
sets_filled false sets text h found failed =
    let read = sets_read text [] h refl in
    let wrong : Some read.0 ≡ None = sym read.1 ∙ failed refl in
    cc

-- ---- modes and draining

mode_possible : (b : ℕ) (some : ModeSet) → modes_of b ≡ Some some → is_mode_possible some ≡ true
mode_possible b some h =
    let both = chosen (nat_lt 48 b && nat_lt b 52) h in
    let range = and_parts (nat_lt 48 b) (nat_lt b 52) both.0 in
    let low = ltb-true 48 b range.0 in
    let high = ltb-true b 52 range.1 in
    let one : is_mode_possible (modes (b - 48)) ≡ true =
    below_four (λ n. 0 < n → is_mode_possible (modes n) ≡ true) (λ h. absurd (omega (arith, h)))
    (λ h. refl) (λ h. refl) (λ h. refl) (b - 48) (omega arith) (omega arith) in
    let P : ModeSet → Type 0 = λ s. is_mode_possible s ≡ true in
    subst P both.1 one

answer_possible : (b : ℕ) (answers : DrainingSet) → draining_of b ≡ Some answers → is_draining_possible answers ≡ true
answer_possible b answers h =
    let both = chosen (nat_lt 48 b && nat_lt b 52) h in
    let range = and_parts (nat_lt 48 b) (nat_lt b 52) both.0 in
    let low = ltb-true 48 b range.0 in
    let high = ltb-true b 52 range.1 in
    let one : is_draining_possible (draining (b - 48)) ≡ true =
    below_four (λ n. 0 < n → is_draining_possible (draining n) ≡ true) (λ h. absurd (omega (arith, h)))
    (λ h. refl) (λ h. refl) (λ h. refl) (b - 48) (omega arith) (omega arith) in
    let P : DrainingSet → Type 0 = λ s. is_draining_possible s ≡ true in
    subst P both.1 one

-- ---- the fields of a line

-- at a place any digit of a set may stand
abbrev is_digit : ℕ → Bool
is_digit place = get_or least place 0 == 49 && get_or greatest place 0 == 55

-- so it is at each place of a field
abbrev are_digits : ℕ → ℕ → Bool
are_digits at n = agree_below (λ i. is_digit (at + i)) (λ i. true) n

field_digits : (text : Text) (at n : ℕ) → at + n ≤ 23 → length text ≡ 23 → are_digits at n ≡ true → InBounds text →
    Digits (take n (drop at text))
unfolding Digits InBounds
field_digits text at n fits long fields bounds i less =
    let left : length (drop at text) ≡ 23 - at = length-drop at text ∙ ap (λ m. m - at) long in
    let count : length (take n (drop at text)) ≡ n = length-take-le n (drop at text) (omega (arith, left)) in
    let low : i < n = rw count at less in
    let both = and_parts (get_or least (at + i) 0 == 49) (get_or greatest (at + i) 0 == 55)
    (agree_below_at (λ i. is_digit (at + i)) (λ i. true) n i fields low) in
    let lowest : get_or least (at + i) 0 ≡ 49 = eqb-true (get_or least (at + i) 0) 49 both.0 in
    let highest : get_or greatest (at + i) 0 ≡ 55 = eqb-true (get_or greatest (at + i) 0) 55 both.1 in
    let here = bounds (at + i) (omega arith) in
    let same : get_or (take n (drop at text)) i 0 ≡ get_or text (at + i) 0 = get_or-take n (drop at text) i 0 low
    ∙ get_or-drop at text i 0 in
    (omega (arith, lowest, here.0, same), omega (arith, highest, here.1, same))

-- a place where one byte alone may stand
only_byte : (text : Text) (at b : ℕ) → at < 23 → length text ≡ 23 → get_or least at 0 ≡ b → get_or greatest at 0 ≡ b → InBounds text →
    drop at text ≡ b ∷ drop (at + 1) text
unfolding InBounds
only_byte text at b low long lowest highest bounds =
    let here = bounds at low in
    let same : get_or text at 0 ≡ b = omega (arith, lowest, highest, here.0, here.1) in
    drop_more text at 0 (omega arith) ∙ ap (λ c. c ∷ drop (at + 1) text) same

-- what stands in a field, and what follows it
field : (text front : Text) (at n : ℕ) → take n (drop at text) ≡ front → drop at text ≡ front ++ drop (at + n) text
field text front at n h = sym (take-append-drop n (drop at text)) ∙ ap (λ z. z ++ drop n (drop at text)) h
    ∙ ap (λ z. front ++ z) (drop-drop n at text)

-- all fields, one behind the other
in_one : (contexts operations : List StatusSet) (some : ModeSet) (answers : DrainingSet)
    (t0 t1 t2 t3 t4 t5 t6 t7 t8 t9 t10 t11 : Text) → t0 ≡ 32 ∷ t1 → t1 ≡ digits contexts ++ t2 → t2 ≡ 32 ∷ t3 →
    t3 ≡ digits operations ++ t4 → t4 ≡ 32 ∷ t5 → t5 ≡ (48 + mode_bits some) ∷ t6 → t6 ≡ 32 ∷ t7 →
    t7 ≡ (48 + draining_bits answers) ∷ t8 → t8 ≡ 32 ∷ t9 → t9 ≡ 45 ∷ t10 → t10 ≡ 10 ∷ t11 → t11 ≡ [] →
    t0 ≡ 32 ∷ (state_text (state_of contexts operations some answers []) ++ 10 ∷ [])
in_one contexts operations some answers t0 t1 t2 t3 t4 t5 t6 t7 t8 t9 t10 t11 a b c d e f g h i j k l =
    rw (a, b, c, d, e, f, g, h, i, j, k, l) (simp append_assoc)

-- the bytes behind a number
module _ (text : Text) (long : length text ≡ 23) (bounds : InBounds text) where
  contexts_digits : Digits (take 9 (drop 1 text))
  contexts_digits = field_digits text 1 9 (omega arith) long refl bounds

  operations_digits : Digits (take 5 (drop 11 text))
  operations_digits = field_digits text 11 5 (omega arith) long refl bounds

  one_to_three : (place : ℕ) → place < 23 → get_or least place 0 ≡ 49 → get_or greatest place 0 ≡ 51 → (48 < get_or text place 0)
      × (get_or text place 0 < 52)
  unfolding InBounds
  one_to_three place low lowest highest =
      let here = bounds place low in
      (omega (arith, lowest, here.0), omega (arith, highest, here.1))

  -- the bytes of the modes and of draining are read
  pub modes_read : IsSome (modes_of (get_or text 17 0))
  modes_read =
      let here = one_to_three 17 (omega arith) refl refl in
      rw (lt-ltb 48 (get_or text 17 0) here.0, lt-ltb (get_or text 17 0) 52 here.1) refl

  -- the digit of draining can be read at its place in the line
  pub draining_read : IsSome (draining_of (get_or text 19 0))
  draining_read =
      let here = one_to_three 19 (omega arith) refl refl in
      rw (lt-ltb 48 (get_or text 19 0) here.0, lt-ltb (get_or text 19 0) 52 here.1) refl

  -- what was read from them
  module _ (known many : Bool) (contexts operations : List StatusSet) (some : ModeSet) (answers : DrainingSet)
      (contexts_known : IsTrue known → sets_from [] (take 9 (drop 1 text)) ≡ Some contexts)
      (contexts_unknown : IsFalse known → sets_from [] (take 9 (drop 1 text)) ≡ None)
      (operations_known : IsTrue many → sets_from [] (take 5 (drop 11 text)) ≡ Some operations)
      (operations_unknown : IsFalse many → sets_from [] (take 5 (drop 11 text)) ≡ None)
      (modes_known : modes_of (get_or text 17 0) ≡ Some some)
      (draining_known : draining_of (get_or text 19 0) ≡ Some answers) where
    contexts_spelled : Spelled contexts (take 9 (drop 1 text))
    contexts_spelled = sets_filled known contexts (take 9 (drop 1 text)) contexts_digits contexts_known contexts_unknown

    operations_spelled : Spelled operations (take 5 (drop 11 text))
    operations_spelled = sets_filled many operations (take 5 (drop 11 text)) operations_digits operations_known operations_unknown

    -- it makes a state
    pub fixed_proper : is_proper (state_of contexts operations some answers []) ≡ true
    fixed_proper =
        let behind_one : length (drop 1 text) ≡ length text - 1 = length-drop 1 text in
        let nine : length contexts ≡ 9 = contexts_spelled.count ∙ length-take-le 9 (drop 1 text) (omega (arith, behind_one, long)) in
        let behind_eleven : length (drop 11 text) ≡ length text - 11 = length-drop 11 text in
        let five : length operations ≡ 5 =
        operations_spelled.count ∙ length-take-le 5 (drop 11 text) (omega (arith, behind_eleven, long)) in
        and_from _ _ (eq-eqb (length contexts) 9 nine) (and_from _ _ (eq-eqb (length operations) 5 five)
        (and_from _ _ contexts_spelled.possible (and_from _ _ operations_spelled.possible
        (and_from _ _ (mode_possible (get_or text 17 0) some modes_known)
        (and_from _ _ (answer_possible (get_or text 19 0) answers draining_known) refl)))))

    -- whose text they are
    pub fixed_spelled : text ≡ 32 ∷ (state_text (state_of contexts operations some answers []) ++ 10 ∷ [])
    fixed_spelled =
        in_one contexts operations some answers text (drop 1 text) (drop 10 text) (drop 11 text) (drop 16 text)
        (drop 17 text) (drop 18 text) (drop 19 text) (drop 20 text) (drop 21 text) (drop 22 text) (drop 23 text)
        (only_byte text 0 32 (omega arith) long refl refl bounds)
        (field text (digits contexts) 1 9 contexts_spelled.spells)
        (only_byte text 10 32 (omega arith) long refl refl bounds)
        (field text (digits operations) 11 5 operations_spelled.spells)
        (only_byte text 16 32 (omega arith) long refl refl bounds)
        (read_byte 17 (48 + mode_bits some) (omega arith) (modes_take (get_or text 17 0) some modes_known))
        (only_byte text 18 32 (omega arith) long refl refl bounds)
        (read_byte 19 (48 + draining_bits answers) (omega arith) (draining_takes (get_or text 19 0) answers draining_known))
        (only_byte text 20 32 (omega arith) long refl refl bounds)
        (only_byte text 21 45 (omega arith) long refl refl bounds)
        (only_byte text 22 10 (omega arith) long refl refl bounds)
        (drop_all 23 text (omega (arith, long)))
      where
        read_byte : (at b : ℕ) → at < 23 → get_or text at 0 ≡ b → drop at text ≡ b ∷ drop (at + 1) text
        read_byte at b low h = drop_more text at 0 (omega (arith, long)) ∙ ap (λ c. c ∷ drop (at + 1) text) h

-- a line with what follows it
pub line_whole : (number : ℕ) (text behind bytes rest spelled : Text) → after (decimal number) text ≡ Some behind →
    front_of 23 behind ≡ Some (bytes, rest) → bytes ≡ 32 ∷ (spelled ++ 10 ∷ []) →
    text ≡ (decimal number ++ 32 ∷ (spelled ++ 10 ∷ [])) ++ rest
line_whole number text behind bytes rest spelled first split h =
    after_takes (decimal number) text behind first
    ∙ ap (λ z. decimal number ++ z) (front_takes 23 behind bytes rest split ∙ ap (λ z. z ++ rest) h)
    ∙ sym (append_assoc (decimal number) (32 ∷ (spelled ++ 10 ∷ [])) rest)
