-- Lists in padded places.
use Rattle.std.proofs.Common.{◌≡◌, ℕ, suc, ◌+◌, ◌-◌, ◌<◌, ◌≤◌, true, List, [], ◌∷◌, ◌++◌, length, take}
use Rattle.std.proofs.Common.{drop, replicate, append_assoc, length-append, refl, sym, ap, ◌∙◌, arith}
use Rattle.std.proofs.Math.Seq.{take-append_seam, set-append_seam}
use Rattle.std.proofs.Math.ListN.{set}
use Rattle.flt_graph.specs.declared.turns.Turn.{Turn}
use Rattle.flt_machine_frames.specs.Padded.{padded, IsPadded}
use Rattle.flt_machine_frames.specs.Turns.{has_first, no_turn, without_first}

-- places that are padded behind a list hold the list
pub holds : (A : Type 0) (places : ℕ) (blank : A) (xs cells : List A) (used : ℕ) → length xs ≤ places → cells ≡ padded places blank xs →
    used ≡ length xs → IsPadded A places blank cells used × (take used cells ≡ xs)
holds A places blank xs cells used most is counts =
    let seen : take used cells ≡ xs = rw (counts, is) (take-append_seam xs (replicate (places - length xs) blank)) in
    (record { within = omega arith; counted = rw seen (sym counts); filled = rw seen (sym is) }, seen)

-- one more behind a list
pub one_after : (A : Type 0) (places : ℕ) (blank x : A) (cells : List A) (used : ℕ) → IsPadded A places blank cells used → used < places →
    IsPadded A places blank (set cells used x) (used + 1) × (take (used + 1) (set cells used x) ≡ take used cells ++ x ∷ [])
one_after A places blank x cells used p less =
    let xs : List A = take used cells in
    let counted : length xs ≡ used = p.counted in
    let room : places - length xs ≡ suc (places - suc (length xs)) = omega arith in
    let long : length (xs ++ x ∷ []) ≡ length xs + 1 = length-append xs (x ∷ []) in
    let left : places - length (xs ++ x ∷ []) ≡ places - suc (length xs) = omega arith in
    let blanks : List A = replicate (places - suc (length xs)) blank in
    let before : cells ≡ xs ++ blank ∷ blanks = sym p.filled ∙ ap (λ (n : ℕ). xs ++ replicate n blank) room in
    let is : set cells used x ≡ padded places blank (xs ++ x ∷ []) =
    ap (λ (l : List A). set l used x) before ∙ ap (λ (n : ℕ). set (xs ++ blank ∷ blanks) n x) (sym counted)
    ∙ set-append_seam xs blank blanks x ∙
    sym (append_assoc xs (x ∷ []) blanks) ∙ ap (λ (n : ℕ). (xs ++ x ∷ []) ++ replicate n blank) (sym left) in
    let most : length (xs ++ x ∷ []) ≤ places = omega arith in
    let counts : used + 1 ≡ length (xs ++ x ∷ []) = omega arith in
    holds A places blank (xs ++ x ∷ []) (set cells used x) (used + 1) most is counts

-- ---- turns

first_more : (t : Turn) (xs : List Turn) → length xs < 4 → t ∷ take 3 (padded 4 no_turn xs) ≡ padded 4 no_turn (t ∷ xs)
first_more t [] h = refl
first_more t (a ∷ []) h = refl
first_more t (a ∷ b ∷ []) h = refl
first_more t (a ∷ b ∷ c ∷ []) h = refl
first_more t (a ∷ b ∷ c ∷ d ∷ xs) h = absurd (omega arith)

first_less : (xs : List Turn) → 0 < length xs → length xs ≤ 4 → without_first (padded 4 no_turn xs) ≡ padded 4 no_turn (drop 1 xs)
first_less [] h most = absurd (omega arith)
first_less (a ∷ []) h most = refl
first_less (a ∷ b ∷ []) h most = refl
first_less (a ∷ b ∷ c ∷ []) h most = refl
first_less (a ∷ b ∷ c ∷ d ∷ []) h most = refl
first_less (a ∷ b ∷ c ∷ d ∷ e ∷ xs) h most = absurd (omega arith)

-- one turn more, in front
pub one_more : (t : Turn) (cells : List Turn) (used : ℕ) → IsPadded Turn 4 no_turn cells used → used < 4 →
    IsPadded Turn 4 no_turn (t ∷ take 3 cells) (used + 1) × (take (used + 1) (t ∷ take 3 cells) ≡ t ∷ take used cells)
one_more t cells used p less =
    let counted : length (take used cells) ≡ used = p.counted in
    let few : length (take used cells) < 4 = omega arith in
    let most : length (t ∷ take used cells) ≤ 4 = omega arith in
    let counts : used + 1 ≡ length (t ∷ take used cells) = omega arith in
    holds Turn 4 no_turn (t ∷ take used cells) (t ∷ take 3 cells) (used + 1) most
    (ap (λ (l : List Turn). t ∷ take 3 l) (sym p.filled) ∙ first_more t (take used cells) few) counts

length_behind : (xs : List Turn) → length (drop 1 xs) ≡ length xs - 1
length_behind [] = refl
length_behind (x ∷ xs) = omega arith

-- one turn less, in front
pub one_less : (cells : List Turn) (used : ℕ) → IsPadded Turn 4 no_turn cells used → 0 < used →
    IsPadded Turn 4 no_turn (without_first cells) (used - 1) × (take (used - 1) (without_first cells) ≡ drop 1 (take used cells))
one_less cells used p some =
    let counted : length (take used cells) ≡ used = p.counted in
    let within : used ≤ 4 = p.within in
    let behind = length_behind (take used cells) in
    let one : 0 < length (take used cells) = omega arith in
    let four : length (take used cells) ≤ 4 = omega arith in
    let most : length (drop 1 (take used cells)) ≤ 4 = omega arith in
    let counts : used - 1 ≡ length (drop 1 (take used cells)) = omega arith in
    holds Turn 4 no_turn (drop 1 (take used cells)) (without_first cells) (used - 1) most
    (ap (λ (l : List Turn). without_first l) (sym p.filled) ∙ first_less (take used cells) one four) counts

-- where the first of some turns is of a point, a place is in use
pub some_are_used : (point : ℕ) (cells : List Turn) (used : ℕ) → IsPadded Turn 4 no_turn cells used →
    has_first point (take used cells) ≡ true → 0 < used
some_are_used point cells used p is = by (take used cells) p.counted is
  where
    by : (xs : List Turn) → length xs ≡ used → has_first point xs ≡ true → 0 < used
    by [] counted is = absurd (cc)
    by (x ∷ xs) counted is = omega arith
