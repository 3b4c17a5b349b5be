-- The counts of unsettled visits, as visits come and are settled.
use Rattle.std.proofs.Common.{◌≡◌, ◌≤◌, ◌<◌, ◌+◌, ◌-◌, ℕ, zero, suc, Bool, true, false, not, ◌&&◌, ◌||◌, ◌==◌, if◌then◌else◌, List}
use Rattle.std.proofs.Common.{[], ◌∷◌, ◌++◌, length, get_or, set, inl, inr, ⊎_elim, refl, sym, ap, ◌∙◌, arith, length-append}
use Rattle.std.proofs.lemmas.Bool.{cases_eq, cases_lt}
use Rattle.std.proofs.lemmas.Bool.Decides.{nat_tests}
use Rattle.std.proofs.lemmas.List.{get_or_default, get_or_past, get_or-set_same, get_or-set_other, length-set, set-get_or}
use Rattle.flt_model.specs.Moves.{are_settled}
use Rattle.flt_model.specs.World.{Visit, no_visit}
use Rattle.flt_ops.specs.Unsettled.{counted, count_unsettled, AreCounted}

-- a new visit counts once
pub count_pushed : (o : ℕ) (visits : List Visit) (settled : List Bool) (x : Visit) → length settled ≡ length visits →
    count_unsettled o (visits ++ x ∷ []) (settled ++ false ∷ []) ≡ count_unsettled o visits settled + counted o x false
count_pushed o [] [] x same = omega arith
count_pushed o [] (b ∷ settled) x same = absurd (omega arith)
count_pushed o (y ∷ visits) [] x same = absurd (omega arith)
count_pushed o (y ∷ visits) (b ∷ settled) x same =
    let more = count_pushed o visits settled x (omega arith) in omega arith

-- a visit that is settled counts no more
pub count_less : (o : ℕ) (visits : List Visit) (settled : List Bool) (v : ℕ) → length settled ≡ length visits →
    v < length visits → get_or settled v true ≡ false →
    count_unsettled o visits (set settled v true) + counted o (get_or visits v no_visit) false ≡ count_unsettled o visits settled
count_less o [] settled v same here open_ = absurd (omega arith)
count_less o (y ∷ visits) [] v same here open_ = absurd (omega arith)
count_less o (y ∷ visits) (b ∷ settled) zero same here open_ =
    let e : counted o y b ≡ counted o y false = ap (counted o y) open_ in omega arith
count_less o (y ∷ visits) (b ∷ settled) (suc v) same here open_ =
    let less = count_less o visits settled v (omega arith) (omega arith) open_ in omega arith

step : (b this : Bool) (n : ℕ) (rest : Bool) → (n == 0) ≡ rest → (((if b || not this then 0 else 1) + n) == 0) ≡ ((b || not this) && rest)
step true this n rest h = grind (arith, nat_tests)
step false true n rest h = grind (arith, nat_tests)
step false false n rest h = grind (arith, nat_tests)

-- none is counted exactly where all are settled
pub none_counted : (o : ℕ) (visits : List Visit) (settled : List Bool) →
    (count_unsettled o visits settled == 0) ≡ are_settled o visits settled
none_counted o [] settled = refl
none_counted o (y ∷ visits) [] = refl
none_counted o (y ∷ visits) (b ∷ settled) =
    step b (y.operation == o) (count_unsettled o visits settled) (are_settled o visits settled) (none_counted o visits settled)

at_most_one : (b : Bool) → (if b then 0 else 1) ≤ 1
at_most_one true = omega arith
at_most_one false = omega arith

-- no more are counted than there are
pub count_within : (o : ℕ) (visits : List Visit) (settled : List Bool) → count_unsettled o visits settled ≤ length visits
count_within o [] settled = omega arith
count_within o (y ∷ visits) [] = omega arith
count_within o (y ∷ visits) (b ∷ settled) =
    let one = at_most_one (b || not (y.operation == o)) in
    let rest = count_within o visits settled in
    omega arith

-- an unsettled visit counts once at its operation
pub of_itself : (o : ℕ) (x : Visit) → x.operation ≡ o → counted o x false ≡ 1
of_itself o x e =
    let t : (x.operation == o) ≡ true = grind (arith, nat_tests) in
    ap (λ (b : Bool). if not b then 0 else 1) t

-- and not at another
pub of_another : (o : ℕ) (x : Visit) → (x.operation ≡ o → ⊥) → counted o x false ≡ 0
of_another o x d =
    let t : (x.operation == o) ≡ false = grind (arith, nat_tests) in
    ap (λ (b : Bool). if not b then 0 else 1) t

-- ---- where one visit more is settled

-- the last unsettled visit of an operation: none is counted after it
pub last_counted : (o : ℕ) (visits : List Visit) (settled : List Bool) (v : ℕ) →
    length settled ≡ length visits → get_or settled v true ≡ false →
    (get_or visits v no_visit).operation ≡ o → (count_unsettled o visits settled == 1) ≡ are_settled o visits (set settled v true)
last_counted o visits settled v same unsettled of = elim (cases_lt v (length settled)) [
  | inl here ↦
      let less = count_less o visits settled v same (omega (arith, here, same)) unsettled in
      let one = of_itself o (get_or visits v no_visit) of in
      let none = none_counted o visits (set settled v true) in
      let fewer : (count_unsettled o visits settled == 1) ≡ (count_unsettled o visits (set settled v true) == 0) =
      grind (arith, nat_tests) in
      fewer ∙ none
  | inr past ↦ absurd (let none = get_or_past settled v true past in cc)
]

-- a visit that is settled already, or is another operation's, counts for none
pub others_counted : (o : ℕ) (visits : List Visit) (settled : List Bool) (v : ℕ) → length settled ≡ length visits →
    (get_or settled v true ≡ false → (get_or visits v no_visit).operation ≡ o → ⊥) →
    (count_unsettled o visits settled == 0) ≡ are_settled o visits (set settled v true)
others_counted o visits settled v same apart = ap (λ (n : ℕ). n == 0) (sym alike) ∙ none_counted o visits (set settled v true)
  where
    by : (b : Bool) → get_or settled v true ≡ b → count_unsettled o visits (set settled v true) ≡ count_unsettled o visits settled
    by true is = ap (count_unsettled o visits) (ap (set settled v) (sym is) ∙ set-get_or settled v true)
    by false is = elim (cases_lt v (length settled)) [
      | inl here ↦
          let less = count_less o visits settled v same (omega (arith, here, same)) is in
          let none = of_another o (get_or visits v no_visit) (apart is) in omega arith
      | inr past ↦ absurd (let none = get_or_past settled v true past in cc)
    ]

    alike : count_unsettled o visits (set settled v true) ≡ count_unsettled o visits settled
    alike = by (get_or settled v true) refl

-- so does one that isn't there
pub past_counted : (o : ℕ) (visits : List Visit) (settled : List Bool) (v : ℕ) → length settled ≡ length visits → length visits ≤ v →
    (count_unsettled o visits settled == 0) ≡ are_settled o visits (set settled v true)
past_counted o visits settled v same past =
    others_counted o visits settled v same (λ unsettled of. let none = get_or_past settled v true (omega (arith, past, same)) in
    absurd (cc))

-- ---- the counts that are kept

set_here : (counts : List ℕ) (p u w : ℕ) → p ≡ u → p < length counts → get_or (set counts p w) u 0 ≡ w
set_here counts p u w e l = rw (sym e) (get_or-set_same counts p w 0 l)

-- a new visit counts at its operation
pub counted_more : (visits : List Visit) (settled : List Bool) (counts : List ℕ) (x : Visit) → AreCounted visits settled counts →
    x.operation < length counts → AreCounted (visits ++ x ∷ []) (settled ++ false ∷ [])
    (set counts x.operation (get_or counts x.operation 0 + 1))
counted_more visits settled counts x was here = record {
  same = let same = was.same in let l = length-append visits (x ∷ []) in let k = length-append settled (false ∷ []) in omega arith;
  each = λ o.
      let more = count_pushed o visits settled x was.same in
      let old = was.each o in
      let n = get_or counts x.operation 0 + 1 in
      elim (cases_eq x.operation o) [
        | inl e ↦ let one = of_itself o x e in let new = set_here counts x.operation o n e here in let alike =
            ap (λ (k : ℕ). get_or counts k 0) e in omega arith
        | inr d ↦ let none = of_another o x d in let new = get_or-set_other counts x.operation o n 0 (λ e. d (sym e)) in omega arith
      ];
}

open_counts : (visits : List Visit) (settled : List Bool) (v : ℕ) → length settled ≡ length visits → v < length visits →
    get_or settled v true ≡ false → 1 ≤ count_unsettled (get_or visits v no_visit).operation visits settled
open_counts visits settled v same here unsettled =
    let o = (get_or visits v no_visit).operation in
    let less = count_less o visits settled v same here unsettled in
    let one = of_itself o (get_or visits v no_visit) refl in
    omega arith

-- an unsettled visit's operation is counted
pub counted_there : (visits : List Visit) (settled : List Bool) (counts : List ℕ) (v : ℕ) → AreCounted visits settled counts →
    v < length visits → get_or settled v true ≡ false → ((get_or visits v no_visit).operation < length counts)
    × (1 ≤ get_or counts (get_or visits v no_visit).operation 0)
counted_there visits settled counts v was here unsettled =
    let o = (get_or visits v no_visit).operation in
    let some = open_counts visits settled v was.same here unsettled in
    let old = was.each o in
    let one : 1 ≤ get_or counts o 0 = omega arith in
    (⊎_elim (λ l. l) (λ l. absurd (let e = get_or_past counts o 0 l in omega arith)) (cases_lt o (length counts)), one)

-- a visit that is settled counts no more at its operation
pub counted_less : (visits : List Visit) (settled : List Bool) (counts : List ℕ) (v : ℕ) → AreCounted visits settled counts →
    v < length visits → get_or settled v true ≡ false →
    AreCounted visits (set settled v true)
    (set counts (get_or visits v no_visit).operation (get_or counts (get_or visits v no_visit).operation 0 - 1))
counted_less visits settled counts v was here unsettled = record {
  same = length-set settled v true ∙ was.same;
  each = λ u.
      let less = count_less u visits settled v was.same here unsettled in
      let old = was.each u in
      let x = get_or visits v no_visit in
      let n = get_or counts x.operation 0 - 1 in
      let there = counted_there visits settled counts v was here unsettled in
      elim (cases_eq x.operation u) [
        | inl e ↦ let one = of_itself u x e in let new = set_here counts x.operation u n e there.0 in let alike =
            ap (λ (k : ℕ). get_or counts k 0) e in omega arith
        | inr d ↦ let none = of_another u x d in let new = get_or-set_other counts x.operation u n 0 (λ e. d (sym e)) in omega arith
      ];
}

-- ---- the same of what is read of them

module _ (visits : List Visit) (settled : List Bool) (counts : List ℕ) (v o : ℕ) (b : Bool)
    (was : AreCounted visits settled counts) (here : v < length visits) (of : o ≡ (get_or visits v no_visit).operation)
    (read : b ≡ get_or settled v b) (unsettled : b ≡ false) where
  is_unsettled : get_or settled v true ≡ false
  is_unsettled = let same = was.same in get_or_default settled v true b (omega arith) ∙ sym read ∙ unsettled

  -- the operation of an unsettled visit has a count
  pub read_there : o < length counts
  read_there = rw of (counted_there visits settled counts v was here is_unsettled).0

  -- the count isn't 0
  pub read_some : (n : ℕ) → n ≡ get_or counts o n → 1 ≤ n
  read_some n count =
      let there = read_there in
      let one = (counted_there visits settled counts v was here is_unsettled).1 in
      let alike = ap (λ (k : ℕ). get_or counts k 0) of in
      let zero_too = get_or_default counts o n 0 there in
      omega arith

  -- the counts after the visit is settled
  pub read_less : (n : ℕ) → n ≡ get_or counts o n → AreCounted visits (set settled v true) (set counts o (n - 1))
  read_less n count =
      let zero_too : n ≡ get_or counts o 0 = count ∙ get_or_default counts o n 0 read_there in
      rw (zero_too, of) (counted_less visits settled counts v was here is_unsettled)
