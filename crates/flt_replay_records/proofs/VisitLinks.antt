-- What the indices of visits say where one comes or is settled, and how the visits of an operation are gone through.
use Rattle.std.proofs.Common.{◌≡◌, ◌≤◌, ◌<◌, ℕ, zero, suc, ◌+◌, Bool, true, false, not, ◌&&◌, ◌||◌, ◌==◌, if◌then◌else◌}
use Rattle.std.proofs.Common.{nat_lt, nat_eq, List, [], ◌∷◌, ◌++◌, Option, Some, None, length, get_or, set, ◌⊎◌}
use Rattle.std.proofs.Common.{inl, inr, ⊎_elim, refl, sym, ap, subst, ◌∙◌, arith, length-append}
use Rattle.std.proofs.lemmas.Bool.{cases_order, cases_lt, and_parts, eqb-true, ltb-true}
use Rattle.std.proofs.lemmas.Bool.Decides.{nat_tests}
use Rattle.std.proofs.lemmas.List.{get_or_append_left, get_or_push, length-set}
use Rattle.std.proofs.lemmas.List.Folds.{list_any-append}
use Rattle.std.specs.List.{list_any}
use Rattle.std.specs.Option.{IfSome}
use Rattle.flt_model.specs.Moves.{are_settled}
use Rattle.flt_model.specs.Trace.{one_if}
use Rattle.flt_model.specs.World.{Visit, no_visit}
use Rattle.flt_replay_records.specs.Counts.{count}
use Rattle.flt_replay_records.specs.Unsettled.{is_visit_of, unsettled_of, IsLatest, end_of, AreVisits}

-- ---- whether all are settled

all_or_some : (b this : Bool) (n : ℕ) (rest : Bool) → (n == 0) ≡ rest →
    ((if b || not this then 0 else 1) + n == 0) ≡ ((b || not this) && rest)
all_or_some true this n rest h = let e : 0 + n ≡ n = omega arith in ap (λ (m : ℕ). m == 0) e ∙ h
all_or_some false true n rest h = grind (arith, nat_tests)
all_or_some false false n rest h = let e : 0 + n ≡ n = omega arith in ap (λ (m : ℕ). m == 0) e ∙ h

-- none is counted exactly where all are settled
pub none_unsettled : (o : ℕ) (visits : List Visit) (settled : List Bool) →
    (unsettled_of o visits settled == 0) ≡ are_settled o visits settled
none_unsettled o [] settled = refl
none_unsettled o (x ∷ visits) [] = refl
none_unsettled o (x ∷ visits) (b ∷ settled) =
    all_or_some b (x.operation == o) (unsettled_of o visits settled) (are_settled o visits settled) (none_unsettled o visits settled)

-- ---- how many aren't settled

one_more : (p o : ℕ) (this : Bool) → (p == o) ≡ this → (if not this then 0 else 1) ≡ one_if p o
unfolding one_if
one_more p o true e = rw e refl
one_more p o false e = rw e refl

unsettled_push : (o : ℕ) (visits : List Visit) (settled : List Bool) (x : Visit) → length settled ≡ length visits →
    unsettled_of o (visits ++ x ∷ []) (settled ++ false ∷ []) ≡ unsettled_of o visits settled + one_if x.operation o
unsettled_push o [] [] x h = let one = one_more x.operation o (x.operation == o) refl in omega arith
unsettled_push o [] (b ∷ settled) x h = absurd (omega arith)
unsettled_push o (y ∷ visits) [] x h = absurd (omega arith)
unsettled_push o (y ∷ visits) (b ∷ settled) x h = let rest = unsettled_push o visits settled x (omega arith) in omega arith

-- a visit that isn't settled is counted no more once it is
unsettled_set : (o : ℕ) (visits : List Visit) (settled : List Bool) (v : ℕ) → v < length visits → v < length settled →
    get_or settled v true ≡ false → unsettled_of o visits settled
    ≡ unsettled_of o visits (set settled v true) + one_if (get_or visits v no_visit).operation o
unsettled_set o [] settled v l k h = absurd (omega arith)
unsettled_set o (x ∷ visits) [] v l k h = absurd (omega arith)
unsettled_set o (x ∷ visits) (b ∷ settled) zero l k h =
    let one = one_more x.operation o (x.operation == o) refl in rw h (omega arith)
unsettled_set o (x ∷ visits) (b ∷ settled) (suc v) l k h =
    let rest = unsettled_set o visits settled v (omega arith) (omega arith) h in omega arith

-- such a visit counts
pub counted_unsettled : (visits : List Visit) (settled : List Bool) (v : ℕ) → v < length visits → v < length settled →
    get_or settled v true ≡ false → 0 < unsettled_of (get_or visits v no_visit).operation visits settled
unfolding one_if
counted_unsettled visits settled v l k h =
    let o = (get_or visits v no_visit).operation in
    let less = unsettled_set o visits settled v l k h in
    let one : one_if o o ≡ 1 = grind (arith, nat_tests) in
    omega arith

-- ---- a visit more

visit_before : (o : ℕ) (visits : List Visit) (x : Visit) (v : ℕ) → v < length visits →
    is_visit_of o (visits ++ x ∷ []) v ≡ is_visit_of o visits v
visit_before o visits x v h =
    let e = get_or_append_left visits (x ∷ []) no_visit v h in
    let l = length-append visits (x ∷ []) in
    rw e (grind (arith, nat_tests))

visit_here : (o : ℕ) (visits : List Visit) (x : Visit) → is_visit_of o (visits ++ x ∷ []) (length visits) ≡ (x.operation == o)
visit_here o visits x =
    let e = get_or_push visits x no_visit (length visits) refl in
    let l = length-append visits (x ∷ []) in
    rw e (grind (arith, nat_tests))

-- what is the last visit below a number stays so
pub latest_stays : (visits : List Visit) (x : Visit) (o bound : ℕ) (r : Option ℕ) → bound ≤ length visits → IsLatest visits o bound r →
    IsLatest (visits ++ x ∷ []) o bound r
latest_stays visits x o bound None l h = λ u less. visit_before o visits x u (omega arith) ∙ h u less
latest_stays visits x o bound (Some v) within h =
    let l = h.0 in (
      l,
      (visit_before o visits x v (omega arith) ∙ h.1.0, λ u more less. visit_before o visits x u (omega arith) ∙ h.1.1 u more less),
    )

by_order : (u n : ℕ) → u < suc n → (u < n) ⊎ (u ≡ n)
by_order u n l = ⊎_elim (λ (k : u < n). inl k) (λ (k : n ≤ u). inr (omega arith)) (cases_lt u n)

latest_past : (visits : List Visit) (x : Visit) (o : ℕ) (r : Option ℕ) → (x.operation == o) ≡ false →
    IsLatest visits o (length visits) r → IsLatest (visits ++ x ∷ []) o (suc (length visits)) r
latest_past visits x o None other h = λ u less.
    ⊎_elim (λ (l : u < length visits). visit_before o visits x u l ∙ h u l)
    (λ (e : u ≡ length visits). ap (is_visit_of o (visits ++ x ∷ [])) e ∙ visit_here o visits x ∙ other)
    (by_order u (length visits) less)
latest_past visits x o (Some v) other h =
    let first = h.0 in (
      omega arith,
      (
        visit_before o visits x v h.0 ∙ h.1.0,
        λ u more less. ⊎_elim (λ (l : u < length visits). visit_before o visits x u l ∙ h.1.1 u more l)
            (λ (e : u ≡ length visits). ap (is_visit_of o (visits ++ x ∷ [])) e ∙ visit_here o visits x ∙ other)
            (by_order u (length visits) less),
      ),
    )

latest_here : (visits : List Visit) (x : Visit) (o : ℕ) → (x.operation == o) ≡ true →
    IsLatest (visits ++ x ∷ []) o (suc (length visits)) (Some (length visits))
latest_here visits x o this =
    (omega arith, (visit_here o visits x ∙ this, λ u more less. absurd (omega arith)))

latest_added : (visits : List Visit) (x : Visit) (o : ℕ) (r : Option ℕ) (this : Bool) → (x.operation == o) ≡ this →
    IsLatest visits o (length visits) r →
    IsLatest (visits ++ x ∷ []) o (suc (length visits)) (if this then Some (length visits) else r)
latest_added visits x o r true e h = latest_here visits x o e
latest_added visits x o r false e h = latest_past visits x o r e h

-- the indices of visits where one comes
pub added : (visits : List Visit) (settled : List Bool) (before last more_last : List (Option ℕ))
    (counts more_counts : List ℕ) (x : Visit) →
    AreVisits visits settled before last counts → ((o : ℕ) → count more_counts o ≡ count counts o + one_if x.operation o) →
    ((o : ℕ) → get_or more_last o None ≡ (if x.operation == o then Some (length visits) else get_or last o None)) →
    AreVisits (visits ++ x ∷ []) (settled ++ false ∷ []) (before ++ get_or last x.operation None ∷ []) more_last more_counts
added visits settled before last more_last counts more_counts x was counted set_last =
    let long = length-append visits (x ∷ []) in
    let size : length (visits ++ x ∷ []) ≡ suc (length visits) = omega arith in
    record {
      same = let same = was.same in let k = length-append settled (false ∷ []) in omega arith;
      paired = let paired = was.paired in let k = length-append before (get_or last x.operation None ∷ []) in omega arith;
      left = λ o. let m = counted o in let l = was.left o in let p = unsettled_push o visits settled x was.same in omega arith;
      latest = λ o.
          rw (set_last o, size) (latest_added visits x o (get_or last o None) (x.operation == o) refl (was.latest o));
      earlier = λ v less.
          ⊎_elim (λ (l : v < length visits).
          rw (
            get_or_append_left visits (x ∷ []) no_visit v l,
            get_or_append_left before (get_or last x.operation None ∷ []) None v (let p = was.paired in omega arith),
          ) (latest_stays visits x (get_or visits v no_visit).operation v (get_or before v None) (omega arith) (was.earlier v l)))
          (λ (e : v ≡ length visits).
          rw (
            e,
            get_or_push visits x no_visit (length visits) refl,
            get_or_push before (get_or last x.operation None) None (length visits) was.paired,
          ) (latest_stays visits x x.operation (length visits) (get_or last x.operation None) (omega arith) (was.latest x.operation)))
          (by_order v (length visits) (omega arith));
    }

-- the indices of visits stay where the counts read the same
pub same_counts : (visits : List Visit) (settled : List Bool) (before last : List (Option ℕ)) (counts same : List ℕ) →
    AreVisits visits settled before last counts → ((o : ℕ) → count same o ≡ count counts o) → AreVisits visits settled before last same
same_counts visits settled before last counts same was e =
    record { same = was.same; paired = was.paired; left = λ o. e o ∙ was.left o; latest = was.latest; earlier = was.earlier }

-- ---- a visit is settled

-- the indices of visits where one is settled
pub settled_now : (visits : List Visit) (settled : List Bool) (before last : List (Option ℕ)) (counts less : List ℕ) (v : ℕ) →
    AreVisits visits settled before last counts → v < length visits → get_or settled v true ≡ false →
    ((o : ℕ) → count counts o ≡ count less o + one_if (get_or visits v no_visit).operation o) →
    AreVisits visits (set settled v true) before last less
settled_now visits settled before last counts less v was l h taken = record {
  same = let e = length-set settled v true in let s = was.same in omega arith;
  paired = was.paired;
  left = λ o.
      let t = taken o in
      let w = was.left o in
      let s = unsettled_set o visits settled v l (let e = was.same in omega arith) h in
      omega arith;
  latest = was.latest;
  earlier = was.earlier;
}

-- ---- the visits of an operation, one after the other

no_visit_there : (o : ℕ) (visits : List Visit) (v : ℕ) → length visits ≤ v → is_visit_of o visits v ≡ false
no_visit_there o visits v h =
    let e : nat_lt v (length visits) ≡ false = grind (arith, nat_tests) in
    ap (λ (z : Bool). z && ((get_or visits v no_visit).operation == o)) e

at_it : (v n e : ℕ) (old b : Bool) → v ≡ n → e ≤ n → b ≡ true → old ≡ (not (nat_lt v (suc n)) && b) →
    (old || (nat_eq v n || false)) ≡ (not (nat_lt v e) && b)
at_it v n e old b is l t o = grind (arith, nat_tests)

after_it : (v n e : ℕ) (old b : Bool) → n < v → e ≤ n → old ≡ (not (nat_lt v (suc n)) && b) →
    (old || (nat_eq v n || false)) ≡ (not (nat_lt v e) && b)
after_it v n e old b is l o = grind (arith, nat_tests)

before_it : (v n e : ℕ) (old b : Bool) → v < n → (not (nat_lt v e) && b) ≡ false → old ≡ (not (nat_lt v (suc n)) && b) →
    (old || (nat_eq v n || false)) ≡ (not (nat_lt v e) && b)
before_it v n e old b is f o = grind (arith, nat_tests)

end_below : (visits : List Visit) (o n : ℕ) (r : Option ℕ) → IsLatest visits o n r → end_of r ≤ n
end_below visits o n None h = omega arith
end_below visits o n (Some v) h = let l = h.0 in omega arith

passed : (v e : ℕ) (b : Bool) → v < e → (not (nat_lt v e) && b) ≡ false
passed v e b l = grind (arith, nat_tests)

false_right : (a b : Bool) → b ≡ false → (a && b) ≡ false
false_right true b h = h
false_right false b h = refl

skipped : (visits : List Visit) (o n v : ℕ) (r : Option ℕ) → IsLatest visits o n r → v < n →
    (not (nat_lt v (end_of r)) && is_visit_of o visits v) ≡ false
skipped visits o n v None h l = false_right (not (nat_lt v 0)) (is_visit_of o visits v) (h v l)
skipped visits o n v (Some m) h l =
    ⊎_elim (λ (k : v < suc m). passed v (suc m) (is_visit_of o visits v) k)
    (λ (k : suc m ≤ v). false_right (not (nat_lt v (suc m))) (is_visit_of o visits v) (h.1.1 v (omega arith) l))
    (cases_lt v (suc m))

-- the visits from an end on are listed
abbrev pub AreListed : List Visit → ℕ → Option ℕ → List ℕ → Type 0
AreListed visits o r ns = (v : ℕ) → list_any (nat_eq v) ns ≡ (not (nat_lt v (end_of r)) && is_visit_of o visits v)

-- one more visit of an operation, the latest before those that are listed
pub listed_more : (visits : List Visit) (o n : ℕ) (r : Option ℕ) (ns : List ℕ) → IsLatest visits o n r → is_visit_of o visits n ≡ true →
    AreListed visits o (Some n) ns → AreListed visits o r (ns ++ n ∷ [])
listed_more visits o n r ns h is so = λ v.
    let e = end_of r in
    let old = list_any (nat_eq v) ns in
    let b = is_visit_of o visits v in
    let l = end_below visits o n r h in
    list_any-append (nat_eq v) ns (n ∷ [])
    ∙ ⊎_elim (λ (d : v ≡ n). at_it v n e old b d l (ap (is_visit_of o visits) d ∙ is) (so v))
    (λ (d : (v < n) ⊎ (n < v)). ⊎_elim (λ (k : v < n). before_it v n e old b k (skipped visits o n v r h k) (so v))
    (λ (k : n < v). after_it v n e old b k l (so v)) d)
    (cases_order v n)

-- before the first one nothing is listed
pub listed_none : (visits : List Visit) (o : ℕ) (r : Option ℕ) → IsLatest visits o (length visits) r → AreListed visits o r []
listed_none visits o r h = λ v.
    ⊎_elim (λ (l : v < length visits). sym (skipped visits o (length visits) v r h l))
    (λ (l : length visits ≤ v). sym (false_right (not (nat_lt v (end_of r))) (is_visit_of o visits v) (no_visit_there o visits v l)))
    (cases_lt v (length visits))

visit_is : (visits : List Visit) (o n : ℕ) → is_visit_of o visits n ≡ true →
    (n < length visits) × ((get_or visits n no_visit).operation ≡ o)
visit_is visits o n h =
    let parts = and_parts (nat_lt n (length visits)) ((get_or visits n no_visit).operation == o) h in
    (ltb-true n (length visits) parts.0, eqb-true (get_or visits n no_visit).operation o parts.1)

-- what stands before a visit of the operation
pub latest_before : (visits : List Visit) (settled : List Bool) (before last : List (Option ℕ)) (counts : List ℕ) (o n : ℕ) →
    AreVisits visits settled before last counts → is_visit_of o visits n ≡ true → IsLatest visits o n (get_or before n None)
latest_before visits settled before last counts o n are h =
    let is = visit_is visits o n h in
    subst (λ (p : ℕ). IsLatest visits p n (get_or before n None)) is.1 (are.earlier n is.0)

-- the latest visit before a bound is one of the operation
pub latest_is : (visits : List Visit) (o bound : ℕ) (r : Option ℕ) → IsLatest visits o bound r →
    IfSome r (λ n. is_visit_of o visits n ≡ true)
latest_is visits o bound None h = tt
latest_is visits o bound (Some n) h = h.1.0
