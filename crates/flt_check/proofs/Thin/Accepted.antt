-- What is found out of a thin certificate, counts and points, is what it is to cover, or the least fault.
use Rattle.std.proofs.Common.{◌≡◌, ◌<◌, ◌≤◌, ◌+◌, ◌-◌, ℕ, zero, suc, true, false, List, [], ◌∷◌, length, get_or}
use Rattle.std.proofs.Common.{Result, Ok, Err, refl, sym, ap, ◌∙◌, subst, arith, inl, inr, below_more}
use Rattle.std.specs.Prelude.{◌⊎◌, ◌↔◌, IsOk, OnOk, IfErr, not, ◌||◌, ◌==◌, nat_le, nat_lt}
use Rattle.std.specs.List.{list_all}
use Rattle.std.proofs.lemmas.Bool.{and_parts, or_parts, eqb-true, not-false, ltb-true, cases_lt, true≢false, false≢true}
use Rattle.std.proofs.lemmas.List.{get_or_past}
use Rattle.std.proofs.lemmas.Option.{none-some}
use Rattle.flt_rules.specs.declared.rule.Rule.{Rule}
use Rattle.flt_rules.specs.declared.rule.Rule.TheVariants.{R14}
use Rattle.flt_graph.specs.Graph.{points_at, line_at}
use Rattle.flt_graph.specs.declared.graph.Graph.{Graph}
use Rattle.flt_cert.specs.Format.{Point, Certificate}
use Rattle.flt_check.specs.Checker.{point_fault, differs, AgreeOnCounts, IsCountFault, NoneBefore, NoneIn, IsFaultless}
use Rattle.flt_check.specs.Covering.{Covers, count_at}
use Rattle.flt_rules.specs.declared.refusal.Refusal.{Refusal}
use Rattle.flt_cert.specs.Thin.{Slot, Thin, is_thin_callback, is_thin, begins}
use Rattle.flt_check.specs.Full.{full_points, full}
use Rattle.flt_check.specs.ThinCovering.{AgreeBefore, AgreeIn, GivesKept, CoversThin}
use Rattle.flt_check.specs.ThinFault.{IsThinFault, IsFaultlessThin, differs_thin}
use Rattle.flt_check.specs.Ready.{column_point, AreGiven, FaultlessBefore, IsFirstBroken, IsOtherPoint}
use Rattle.flt_check.proofs.Thin.Certificates.{length-full_from, full_column}
use Rattle.flt_check.proofs.Thin.Checked.{columns_same}
use Rattle.flt_check.proofs.Thin.Filled.{length-full}

-- ---- counts

length-of_full : (g : Graph) (t : Thin) → length (full g t) ≡ length t
length-of_full g t = length-full_from g 0 t

full_count : (g : Graph) (t : Thin) (c : ℕ) → count_at (full g t) c ≡ length (get_or t c [])
full_count g t c = by (cases_lt c (length t))
  where
    by : ((c < length t) ⊎ (length t ≤ c)) → count_at (full g t) c ≡ length (get_or t c [])
    by (inl h) =
        ap (λ (points : List Point). length points) (full_column g 0 t c c (omega arith) h) ∙ length-full g c (get_or t c [])
    by (inr h) =
        let long = length-of_full g t in
        ap (λ (points : List Point). length points) (get_or_past (full g t) c [] (omega arith))
        ∙ sym (ap (λ (slots : List Slot). length slots) (get_or_past t c [] h))

-- the counts of the full certificate are those of the slots
pub differs_same : (g : Graph) (t : Thin) (c : ℕ) → differs g (full g t) c ≡ differs_thin g t c
differs_same g t c =
    ap (λ n. nat_le n c || not (points_at g c == count_at (full g t) c)) (length-of_full g t)
    ∙ ap (λ n. nat_le (length t) c || not (points_at g c == n)) (full_count g t c)

-- up to a callback, that one left out, none differs
abbrev pub NoneDiffers : Graph → Thin → ℕ → Type 0
NoneDiffers g t callbacks = (c : ℕ) → c < callbacks → differs_thin g t c ≡ false

-- one more callback that doesn't differ
pub none_differs_more : (g : Graph) (t : Thin) (c : ℕ) → NoneDiffers g t c → differs_thin g t c ≡ false → NoneDiffers g t (c + 1)
none_differs_more g t c before here = below_more (λ d. differs_thin g t d ≡ false) c before here

-- all of them
pub none_differs_to : (g : Graph) (t : Thin) (c : ℕ) → length g.callbacks ≤ c → NoneDiffers g t c → NoneDiffers g t (length g.callbacks)
none_differs_to g t c all none d below = none d (omega arith)

-- the first one that differs is the fault of the counts
pub first_differs : (g : Graph) (t : Thin) (c : ℕ) → c < length g.callbacks → differs_thin g t c ≡ true → NoneDiffers g t c →
    IsCountFault g (full g t) c
first_differs g t c below here before = inl (record {
  within = below;
  here = differs_same g t c ∙ here;
  earlier = λ d less. differs_same g t d ∙ before d less;
})

-- so is the last one, where the certificate has more
pub has_more : (g : Graph) (t : Thin) (c : ℕ) → c ≡ length g.callbacks - 1 → length g.callbacks < length t →
    NoneDiffers g t (length g.callbacks) → IsCountFault g (full g t) c
has_more g t c last more none = inr (record {
  last = last;
  more = (let long = length-of_full g t in omega arith);
  none = λ d less. differs_same g t d ∙ none d less;
})

-- where none differs and there are no more, the counts agree
pub counts_agree : (g : Graph) (t : Thin) → length t ≤ length g.callbacks → NoneDiffers g t (length g.callbacks) →
    AgreeOnCounts g (full g t)
counts_agree g t few none = record {
  callbacks = (let long = length-of_full g t in omega arith);
  points = λ c below. differs_same g t c ∙ none c below;
}

-- then a callback has as many slots as points
pub counted : (g : Graph) (t : Thin) (c : ℕ) → AgreeOnCounts g (full g t) → c < length g.callbacks → points_at g c ≡ length (get_or t c [])
counted g t c counts below =
    let parts = or_parts (nat_le (length t) c) (not (points_at g c == length (get_or t c [])))
    (sym (differs_same g t c) ∙ counts.points c below) in
    eqb-true (points_at g c) (length (get_or t c [])) (not-false (points_at g c == length (get_or t c [])) parts.1)

few_in : (t : Thin) (c : ℕ) → list_all is_thin_callback t ≡ true → length (get_or t c []) ≤ 512
few_in [] c h = omega arith
few_in (slots ∷ t) zero h =
    let few = ltb-true (length slots) 513 (and_parts _ _ (and_parts (begins slots) _ (and_parts (is_thin_callback slots) _ h).0).1).0 in
    omega arith
few_in (slots ∷ t) (suc c) h = few_in t c (and_parts (is_thin_callback slots) _ h).1

-- a callback has 512 slots at most
pub few_slots : (t : Thin) (c : ℕ) → is_thin t ≡ true → length (get_or t c []) ≤ 512
few_slots t c h = few_in t c (and_parts (nat_lt (length t) 17) _ (and_parts (nat_lt 0 (length t)) _ h).1).1

-- ---- the points that are given

-- one more callback in which exactly the kept points are given
pub agree_more : (g : Graph) (t : Thin) (c : ℕ) → AgreeOnCounts g (full g t) → c < length g.callbacks → AgreeIn g t c →
    AreGiven g c (get_or t c []) → AgreeIn g t (c + 1)
agree_more g t c counts below before given =
    let count = counted g t c counts below in
    below_more (λ d. AgreeBefore g t d (points_at g d)) c before (λ p h. given p (omega arith))

-- exactly the kept points of each callback are given
pub given_in : (g : Graph) (t : Thin) (c : ℕ) → AgreeOnCounts g (full g t) → c < length g.callbacks → GivesKept g t →
    AreGiven g c (get_or t c [])
given_in g t c counts below kept p h = let count = counted g t c counts below in kept c below p (omega arith)

-- ---- points by columns

column_is : (g : Graph) (t : Thin) (c p : ℕ) → c < length t →
    point_fault g (full g t) c p ≡ column_point g c (full_points g c (get_or t c [])) p
column_is g t c p h =
    columns_same g (full g t) c p ∙ ap (λ (points : List Point). column_point g c points p) (full_column g 0 t c c (omega arith) h)

within_thin : (g : Graph) (t : Thin) (c p : ℕ) → AgreeOnCounts g (full g t) → c < length g.callbacks → p < points_at g c → c < length t
within_thin g t c p counts below within = by (cases_lt c (length t))
  where
    by : ((c < length t) ⊎ (length t ≤ c)) → c < length t
    by (inl h) = h
    by (inr h) =
        let count = counted g t c counts below in
        let none = ap (λ (slots : List Slot). length slots) (get_or_past t c [] h) in absurd (omega arith)

-- one more callback without a fault
pub none_more : (g : Graph) (t : Thin) (c : ℕ) → AgreeOnCounts g (full g t) → c < length g.callbacks → NoneIn g (full g t) c →
    FaultlessBefore g c (get_or t c []) (length (get_or t c [])) → NoneIn g (full g t) (c + 1)
none_more g t c counts below before here =
    let count = counted g t c counts below in
    below_more (λ d. NoneBefore g (full g t) d (points_at g d)) c before
    (λ p h. column_is g t c p (within_thin g t c p counts below h) ∙ here p (omega arith))

-- ---- faults

abbrev told : ℕ → ℕ → ℕ → Rule → Refusal
told callback point line rule = record { callback = callback; point = point; line = line; rule = rule }

-- a fault of the counts is the least fault
pub count_told : (g : Graph) (t : Thin) (c : ℕ) (f : Refusal) → f ≡ record { callback = c; point = 0; line = line_at g c 0; rule = R14 } →
    IsCountFault g (full g t) c → IsThinFault g t f
count_told g t c f e fault =
    subst (λ (x : Refusal). IsThinFault g t x) (sym e)
    (let told_is : IsThinFault g t (told c 0 (line_at g c 0) R14) = inl (record {
      callback = fault;
      point = refl;
      line = refl;
      rule = refl;
    }) in told_is)

-- so is the first other point, where the counts agree
pub kept_told : (g : Graph) (t : Thin) (c p : ℕ) (f : Refusal) →
    f ≡ record { callback = c; point = p; line = line_at g c p; rule = R14 } → AgreeOnCounts g (full g t) → c < length g.callbacks →
    AgreeIn g t c → IsOtherPoint g c (get_or t c []) p → IsThinFault g t f
kept_told g t c p f e counts below before other =
    let count = counted g t c counts below in
    let within = other.within in
    subst (λ (x : Refusal). IsThinFault g t x) (sym e)
    (let told_is : IsThinFault g t (told c p (line_at g c p) R14) = inr (inl (record {
      counts = counts;
      callback = below;
      point = record { within = omega arith; other = other.other; earlier = other.earlier };
      line = refl;
      rule = refl;
      earlier = before;
    })) in told_is)

-- so is the first broken rule, where exactly the kept points are given
pub point_told : (g : Graph) (t : Thin) (c p : ℕ) (r : Rule) (f : Refusal) →
    f ≡ record { callback = c; point = p; line = line_at g c p; rule = r } → AgreeOnCounts g (full g t) → c < length g.callbacks →
    GivesKept g t → NoneIn g (full g t) c → IsFirstBroken g c (get_or t c []) p r → IsThinFault g t f
point_told g t c p r f e counts below kept before first =
    let count = counted g t c counts below in
    let within = first.within in
    let there : c < length t = within_thin g t c p counts below (omega arith) in
    subst (λ (x : Refusal). IsThinFault g t x) (sym e)
    (let told_is : IsThinFault g t (told c p (line_at g c p) r) = inr (inr (
      kept,
      record {
        counts = counts;
        callback = below;
        point = record {
          within = omega arith;
          broken = column_is g t c p there ∙ first.broken;
          earlier = λ q h. column_is g t c q there ∙ first.earlier q h;
        };
        line = refl;
        earlier = before;
      },
    )) in told_is)

-- ---- what covers has no fault

-- where the counts agree there is no fault of the counts
pub count_fault_not : (g : Graph) (k : Certificate) (callback : ℕ) → IsCountFault g k callback → AgreeOnCounts g k → ⊥
count_fault_not g k callback (inl first) h = true≢false (sym first.here ∙ h.points callback first.within)
count_fault_not g k callback (inr more) h = let e = more.more in let l = h.callbacks in absurd (omega arith)

-- a thin certificate that has a least fault doesn't give the kept points, or what follows from it isn't without fault
pub fault_not : (g : Graph) (t : Thin) (f : Refusal) → IsThinFault g t f → GivesKept g t → IsFaultless g (full g t) → ⊥
fault_not g t f (inl count) kept h = count_fault_not g (full g t) f.callback count.callback h.counts
fault_not g t f (inr (inl other)) kept h = other.point.other (kept f.callback other.callback f.point other.point.within)
fault_not g t f (inr (inr point)) kept h =
    none-some f.rule (sym (h.points f.callback point.1.callback f.point point.1.point.within) ∙ point.1.point.broken)

-- what has no fault covers, and what has one doesn't
pub accepted_iff : (g : Graph) (t : Thin) (r : Result (Unit {0}) Refusal) → (IsFaultless g (full g t) → Covers g (full g t)) →
    (Covers g (full g t) → IsFaultless g (full g t)) → OnOk r (IsFaultlessThin g t) → IfErr r (IsThinFault g t) → IsOk r ↔ CoversThin g t
accepted_iff g t (Ok u) covers faultless h e =
    (λ _. record { kept = h.kept; covers = covers (record { counts = h.counts; points = h.points }) }, λ _. refl)
accepted_iff g t (Err f) covers faultless h e =
    (λ no. absurd (false≢true no), λ c. absurd (fault_not g t f e c.kept (faultless c.covers)))
