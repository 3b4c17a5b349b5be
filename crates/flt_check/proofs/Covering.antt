-- What has no fault covers, and what covers has no fault.
use Rattle.std.proofs.Common.{◌≡◌, ℕ, zero, suc, ◌<◌, ◌≤◌, Bool, true, false, [], ◌∷◌, length, Option}
use Rattle.std.proofs.Common.{Some, None, Result, Ok, Err, refl, sym, ap, ◌∙◌, nat_lt, arith}
use Rattle.std.specs.Prelude.{not, ◌==◌, if◌then◌else◌}
use Rattle.std.specs.List.{list_all}
use Rattle.flt_rules.specs.Held.{same_locks}
use Rattle.std.proofs.lemmas.Bool.{and_parts, eqb-true, eq-eqb, leb-false, lt-leb, or_parts, not-false, true≢false, false≢true, ltb-true}
use Rattle.flt_rules.specs.Rule.{number}
use Rattle.flt_rules.specs.declared.rule.Rule.{Rule}
use Rattle.flt_rules.specs.declared.rule.Rule.TheVariants.{R12, R14}
use Rattle.flt_graph.specs.Graph.{place_at, points_at}
use Rattle.flt_graph.specs.declared.graph.Graph.{Graph}
use Rattle.flt_abs.specs.Entry.{entry}
use Rattle.flt_abs.specs.State.{State, is_below}
use Rattle.flt_abs.specs.Step.{transfer}
use Rattle.flt_abs.specs.declared.step.Successor.{Successor}
use Rattle.flt_abs.specs.declared.step.Successors.{Successors}
use Rattle.flt_cert.specs.Format.{Certificate, is_callback, is_certificate}
use Rattle.std.specs.Prelude.{◌↔◌, OnOk, IfErr, IsOk}
use Rattle.std.proofs.Common.{inl, inr}
use Rattle.std.proofs.lemmas.Option.{none-some}
use Rattle.flt_check.specs.Checker.{IsCountFault, IsLeastFault, lead_fault, successor_fault, lesser, result_fault, own_fault, entry_by}
use Rattle.flt_check.specs.Checker.{entry_fault, point_fault, differs, AgreeOnCounts, IsFaultless}
use Rattle.flt_rules.specs.declared.refusal.Refusal.{Refusal}
use Rattle.flt_check.specs.Covering.{state_at, count_at, IsLed, Steps, Covers}

-- ---- options of rules

picked : (b : Bool) (x y : Rule) → (if b then Some y else Some x) ≡ None → ⊥
picked true x y e = none-some y (sym e)
picked false x y e = none-some x (sym e)

lesser_none : (a b : Option Rule) → lesser a b ≡ None → (a ≡ None) × (b ≡ None)
lesser_none None b e = (refl, e)
lesser_none (Some x) None e = absurd (none-some x (sym e))
lesser_none (Some x) (Some y) e = elim (picked (nat_lt (number y) (number x)) x y e) [ ]

none_lesser : (a b : Option Rule) → a ≡ None → b ≡ None → lesser a b ≡ None
none_lesser None b e h = h
none_lesser (Some x) b e h = absurd (none-some x (sym e))

-- ---- where a state leads

lead_by : (b c : Bool) → (if not b then Some R12 else (if not c then Some R14 else None)) ≡ None → c ≡ true
lead_by true true e = refl
lead_by true false e = absurd (none-some R14 (sym e))
lead_by false c e = absurd (none-some R12 (sym e))

by_lead : (b c : Bool) → b ≡ true → c ≡ true → (if not b then Some R12 else (if not c then Some R14 else None)) ≡ None
by_lead true true e h = refl
by_lead true false e h = cc
by_lead false c e h = cc

leads : (x : State) (o : Option State) → lead_fault x o ≡ None → (y : State) × (o ≡ Some y) × (is_below x y ≡ true)
leads x (Some y) e = (y, refl, lead_by (same_locks x.locks y.locks) (is_below x y) e)
leads x None e = absurd (none-some R14 (sym e))

led : (x y : State) (o : Option State) → o ≡ Some y → is_below x y ≡ true → lead_fault x o ≡ None
led x y (Some z) e h =
    let same : is_below x z ≡ true = cc in
    by_lead (same_locks x.locks z.locks) (is_below x z) (and_parts _ _ same).0 same
led x y None e h = absurd (none-some y e)

is_led : (k : Certificate) (callback : ℕ) (o : Option Successor) → successor_fault k callback o ≡ None → IsLed k callback o
is_led k callback (Some next) e = leads next.state (state_at k callback next.point) e
is_led k callback None e = tt

from_led : (k : Certificate) (callback : ℕ) (o : Option Successor) → IsLed k callback o → successor_fault k callback o ≡ None
from_led k callback (Some next) h = led next.state h.0 (state_at k callback next.point) h.1 h.2
from_led k callback None h = refl

steps_by : (k : Certificate) (callback : ℕ) (r : Result Successors Rule) → result_fault k callback r ≡ None →
    (next : Successors) × (r ≡ Ok next) × IsLed k callback next.first × IsLed k callback next.second
steps_by k callback (Ok next) e =
    let both = lesser_none _ _ e in
    (next, refl, is_led k callback next.first both.0, is_led k callback next.second both.1)
steps_by k callback (Err r) e = absurd (none-some r (sym e))

by_steps : (k : Certificate) (callback : ℕ) (r : Result Successors Rule) (next : Successors) → r ≡ Ok next →
    IsLed k callback next.first → IsLed k callback next.second →
    result_fault k callback r ≡ None
by_steps k callback r next e a b = rw e (none_lesser _ _ (from_led k callback next.first a) (from_led k callback next.second b))

own_steps : (g : Graph) (k : Certificate) (callback point : ℕ) (x : State) (o : Option State) →
    own_fault g k callback point o ≡ None → o ≡ Some x → Steps g k callback point x
own_steps g k callback point x o e h =
    let at_x : own_fault g k callback point (Some x) ≡ None = rw h at e in
    steps_by k callback (transfer g callback point x) at_x

steps_own : (g : Graph) (k : Certificate) (callback point : ℕ) (o : Option State) →
    ((x : State) → o ≡ Some x → Steps g k callback point x) → own_fault g k callback point o ≡ None
steps_own g k callback point (Some x) h = let s = h x refl in by_steps k callback (transfer g callback point x) s.0 s.1 s.2 s.3
steps_own g k callback point None h = refl

-- ---- entries

entered_if : (b : Bool) → (if b then None else Some R14) ≡ None → b ≡ true
entered_if true e = refl
entered_if false e = absurd (none-some R14 (sym e))

if_entered : (b : Bool) → b ≡ true → (if b then None else Some R14) ≡ None
if_entered true e = refl
if_entered false e = cc

entered : (g : Graph) (callback : ℕ) (o : Option State) → entry_by (place_at g callback) o ≡ None → (y : State) × (o ≡ Some y)
    × (is_below (entry (place_at g callback)) y ≡ true)
entered g callback (Some y) e = (y, refl, entered_if (is_below (entry (place_at g callback)) y) e)
entered g callback None e = absurd (none-some R14 (sym e))

from_entered : (g : Graph) (callback : ℕ) (y : State) (o : Option State) → o ≡ Some y →
    is_below (entry (place_at g callback)) y ≡ true → entry_by (place_at g callback) o ≡ None
from_entered g callback y (Some z) e h =
    let same : is_below (entry (place_at g callback)) z ≡ true = cc in
    if_entered (is_below (entry (place_at g callback)) z) same
from_entered g callback y None e h = absurd (none-some y e)

-- ---- points

own_by : (b : Bool) (own e : Option Rule) → (if b then lesser own e else own) ≡ None → own ≡ None
own_by true own e h = (lesser_none own e h).0
own_by false own e h = h

by_own : (b : Bool) (own e : Option Rule) → own ≡ None → e ≡ None → (if b then lesser own e else own) ≡ None
by_own true own e h k = none_lesser own e h k
by_own false own e h k = h

own_of : (g : Graph) (k : Certificate) (callback point : ℕ) → point_fault g k callback point ≡ None →
    own_fault g k callback point (state_at k callback point) ≡ None
own_of g k callback point e = own_by (point == 0) _ _ e

point_of : (g : Graph) (k : Certificate) (callback point : ℕ) → own_fault g k callback point (state_at k callback point) ≡ None →
    entry_fault g k callback ≡ None → point_fault g k callback point ≡ None
point_of g k callback point e h = by_own (point == 0) _ _ e h

entry_of : (g : Graph) (k : Certificate) (callback : ℕ) → point_fault g k callback 0 ≡ None → entry_fault g k callback ≡ None
entry_of g k callback e = (lesser_none _ _ e).1

-- ---- counts

last_below : (n m : ℕ) → ((c : ℕ) → c < n → c < m) → n ≤ m
last_below zero m h = omega arith
last_below (suc n) m h = let e = h n (omega arith) in omega arith

same_length : (g : Graph) (k : Certificate) → length k ≤ length g.callbacks → ((c : ℕ) → c < length g.callbacks → c < length k) →
    length k ≡ length g.callbacks
same_length g k h each = let e = last_below (length g.callbacks) (length k) each in omega arith

counted : (g : Graph) (k : Certificate) (callback : ℕ) → differs g k callback ≡ false → (callback < length k)
    × (points_at g callback ≡ count_at k callback)
counted g k callback e =
    let parts = or_parts _ _ e in
    (leb-false _ _ parts.0, eqb-true _ _ (not-false _ parts.1))

same_count : (n m : ℕ) → n ≡ m → not (n == m) ≡ false
same_count n m e = ap not (eq-eqb n m e)

agreed : (g : Graph) (k : Certificate) (callback : ℕ) → callback < length k → points_at g callback ≡ count_at k callback →
    differs g k callback ≡ false
agreed g k callback below e = rw (lt-leb _ _ below) (same_count _ _ e)

some_point : (k : Certificate) (callback : ℕ) → list_all is_callback k ≡ true → callback < length k → 0 < count_at k callback
some_point [] callback h below = absurd (omega arith)
some_point (points ∷ k) zero h below = ltb-true _ _ (and_parts _ _ (and_parts _ _ h).0).0
some_point (points ∷ k) (suc callback) h below = some_point k callback (and_parts _ _ h).1 (omega arith)

callbacks_of : (k : Certificate) → is_certificate k ≡ true → list_all is_callback k ≡ true
callbacks_of k h = (and_parts _ _ (and_parts _ _ h).1).1

-- ---- the two are the same

-- a certificate without a fault covers
pub covers_of : (g : Graph) (k : Certificate) → is_certificate k ≡ true → IsFaultless g k → Covers g k
covers_of g k good h =
    let each = λ (c : ℕ) (below : c < length g.callbacks). counted g k c (h.counts.points c below) in
    record {
      callbacks = same_length g k h.counts.callbacks (λ c below. (each c below).0);
      points = λ c below. (each c below).1;
      entries = λ c below.
          let some : 0 < points_at g c = rw (each c below).1 (some_point k c (callbacks_of k good) (each c below).0) in
          entered g c (state_at k c 0) (entry_of g k c (h.points c below 0 some));
      steps = λ c p x below within is. own_steps g k c p x (state_at k c p) (own_of g k c p (h.points c below p within)) is;
    }

-- a certificate that covers has no fault
pub faultless_of : (g : Graph) (k : Certificate) → Covers g k → IsFaultless g k
faultless_of g k h = record {
  counts = record {
    callbacks = let e = h.callbacks in omega arith;
    points = λ c below. agreed g k c (let e = h.callbacks in omega arith) (h.points c below);
  };
  points = λ c below p within. point_of g k c p
      (steps_own g k c p (state_at k c p) (λ x is. h.steps c p x below within is))
      (let e = h.entries c below in from_entered g c e.0 (state_at k c 0) e.1 e.2);
}

-- a fault in a count isn't there where the counts agree
pub count_fault_not : (g : Graph) (k : Certificate) (callback : ℕ) → IsCountFault g k callback → AgreeOnCounts g k → ⊥
count_fault_not g k callback (inl first) h = true≢false (sym first.here ∙ h.points callback first.within)
count_fault_not g k callback (inr more) h = let e = more.more in let l = h.callbacks in absurd (omega arith)

-- what has a least fault isn't without fault
pub least_not : (g : Graph) (k : Certificate) (f : Refusal) → IsLeastFault g k f → IsFaultless g k → ⊥
least_not g k f (inl count) h = count_fault_not g k f.callback count.callback h.counts
least_not g k f (inr point) h = none-some f.rule (sym (h.points f.callback point.callback f.point point.point.within) ∙ point.point.broken)

-- a check accepts just where the certificate covers
pub accepted_iff : (g : Graph) (k : Certificate) (r : Result (Unit {0}) Refusal) → is_certificate k ≡ true →
    OnOk r (IsFaultless g k) → IfErr r (IsLeastFault g k) → IsOk r ↔ Covers g k
accepted_iff g k (Ok u) good h e = (λ _. covers_of g k good h, λ _. refl)
accepted_iff g k (Err f) good h e = (λ no. absurd (false≢true no), λ c. absurd (least_not g k f e (faultless_of g k c)))
