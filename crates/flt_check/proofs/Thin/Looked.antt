-- Points looked at one after the other: all is ready for each, and what is told is the checker's fault.
use Rattle.std.proofs.Common.{◌≡◌, ◌<◌, ◌≤◌, ◌+◌, ℕ, Bool, true, false, List, length, get_or}
use Rattle.std.proofs.Common.{Option, Some, None, refl, sym, ap, ◌∙◌, subst, arith, below_more}
use Rattle.std.specs.Prelude.{◌==◌, if◌then◌else◌, nat_lt, is_some, IfNone}
use Rattle.std.proofs.lemmas.Bool.{cond-true, cond-false, eq-eqb, ne_eqb}
use Rattle.std.proofs.lemmas.Option.{none-some}
use Rattle.flt_rules.specs.Rule.{number}
use Rattle.flt_rules.specs.declared.rule.Rule.{Rule}
use Rattle.flt_graph.specs.Graph.{place_at}
use Rattle.flt_graph.specs.declared.graph.Graph.{Graph}
use Rattle.flt_abs.specs.State.{State, is_below}
use Rattle.flt_cert.specs.Format.{Point}
use Rattle.flt_check.specs.Checker.{lesser, entry_by}
use Rattle.flt_cert.specs.Thin.{Slot}
use Rattle.flt_check.specs.Full.{full_points}
use Rattle.flt_check.specs.Ready.{waiting, IsReady, slots_fault, put_from, own_state, column_own, column_point, AreGiven, FaultlessBefore}
use Rattle.flt_check.proofs.Thin.Ready.{given_at}
use Rattle.flt_check.proofs.Thin.Checked.{own_is, fault_same, ready_next}

-- ---- the beginning

nothing_waits : (g : Graph) (callback : ℕ) (slots : List Slot) (later : ℕ) (s : Slot) → waiting g callback slots 0 later s ≡ None
nothing_waits g callback slots later (Some given) = refl
nothing_waits g callback slots later None = refl

-- at the beginning nothing waits
pub ready_begins : (g : Graph) (callback : ℕ) (slots : List Slot) (states : List Point) (n : ℕ) → length slots ≤ n →
    length states ≡ n → ((k : ℕ) → k < n → get_or states k None ≡ None) → IsReady g callback slots 0 states
ready_begins g callback slots states n room count none = record {
  wide = omega arith;
  each = λ later low high. none later (omega arith) ∙ sym (nothing_waits g callback slots later (get_or slots later None));
}

-- ---- one point

module _ (reflexive : (x : State) → is_below x x ≡ true) (g : Graph) (callback : ℕ) (slots : List Slot)
    (agree : AreGiven g callback slots) (few : length slots ≤ 512) (p : ℕ) (states : List Point) (r : IsReady g callback slots p states)
    (h : p < length slots) where
  -- what is found of a point by the slots is its fault by the points that follow
  pub own_fault_is : slots_fault g callback slots p (own_state (get_or slots p None) (get_or states p None)) ≡
      column_own g callback (full_points g callback slots) p (get_or (full_points g callback slots) p None)
  own_fault_is =
      ap (slots_fault g callback slots p) (own_is g callback slots p states r h)
      ∙ fault_same reflexive g callback slots agree few p states r h (get_or (full_points g callback slots) p None) refl

  -- where that is none, all is ready for the next point
  pub own_ready : slots_fault g callback slots p (own_state (get_or slots p None) (get_or states p None)) ≡ None →
      IsReady g callback slots (p + 1) (put_from g callback slots p (own_state (get_or slots p None) (get_or states p None)) states)
  own_ready none =
      let own = own_is g callback slots p states r h in
      subst (λ (o : Point). IsReady g callback slots (p + 1) (put_from g callback slots p o states)) (sym own)
      (ready_next reflexive g callback slots agree few p states r h (get_or (full_points g callback slots) p None) refl
      (sym (ap (slots_fault g callback slots p) own) ∙ none))

-- ---- entries

given_first : (s : Slot) → is_some s ≡ true → (x : Point) × (s ≡ Some x)
given_first (Some x) e = (x, refl)
given_first None e = cc

-- the first point is given
pub first_is : (g : Graph) (callback : ℕ) (slots : List Slot) → AreGiven g callback slots → 0 < length slots →
    get_or slots 0 None ≡ Some (get_or (full_points g callback slots) 0 None)
first_is g callback slots agree some =
    let first = given_first (get_or slots 0 None) (agree 0 some) in
    first.1 ∙ ap Some (sym (given_at g callback slots 0 first.0 first.1 some))

-- ---- faults

picked : (b : Bool) (x y : Rule) → (if b then Some y else Some x) ≡ None → ⊥
picked true x y e = none-some y (sym e)
picked false x y e = none-some x (sym e)

-- if the lesser of two faults is none, the first is
pub lesser_none : (a b : Option Rule) → lesser a b ≡ None → a ≡ None
lesser_none None b e = refl
lesser_none (Some x) None e = e
lesser_none (Some x) (Some y) e = absurd (picked (nat_lt (number y) (number x)) x y e)

-- at point 0 the entry counts too
pub at_first : (g : Graph) (callback : ℕ) (points : List Point) (p : ℕ) → p ≡ 0 →
    column_point g callback points p ≡
    lesser (column_own g callback points p (get_or points p None)) (entry_by (place_at g callback) (get_or points 0 None))
at_first g callback points p e =
    cond-true (p == 0) (lesser (column_own g callback points p (get_or points p None)) (entry_by (place_at g callback)
    (get_or points 0 None)))
    (column_own g callback points p (get_or points p None)) (eq-eqb p 0 e)

-- at another it doesn't
pub at_later : (g : Graph) (callback : ℕ) (points : List Point) (p : ℕ) → (p ≡ 0 → ⊥) →
    column_point g callback points p ≡ column_own g callback points p (get_or points p None)
at_later g callback points p e =
    cond-false (p == 0) (lesser (column_own g callback points p (get_or points p None)) (entry_by (place_at g callback)
    (get_or points 0 None)))
    (column_own g callback points p (get_or points p None)) (ne_eqb p 0 e)

-- one more point without a fault
pub faultless_more : (g : Graph) (callback : ℕ) (slots : List Slot) (p : ℕ) → FaultlessBefore g callback slots p →
    column_point g callback (full_points g callback slots) p ≡ None → FaultlessBefore g callback slots (p + 1)
faultless_more g callback slots p before here =
    below_more (λ q. column_point g callback (full_points g callback slots) q ≡ None) p before here

-- what holds where there is none
pub if_none : (o : Option Rule) (P : Type 0) → (o ≡ None → P) → IfNone o P
if_none None P h = h refl
if_none (Some r) P h = tt
