-- A point that is looked at by the slots is looked at by the points that follow from them.
use Rattle.std.proofs.Common.{◌≡◌, ◌<◌, ◌≤◌, ◌+◌, ℕ, true, List, [], length, get_or, Option}
use Rattle.std.proofs.Common.{Some, None, Result, Ok, Err, refl, sym, ap, ◌∙◌, inl, inr}
use Rattle.std.specs.Prelude.{◌==◌, if◌then◌else◌}
use Rattle.std.proofs.lemmas.Option.{none-some}
use Rattle.flt_rules.specs.declared.rule.Rule.{Rule}
use Rattle.flt_graph.specs.Graph.{place_at}
use Rattle.flt_graph.specs.declared.graph.Graph.{Graph}
use Rattle.flt_abs.specs.State.{State, is_below}
use Rattle.flt_abs.specs.Step.{transfer}
use Rattle.flt_abs.specs.declared.step.Successor.{Successor}
use Rattle.flt_abs.specs.declared.step.Successors.{Successors}
use Rattle.flt_cert.specs.Format.{Point, Certificate}
use Rattle.flt_check.specs.Checker.{lesser, successor_fault, result_fault, own_fault, entry_by, point_fault}
use Rattle.flt_cert.specs.Thin.{Slot}
use Rattle.flt_check.specs.Full.{full_points}
use Rattle.flt_check.specs.Ready.{IsReady, side_fault, column_fault, slots_result, put_result, slots_fault}
use Rattle.flt_check.specs.Ready.{put_from, own_state, column_result, column_own, column_point, AreGiven}
use Rattle.flt_check.proofs.Thin.Ready.{given_at, ready_state, ready_unreached, ready_reached, side_fault_is}

-- ---- certificates by columns

side_same : (k : Certificate) (callback : ℕ) (o : Option Successor) → successor_fault k callback o ≡ column_fault (get_or k callback []) o
side_same k callback (Some next) = refl
side_same k callback None = refl

result_same : (k : Certificate) (callback : ℕ) (r : Result Successors Rule) →
    result_fault k callback r ≡ column_result (get_or k callback []) r
result_same k callback (Err r) = refl
result_same k callback (Ok next) =
    ap (λ a. lesser a (successor_fault k callback next.second)) (side_same k callback next.first)
    ∙ ap (lesser (column_fault (get_or k callback []) next.first)) (side_same k callback next.second)

own_same : (g : Graph) (k : Certificate) (callback point : ℕ) (o : Point) →
    own_fault g k callback point o ≡ column_own g callback (get_or k callback []) point o
own_same g k callback point (Some x) = result_same k callback (transfer g callback point x)
own_same g k callback point None = refl

-- the checker looks at no other callback
pub columns_same : (g : Graph) (k : Certificate) (callback point : ℕ) →
    point_fault g k callback point ≡ column_point g callback (get_or k callback []) point
columns_same g k callback point =
    ap (λ (own : Option Rule). if point == 0 then lesser own (entry_by (place_at g callback)
    (get_or (get_or k callback []) 0 None)) else own)
    (own_same g k callback point (get_or (get_or k callback []) point None))

-- ---- a point

-- what is given of a point, or waits for it, is its state
pub own_is : (g : Graph) (callback : ℕ) (slots : List Slot) (p : ℕ) (states : List Point) → IsReady g callback slots p states →
    p < length slots → own_state (get_or slots p None) (get_or states p None) ≡ get_or (full_points g callback slots) p None
own_is g callback slots p states r h = by (get_or slots p None) refl
  where
    by : (s : Slot) → get_or slots p None ≡ s → own_state (get_or slots p None) (get_or states p None) ≡
        get_or (full_points g callback slots) p None
    by (Some x) e = ap (λ (s : Slot). own_state s (get_or states p None)) e ∙ sym (given_at g callback slots p x e h)
    by None e = ap (λ (s : Slot). own_state s (get_or states p None)) e ∙ ready_state g callback slots p states r h e

module _ (reflexive : (x : State) → is_below x x ≡ true) (g : Graph) (callback : ℕ) (slots : List Slot)
    (agree : AreGiven g callback slots) (few : length slots ≤ 512)
    (p : ℕ) (states : List Point) (r : IsReady g callback slots p states) (h : p < length slots) where
  by_result : (x : State) → get_or (full_points g callback slots) p None ≡ Some x → (o : Result Successors Rule) →
      transfer g callback p x ≡ o → slots_result slots p o ≡ column_result (full_points g callback slots) o
  by_result x here (Err rule) e = refl
  by_result x here (Ok next) e =
      ap (λ a. lesser a (side_fault slots p next.second))
      (side_fault_is g callback slots agree p states r h few x here next e reflexive next.first (inl refl))
      ∙ ap (lesser (column_fault (full_points g callback slots) next.first))
      (side_fault_is g callback slots agree p states r h few x here next e reflexive next.second (inr refl))

  -- what is wrong by the slots is what is wrong by the points
  pub fault_same : (o : Point) → get_or (full_points g callback slots) p None ≡ o →
      slots_fault g callback slots p o ≡ column_own g callback (full_points g callback slots) p o
  fault_same (Some x) e = by_result x e (transfer g callback p x) refl
  fault_same None e = refl

  next_result : (x : State) → get_or (full_points g callback slots) p None ≡ Some x → (o : Result Successors Rule) →
      transfer g callback p x ≡ o → slots_result slots p o ≡ None → IsReady g callback slots (p + 1) (put_result slots p o states)
  next_result x here (Err rule) e none = absurd (none-some rule (sym none))
  next_result x here (Ok next) e none = ready_reached g callback slots agree p states r h few x here next e

  -- where nothing is wrong, all is ready for the next point
  pub ready_next : (o : Point) → get_or (full_points g callback slots) p None ≡ o → slots_fault g callback slots p o ≡ None →
      IsReady g callback slots (p + 1) (put_from g callback slots p o states)
  ready_next (Some x) e none = next_result x e (transfer g callback p x) refl none
  ready_next None e none = ready_unreached g callback slots agree p states r h e
