-- The order of the walk names one fault.
use Rattle.std.proofs.Common.{◌≡◌, ◌<◌, ◌≤◌, ℕ, zero, suc, Bool, true, false, Option, Some}
use Rattle.std.proofs.Common.{None, Result, Ok, Err, sym, ap, ◌∙◌, arith, inl, inr}
use Rattle.std.proofs.Math.Path.{subst}
use Rattle.std.specs.Prelude.{◌⊎◌}
use Rattle.std.proofs.lemmas.Bool.{cases_order, cases_lt, true≢false}
use Rattle.std.proofs.lemmas.Option.{same_Some}
use Rattle.flt_rules.specs.declared.rule.Rule.{Rule}
use Rattle.flt_graph.specs.Graph.{line_at}
use Rattle.flt_graph.specs.declared.graph.Graph.{Graph}
use Rattle.flt_rules.specs.declared.refusal.Refusal.{Refusal}
use Rattle.flt_analyse.specs.Least.{LacksRoom, IsNamed}
use Rattle.flt_analyse.specs.Pending.{least}
use Rattle.flt_analyse.specs.Walk.{look, taken, opening, Leads, Stops, Ends, IsFirstFault}
use Rattle.flt_analyse.specs.declared.walk.Walk.{Walk}

abbrev walk_or : Walk → Result Walk Rule → Walk
walk_or d (Ok w) = w
walk_or d (Err r) = d

abbrev rule_or : Rule → Result Walk Rule → Rule
rule_or d (Ok w) = d
rule_or d (Err r) = r

abbrev went : Result Walk Rule → Bool
went (Ok w) = true
went (Err r) = false

ok_same : (a b : Walk) (m : Result Walk Rule) → m ≡ Ok a → m ≡ Ok b → a ≡ b
ok_same a b m e h = ap (λ i. walk_or a i) (sym e ∙ h)

err_same : (r s : Rule) (m : Result Walk Rule) → m ≡ Err r → m ≡ Err s → r ≡ s
err_same r s m e h = ap (λ i. rule_or r i) (sym e ∙ h)

not_ok : (a : Walk) (r : Rule) (m : Result Walk Rule) → m ≡ Ok a → m ≡ Err r → ⊥
not_ok a r m e h = true≢false (ap (λ i. went i) (sym e ∙ h))

not_none : (p : ℕ) (o : Option ℕ) → o ≡ Some p → o ≡ None → ⊥
not_none p o e h = let s : Some p ≡ None = sym e ∙ h in cc

-- the least pending point of a stage is one
point_same : (v w : Walk) (p q : ℕ) → v ≡ w → least v.pending ≡ Some p → least w.pending ≡ Some q → p ≡ q
point_same v w p q e h k = same_Some p q (sym h ∙ (ap (λ (i : Walk). least i.pending) e ∙ k))

moved : (g : Graph) (callback : ℕ) (v w : Walk) (p q : ℕ) (m : Result Walk Rule) → v ≡ w → p ≡ q →
    look g callback p (taken v p) ≡ m → look g callback q (taken w q) ≡ m
moved g callback v w p q m e h k = subst (λ i. look g callback i (taken w i) ≡ m) h (subst (λ i. look g callback p (taken i p) ≡ m) e k)

same_stage : (g : Graph) (callback n : ℕ) (a b c : Walk) → Leads g callback n a b → Leads g callback n a c → b ≡ c
same_stage g callback zero a b c x y = sym x ∙ y
same_stage g callback (suc n) a b c x y =
    let e = same_stage g callback n a x.0 y.0 x.1 y.1 in
    let p = point_same x.0 y.0 x.2 y.2 e x.3 y.3 in
    ok_same b c _ (moved g callback x.0 y.0 x.2 y.2 (Ok b) e p x.4) y.4

-- a stage before another, with its look
pub record Before (g : Graph) (callback n : ℕ) (a : Walk) : Type 0 where
  pub stage : Walk
  pub led : Leads g callback n a stage
  pub point : ℕ
  pub least_point : least stage.pending ≡ Some point
  pub next : Walk
  pub looked : look g callback point (taken stage point) ≡ Ok next

stage_before : (g : Graph) (callback m n : ℕ) (a c : Walk) → n < m → Leads g callback m a c → Before g callback n a
stage_before g callback zero n a c l x = absurd (omega arith)
stage_before g callback (suc m) n a c l x = by_place (cases_lt n m) (λ k. stage_before g callback m n a x.0 k x.1)
  where
    by_place : ((n < m) ⊎ (m ≤ n)) → (n < m → Before g callback n a) → Before g callback n a
    by_place (inl k) f = f k
    by_place (inr k) f =
        let same : m ≡ n = omega arith in
        record { stage = x.0; led = subst (λ i. Leads g callback i a x.0) same x.1; point = x.2; least_point = x.3; next = c; looked = x.4 }

-- a walk that stops after so many looks has no later stage
no_later : (g : Graph) (callback point m : ℕ) (rule : Rule) (c : Walk) (s : Stops g callback point rule) → s.looks < m →
    Leads g callback m (opening g callback) c → ⊥
no_later g callback point m rule c s l x =
    let b = stage_before g callback m s.looks (opening g callback) c l x in
    let e = same_stage g callback s.looks (opening g callback) b.stage s.last b.led s.led in
    let p = point_same b.stage s.last b.point point e b.least_point s.taken_next in
    not_ok b.next rule _ (moved g callback b.stage s.last b.point point (Ok b.next) e p b.looked) s.stopped

stops_once : (g : Graph) (callback p q : ℕ) (r t : Rule) → Stops g callback p r → Stops g callback q t → (p ≡ q) × (r ≡ t)
stops_once g callback p q r t a b = by_order (cases_order a.looks b.looks)
  where
    by_order : ((a.looks ≡ b.looks) ⊎ ((a.looks < b.looks) ⊎ (b.looks < a.looks))) → (p ≡ q) × (r ≡ t)
    by_order (inl s) =
        let e = same_stage g callback b.looks (opening g callback) a.last b.last
        (subst (λ i. Leads g callback i (opening g callback) a.last) s a.led) b.led in
        let same = point_same a.last b.last p q e a.taken_next b.taken_next in
        (same, err_same r t _ (moved g callback a.last b.last p q (Err r) e same a.stopped) b.stopped)
    by_order (inr (inl l)) = absurd (no_later g callback p b.looks r b.last a l b.led)
    by_order (inr (inr l)) = absurd (no_later g callback q a.looks t a.last b l a.led)

not_both_ends : (g : Graph) (callback p : ℕ) (r : Rule) → Stops g callback p r → Ends g callback → ⊥
not_both_ends g callback p r a b = by_order (cases_order a.looks b.looks)
  where
    by_order : ((a.looks ≡ b.looks) ⊎ ((a.looks < b.looks) ⊎ (b.looks < a.looks))) → ⊥
    by_order (inl s) =
        let e = same_stage g callback b.looks (opening g callback) a.last b.last
        (subst (λ i. Leads g callback i (opening g callback) a.last) s a.led) b.led in
        not_none p (least a.last.pending) a.taken_next (ap (λ (i : Walk). least i.pending) e ∙ b.none)
    by_order (inr (inl l)) = no_later g callback p b.looks r b.last a l b.led
    by_order (inr (inr l)) =
        let c = stage_before g callback a.looks b.looks (opening g callback) a.last l a.led in
        let e = same_stage g callback b.looks (opening g callback) c.stage b.last c.led b.led in
        not_none c.point (least c.stage.pending) c.least_point (ap (λ (i : Walk). least i.pending) e ∙ b.none)

abbrev told : ℕ → ℕ → ℕ → Rule → Refusal
told callback point line rule = record { callback = callback; point = point; line = line; rule = rule }

same_fault : (f h : Refusal) → f.callback ≡ h.callback → f.point ≡ h.point → f.line ≡ h.line → f.rule ≡ h.rule → f ≡ h
same_fault f h a b c d = let s : told f.callback f.point f.line f.rule ≡ told h.callback h.point h.line h.rule = cc in s

first_once : (g : Graph) (f h : Refusal) → IsFirstFault g f → IsFirstFault g h → f ≡ h
first_once g f h a b = by_order (cases_order f.callback h.callback)
  where
    by_order : ((f.callback ≡ h.callback) ⊎ ((f.callback < h.callback) ⊎ (h.callback < f.callback))) → f ≡ h
    by_order (inl s) =
        let both = stops_once g h.callback f.point h.point f.rule h.rule (subst (λ i. Stops g i f.point f.rule) s a.stops) b.stops in
        let line = a.line ∙ (ap (λ i. line_at g i f.point) s ∙ (ap (λ i. line_at g h.callback i) both.0 ∙ sym b.line)) in
        same_fault f h s both.0 line both.1
    by_order (inr (inl l)) = absurd (not_both_ends g f.callback f.point f.rule a.stops (b.earlier f.callback l))
    by_order (inr (inr l)) = absurd (not_both_ends g h.callback h.point h.rule b.stops (a.earlier h.callback l))

lacks_once : (g : Graph) (f h : Refusal) → LacksRoom g f → LacksRoom g h → f ≡ h
lacks_once g f h a b = same_fault f h (a.callback ∙ sym b.callback) (a.point ∙ sym b.point) (a.line ∙ sym b.line) (a.rule ∙ sym b.rule)

-- two faults that the order of the walk names are one
pub named_once : (g : Graph) (f h : Refusal) → IsNamed g f → IsNamed g h → f ≡ h
named_once g f h (inl a) (inl b) = lacks_once g f h a b
named_once g f h (inl a) (inr b) = absurd (a.room b.0)
named_once g f h (inr a) (inl b) = absurd (b.room a.0)
named_once g f h (inr a) (inr b) = first_once g f h a.1 b.1
