-- There is one least fault at most.
use Rattle.std.proofs.Common.{◌≡◌, ◌<◌, ℕ, sym, ap, ◌∙◌, inl, inr}
use Rattle.std.proofs.Math.Path.{subst}
use Rattle.std.specs.Prelude.{◌⊎◌}
use Rattle.std.proofs.lemmas.Bool.{cases_order, true≢false}
use Rattle.std.proofs.lemmas.Option.{same_Some, none-some}
use Rattle.flt_rules.specs.declared.rule.Rule.{Rule}
use Rattle.flt_graph.specs.Graph.{line_at}
use Rattle.flt_graph.specs.declared.graph.Graph.{Graph}
use Rattle.flt_cert.specs.Format.{Certificate}
use Rattle.flt_check.specs.Checker.{point_fault, IsCountFault, IsFirstPoint, IsCountRefusal, IsPointRefusal, IsLeastFault}
use Rattle.flt_rules.specs.declared.refusal.Refusal.{Refusal}
use Rattle.flt_check.proofs.Covering.{count_fault_not}

abbrev told : ℕ → ℕ → ℕ → Rule → Refusal
told callback point line rule = record { callback = callback; point = point; line = line; rule = rule }

same_fault : (f h : Refusal) → f.callback ≡ h.callback → f.point ≡ h.point → f.line ≡ h.line → f.rule ≡ h.rule → f ≡ h
same_fault f h a b c d = let s : told f.callback f.point f.line f.rule ≡ told h.callback h.point h.line h.rule = cc in s

-- ---- counts

same_count : (g : Graph) (k : Certificate) (a b : ℕ) → IsCountFault g k a → IsCountFault g k b → a ≡ b
same_count g k a b (inr x) (inr y) = x.last ∙ sym y.last
same_count g k a b (inl x) (inr y) = absurd (true≢false (sym x.here ∙ y.none a x.within))
same_count g k a b (inr x) (inl y) = absurd (true≢false (sym y.here ∙ x.none b y.within))
same_count g k a b (inl x) (inl y) = by_order (cases_order a b)
  where
    by_order : ((a ≡ b) ⊎ ((a < b) ⊎ (b < a))) → a ≡ b
    by_order (inl s) = s
    by_order (inr (inl l)) = absurd (true≢false (sym x.here ∙ y.earlier a l))
    by_order (inr (inr l)) = absurd (true≢false (sym y.here ∙ x.earlier b l))

counts_once : (g : Graph) (k : Certificate) (f h : Refusal) → IsCountRefusal g k f → IsCountRefusal g k h → f ≡ h
counts_once g k f h a b =
    let callback = same_count g k f.callback h.callback a.callback b.callback in
    same_fault f h callback (a.point ∙ sym b.point) (a.line ∙ ap (λ i. line_at g i 0) callback ∙ sym b.line) (a.rule ∙ sym b.rule)

-- ---- points

same_point : (g : Graph) (k : Certificate) (callback p q : ℕ) (r s : Rule) → IsFirstPoint g k callback p r →
    IsFirstPoint g k callback q s → p ≡ q
same_point g k callback p q r s a b = by_order (cases_order p q)
  where
    by_order : ((p ≡ q) ⊎ ((p < q) ⊎ (q < p))) → p ≡ q
    by_order (inl e) = e
    by_order (inr (inl l)) = absurd (none-some r (sym (b.earlier p l) ∙ a.broken))
    by_order (inr (inr l)) = absurd (none-some s (sym (a.earlier q l) ∙ b.broken))

points_once : (g : Graph) (k : Certificate) (f h : Refusal) → IsPointRefusal g k f → IsPointRefusal g k h → f ≡ h
points_once g k f h a b = by_order (cases_order f.callback h.callback)
  where
    by_order : ((f.callback ≡ h.callback) ⊎ ((f.callback < h.callback) ⊎ (h.callback < f.callback))) → f ≡ h
    by_order (inl s) =
        let here = subst (λ i. IsFirstPoint g k i f.point f.rule) s a.point in
        let point = same_point g k h.callback f.point h.point f.rule h.rule here b.point in
        let line = a.line ∙ ap (λ i. line_at g i f.point) s ∙ ap (λ p. line_at g h.callback p) point ∙ sym b.line in
        let rule = same_Some f.rule h.rule (sym here.broken ∙ ap (λ p. point_fault g k h.callback p) point ∙ b.point.broken) in
        same_fault f h s point line rule
    by_order (inr (inl l)) = absurd (none-some f.rule (sym (b.earlier f.callback l f.point a.point.within) ∙ a.point.broken))
    by_order (inr (inr l)) = absurd (none-some h.rule (sym (a.earlier h.callback l h.point b.point.within) ∙ b.point.broken))

-- ---- both

-- two least faults are one
pub least_once : (g : Graph) (k : Certificate) (f h : Refusal) → IsLeastFault g k f → IsLeastFault g k h → f ≡ h
least_once g k f h (inl a) (inl b) = counts_once g k f h a b
least_once g k f h (inl a) (inr b) = absurd (count_fault_not g k f.callback a.callback b.counts)
least_once g k f h (inr a) (inl b) = absurd (count_fault_not g k h.callback b.callback a.counts)
least_once g k f h (inr a) (inr b) = points_once g k f h a b
