-- There is one least fault of a thin certificate at most.
use Rattle.std.proofs.Common.{◌≡◌, ◌<◌, ℕ, sym, ap, ◌∙◌, subst, inl, inr}
use Rattle.std.specs.Prelude.{◌⊎◌}
use Rattle.std.proofs.lemmas.Bool.{cases_order}
use Rattle.flt_rules.specs.declared.rule.Rule.{Rule}
use Rattle.flt_graph.specs.Graph.{line_at}
use Rattle.flt_graph.specs.declared.graph.Graph.{Graph}
use Rattle.flt_cert.specs.Format.{Certificate}
use Rattle.flt_check.specs.Checker.{IsLeastFault}
use Rattle.flt_rules.specs.declared.refusal.Refusal.{Refusal}
use Rattle.flt_cert.specs.Thin.{Thin}
use Rattle.flt_check.specs.Full.{full}
use Rattle.flt_check.specs.ThinCovering.{GivesKept}
use Rattle.flt_check.specs.ThinFault.{IsFirstOther, IsKeptRefusal, IsThinFault}
use Rattle.flt_check.proofs.Thin.Accepted.{count_fault_not}

abbrev told : ℕ → ℕ → ℕ → Rule → Refusal
told callback point line rule = record { callback = callback; point = point; line = line; rule = rule }

same_fault : (f h : Refusal) → f.callback ≡ h.callback → f.point ≡ h.point → f.line ≡ h.line → f.rule ≡ h.rule → f ≡ h
same_fault f h a b c d = let s : told f.callback f.point f.line f.rule ≡ told h.callback h.point h.line h.rule = cc in s

same_point : (g : Graph) (t : Thin) (callback p q : ℕ) → IsFirstOther g t callback p → IsFirstOther g t callback q → p ≡ q
same_point g t callback p q a b = by_order (cases_order p q)
  where
    by_order : ((p ≡ q) ⊎ ((p < q) ⊎ (q < p))) → p ≡ q
    by_order (inl e) = e
    by_order (inr (inl l)) = absurd (a.other (b.earlier p l))
    by_order (inr (inr l)) = absurd (b.other (a.earlier q l))

kept_once : (g : Graph) (t : Thin) (f h : Refusal) → IsKeptRefusal g t f → IsKeptRefusal g t h → f ≡ h
kept_once g t f h a b = by_order (cases_order f.callback h.callback)
  where
    by_order : ((f.callback ≡ h.callback) ⊎ ((f.callback < h.callback) ⊎ (h.callback < f.callback))) → f ≡ h
    by_order (inl s) =
        let here = subst (λ i. IsFirstOther g t i f.point) s a.point in
        let point = same_point g t h.callback f.point h.point here b.point in
        let line = a.line ∙ ap (λ i. line_at g i f.point) s ∙ ap (λ p. line_at g h.callback p) point ∙ sym b.line in
        same_fault f h s point line (a.rule ∙ sym b.rule)
    by_order (inr (inl l)) = absurd (a.point.other (b.earlier f.callback l f.point a.point.within))
    by_order (inr (inr l)) = absurd (b.point.other (a.earlier h.callback l h.point b.point.within))

not_both : (g : Graph) (t : Thin) (f : Refusal) → IsKeptRefusal g t f → GivesKept g t → ⊥
not_both g t f a kept = a.point.other (kept f.callback a.callback f.point a.point.within)

-- two least faults of a thin certificate are one
pub thin_fault_once : ((g : Graph) (k : Certificate) (f h : Refusal) → IsLeastFault g k f → IsLeastFault g k h → f ≡ h) →
    (g : Graph) (t : Thin) (f h : Refusal) → IsThinFault g t f → IsThinFault g t h → f ≡ h
thin_fault_once one g t f h (inl a) (inl b) = one g (full g t) f h (inl a) (inl b)
thin_fault_once one g t f h (inl a) (inr (inl b)) = absurd (count_fault_not g (full g t) f.callback a.callback b.counts)
thin_fault_once one g t f h (inl a) (inr (inr b)) = one g (full g t) f h (inl a) (inr b.1)
thin_fault_once one g t f h (inr (inl a)) (inl b) = absurd (count_fault_not g (full g t) h.callback b.callback a.counts)
thin_fault_once one g t f h (inr (inl a)) (inr (inl b)) = kept_once g t f h a b
thin_fault_once one g t f h (inr (inl a)) (inr (inr b)) = absurd (not_both g t f a b.0)
thin_fault_once one g t f h (inr (inr a)) (inl b) = one g (full g t) f h (inr a.1) (inl b)
thin_fault_once one g t f h (inr (inr a)) (inr (inl b)) = absurd (not_both g t h b a.0)
thin_fault_once one g t f h (inr (inr a)) (inr (inr b)) = one g (full g t) f h (inr a.1) (inr b.1)
