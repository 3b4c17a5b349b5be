-- Findings with the refusal in front are what `AreFindings` says.
use Rattle.std.proofs.Common.{◌≡◌, ℕ, ◌-◌, List, [], Option, Some, None, length, refl, sym, ap, subst, ◌∙◌}
use Rattle.std.specs.List.{position}
use Rattle.flt_graph.specs.declared.graph.Graph.{Graph}
use Rattle.flt_rules.specs.declared.refusal.Refusal.{Refusal}
use Rattle.flt_explain.specs.Findings.{Answers, IsRefused, is_refusal, with_in_front, with_first, found_from, AreFindings}
use Rattle.flt_explain.specs.Walk.{walked_from}
use Rattle.flt_explain.specs.declared.finding.Finding.{Finding}

-- where the analyser's answer is a refusal
pub are_findings : (g : Graph) (answer : Option Refusal) (f : Refusal) (found all : List Finding) → Answers g answer → answer ≡ Some f →
    found ≡ walked_from g f.callback (length g.callbacks - f.callback) [] → all ≡ with_first f found → AreFindings g all
unfolding with_first found_from
are_findings g answer f found all answers is e a = subst (λ hs. AreFindings g hs) (sym a) (by (position (is_refusal f) found) refl)
  where
    refused : IsRefused g f
    refused = subst (λ o. Answers g o) is answers

    same : (o : Option ℕ) → position (is_refusal f) found ≡ o → with_in_front f found o ≡ found_from g f
    same o q = sym (ap (λ x. with_in_front f found x) q) ∙ ap (λ fs. with_first f fs) e

    by : (o : Option ℕ) → position (is_refusal f) found ≡ o → AreFindings g (with_in_front f found o)
    by (Some p) q = (refused, same (Some p) q)
    by None q = (refused, same None q)
