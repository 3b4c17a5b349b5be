-- The findings that are reported by themselves are the firsts of the groups.
use Rattle.std.proofs.Common.{◌≡◌, ◌<◌, ◌+◌, ℕ, List, [], ◌∷◌, ◌++◌, get_or, length, map, take, refl, ap, sym, subst, ◌∙◌}
use Rattle.std.proofs.lemmas.List.{map_more}
use Rattle.flt_explain.specs.declared.finding.Finding.{Finding}
use Rattle.flt_graph.specs.declared.graph.Graph.{Graph}
use Rattle.flt_explain_origins.specs.declared.grouping.Group.{Group}
use Rattle.flt_explain_ways.specs.declared.tracing.Traces.{Traces}
use Rattle.flt_explain_ways.proofs.Covering.{are_firsts, number_of}
use Rattle.flt_explain_ways.specs.Covering.{AreFirsts}
use Rattle.flt_explain_ways.specs.Reported.{AreReportedBy, numbers_of, reported_of}
use Rattle.flt_explain_ways.specs.declared.reported.ReportedFinding.{ReportedFinding}

numbers_are : (traces : Traces) (groups : List Group) → numbers_of (map (reported_of traces) groups) ≡ map number_of groups
numbers_are traces [] = refl
numbers_are traces (x ∷ groups) = ap (λ ns. x.first.number ∷ ns) (numbers_are traces groups)

-- they are findings to which all others are akin
pub reported_are_firsts : (g : Graph) (found : List Finding) (traces : Traces) (all : List ReportedFinding) →
    AreReportedBy g found traces all →
    AreFirsts found (numbers_of all)
reported_are_firsts g found traces all are =
    let numbers : numbers_of all ≡ map number_of traces.groups = ap numbers_of are.each ∙ numbers_are traces traces.groups in
    subst (AreFirsts found) (sym (numbers ∙ ap (map number_of) are.traced.groups)) (are_firsts found traces.shown)

-- one group more
pub one_more : (traces : Traces) (i : ℕ) (one : Group) (all more : List ReportedFinding) → i < length traces.groups →
    one ≡ get_or traces.groups i one → all ≡ map (reported_of traces) (take i traces.groups) → more ≡ all ++ reported_of traces one ∷ [] →
    more ≡ map (reported_of traces) (take (i + 1) traces.groups)
one_more traces i one all more less is are added =
    added ∙ ap (λ xs. xs ++ reported_of traces one ∷ []) are
    ∙ ap (λ x. map (reported_of traces) (take i traces.groups) ++ reported_of traces x ∷ []) is
    ∙ sym (map_more (reported_of traces) traces.groups i one less)
