use Rattle.std.proofs.Common.{◌≡◌, ◌+◌, true, false, sym, subst, ◌∙◌}
use Rattle.std.specs.Prelude.{is_some}
use Rattle.flt_rules.specs.Table.{row}
use Rattle.flt_graph.specs.Instruction.{roles}
use Rattle.flt_graph.specs.declared.instruction.Instruction.{Instruction}
use Rattle.flt_cert.specs.Counts.{AreCounts}
use Rattle.flt_graph.specs.Kept.{edge, edges_of}
use Rattle.flt_cert.proofs.Counted.{both_counted, fails_counted, granted_counted}
use Rattle.flt_cert.proofs.kept.count_edges.Goals as goal

pub returns-then-can_fail : goal.returns-then-can_fail
returns-then-can_fail c = λ many counts.
    let after = c.count_edge-then-can_fail.new.edges in
    let fails : is_some (row (roles c.in-Call.call).call).on_fail ≡ true = sym c.can_fail.ensures ∙ c.if-can_fail.true in
    subst (λ (i : Instruction). AreCounts after (λ p. many p + edges_of i p)) (sym c.in-Call.is)
    (fails_counted after many c.in-Call.granted c.in-Call.failed (row (roles c.in-Call.call).call).on_fail fails
    (c.count_edge-then-can_fail.ensures (λ p. many p + edge c.in-Call.granted p) (c.count_edge-in-Call.ensures many counts)))

pub returns-else-can_fail : goal.returns-else-can_fail
returns-else-can_fail c = λ many counts.
    let after = c.count_edge-in-Call.new.edges in
    let none : is_some (row (roles c.in-Call.call).call).on_fail ≡ false = sym c.can_fail.ensures ∙ c.if-can_fail.false in
    subst (λ (i : Instruction). AreCounts after (λ p. many p + edges_of i p)) (sym c.in-Call.is)
    (granted_counted after many c.in-Call.granted c.in-Call.failed (row (roles c.in-Call.call).call).on_fail none
    (c.count_edge-in-Call.ensures many counts))

pub returns-in-Test : goal.returns-in-Test
returns-in-Test c = λ many counts.
    let after = c.count_edge-in-Test-2.new.edges in
    subst (λ (i : Instruction). AreCounts after (λ p. many p + edges_of i p)) (sym c.in-Test.is)
    (both_counted after many (edge c.in-Test.granted) (edge c.in-Test.refused)
    (c.count_edge-in-Test-2.ensures (λ p. many p + edge c.in-Test.granted p) (c.count_edge-in-Test.ensures many counts)))

pub returns-in-Repeat : goal.returns-in-Repeat
returns-in-Repeat c = λ many counts.
    let after = c.count_edge-in-Repeat-2.new.edges in
    subst (λ (i : Instruction). AreCounts after (λ p. many p + edges_of i p)) (sym c.in-Repeat.is)
    (both_counted after many (edge c.in-Repeat.body) (edge c.in-Repeat.next)
    (c.count_edge-in-Repeat-2.ensures (λ p. many p + edge c.in-Repeat.body p) (c.count_edge-in-Repeat.ensures many counts)))
