use Rattle.std.proofs.Common.{◌≡◌, ◌++◌, ◌∙◌}
use Rattle.std.proofs.lemmas.Bool.{eqb-true, eq-eqb}
use Rattle.std.proofs.lemmas.Slice.Eq.{strip_prefix_is}
use Rattle.flt_model.proofs.OperationSteps.{next_byte, not_begun}
use Rattle.flt_model.proofs.lines.begins.Goals as goal

pub returns-in-Some-len1-up : goal.returns-in-Some-len1-up
returns-in-Some-len1-up c =
    let split : c.as_bytes.result.now ≡ c.args.front.now ++ c.in-Some-len1-up.field-0.now =
    rw c.in-Some-len1-up.is at (strip_prefix_is (λ a b. (eqb-true a b, eq-eqb a b)) c.as_bytes.result.now c.args.front.now
    c.strip_prefix.result c.strip_prefix.ensures.cases) in
    next_byte c.args.operation c.as_bytes.result.now c.args.front.now c.in-Some-len1-up.field-0.now c.args.next
    (c.as_bytes.ensures.value ∙ c.name.ensures) split c.in-Some-len1-up.len_at_least

pub returns-in-None : goal.returns-in-None
returns-in-None c =
    not_begun c.args.operation c.as_bytes.result.now c.args.front.now c.args.next (c.as_bytes.ensures.value ∙ c.name.ensures)
    (rw c.in-None.is at (strip_prefix_is (λ a b. (eqb-true a b, eq-eqb a b)) c.as_bytes.result.now c.args.front.now c.strip_prefix.result
    c.strip_prefix.ensures.cases))
