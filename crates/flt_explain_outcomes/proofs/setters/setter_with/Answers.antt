use Rattle.std.proofs.Common.{◌++◌, ◌+◌, ◌∙◌, ap, string_bytes}
use Rattle.flt_explain_outcomes.specs.Setters.{ended, line_ends}
use Rattle.flt_explain_outcomes.proofs.Runs.{goes_more, setter_is}
use Rattle.flt_explain_outcomes.proofs.setters.setter_with.Goals as goal

pub returns : goal.returns
returns c =
    setter_is c.args.text.now c.extend_from_slice.new.self.items (string_bytes c.args.added)
    (c.line_ends-line.result + 1) c.in_ok-judged.judged c.in_ok-setter.setter
    (goes_more c.args.text.now c.in_ok-whole.whole.items c.extend_from_slice.new.self.items c.as_bytes.result.now c.in_ok-whole.ensures.on
    c.in_ok-extend_from_slice.ensures.items)
    (c.in_ok-extend_from_slice.ensures.items ∙ ap (λ z. z ++ c.as_bytes.result.now) c.in_ok-whole.ensures.ended
    ∙ ap (λ z. ended c.args.text.now ++ z) c.as_bytes.ensures.value)
    (ap (λ n. n + 1) (c.line_ends-line.ensures.ends ∙ ap line_ends (c.as_slice.ensures.value ∙ c.in_ok-whole.ensures.ended)))
    (rw c.deref.ensures.value at c.in_ok-judged.ensures) c.in_ok-setter.ensures.tree c.in_ok-setter.ensures.lines
