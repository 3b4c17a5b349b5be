use Rattle.std.proofs.Common.{ap, ◌∙◌}
use Rattle.flt_c_drift.specs.Wrappers.{wrapped_by}
use Rattle.flt_c_drift.proofs.Wrapped.{found_of}
use Rattle.flt_c_drift.proofs.wrapper.Wrappers.wrapped_by.Goals as goal

pub returns : goal.returns
returns c =
    c.copied.ensures ∙ c.get.ensures.value ∙ found_of c.args.word.now c.self.inside.calls.entries
    ∙ ap (λ ws. wrapped_by ws c.args.word.now) c.self.view_is
