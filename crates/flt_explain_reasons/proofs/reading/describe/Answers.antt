use Rattle.std.specs.Prelude.{option_map}
use Rattle.flt_model.specs.Program.{filters_of}
use Rattle.flt_explain_reasons.proofs.reading.describe.Goals as goal

pub returns-in-Certificate : goal.returns-in-Certificate
returns-in-Certificate c =
    rw c.in-Certificate.is (c.of_certificate.ensures (option_map (λ trees. filters_of trees.now) c.args.stack))

pub returns-in-Journal : goal.returns-in-Journal
returns-in-Journal c = rw c.in-Journal.is (c.of_journal.ensures (option_map (λ trees. filters_of trees.now) c.args.stack))
