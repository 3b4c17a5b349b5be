use Rattle.std.proofs.Common.{sym, ◌∙◌}
use Rattle.flt_c_drift.specs.Reading.{state_in}
use Rattle.flt_c_drift.proofs.GoingOn.{turn_stays}
use Rattle.flt_c_drift.proofs.reader.Reader.turn_unless_on.Goals as goal

pub returns-then-goes_on : goal.returns-then-goes_on
returns-then-goes_on c =
    sym (turn_stays c.args.at c.args.part c.args.b (state_in c.args.self.now) (sym c.goes_on.ensures ∙ c.if-goes_on.true))
