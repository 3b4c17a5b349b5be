use Rattle.flt_c_drift.specs.Reading.{state_in}
use Rattle.flt_c_drift.proofs.OverRuns.{letter_taken}
use Rattle.flt_c_drift.proofs.reader.Reader.take_as.Goals as goal

pub returns : goal.returns
returns c =
    letter_taken c.args.at c.args.part c.args.b (state_in c.args.self.now) (state_in c.ended.new.self) (state_in c.turn_unless_on.new.self)
    (state_in c.grow.new.self) c.pass_line.new.line c.pass_code.new.code
    c.in_ok-ended.ensures c.in_ok-turn_unless_on.ensures c.in_ok-grow.ensures c.pass_line.ensures c.pass_code.ensures
