use Rattle.flt_model.proofs.LinePartLaws.{reads_spelled_move, reads_move_again}
use Rattle.flt_model.proofs.line_parts.read_move.Goals as goal

pub returns-clause-spelled : goal.returns-clause-spelled
returns-clause-spelled g c = reads_spelled_move c.args.first (g.R.Source.coming c.args.reader.now) c.move_by.result
    (g.R.Source.coming c.move_by.new.reader) c.move_by.ensures.read

pub returns-clause-read : goal.returns-clause-read
returns-clause-read g c = reads_move_again c.args.first (g.R.Source.coming c.args.reader.now) c.move_by.result
    (g.R.Source.coming c.move_by.new.reader) c.move_by.ensures.read
