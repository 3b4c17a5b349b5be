use Rattle.flt_model.proofs.LinePartLaws.{reads_spelled_number, reads_number_again}
use Rattle.flt_model.proofs.line_parts.read_number.Goals as goal

pub returns-clause-spelled : goal.returns-clause-spelled
returns-clause-spelled g c = reads_spelled_number c.args.word.now (g.R.Source.coming c.args.reader.now) c.numbered.result
    (g.R.Source.coming c.numbered.new.reader) c.numbered.ensures.read

pub returns-clause-read : goal.returns-clause-read
returns-clause-read g c = reads_number_again c.args.word.now (g.R.Source.coming c.args.reader.now) c.numbered.result
    (g.R.Source.coming c.numbered.new.reader) c.numbered.ensures.read
