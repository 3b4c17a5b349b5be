use Rattle.flt_model.proofs.JournalLaws.{reads_spelled, reads_journal, reads_all, reads_again, reads_fault}
use Rattle.flt_model.proofs.reader.read.Goals as goal

pub returns-clause-spelled : goal.returns-clause-spelled
returns-clause-spelled g c = reads_spelled (g.R.Source.coming c.args.reader.now) c.journal.result
    (g.R.Source.coming c.journal.new.reader) c.journal.ensures.read

pub returns-clause-journal : goal.returns-clause-journal
returns-clause-journal g c = reads_journal (g.R.Source.coming c.args.reader.now) c.journal.result
    (g.R.Source.coming c.journal.new.reader) c.journal.ensures.read

pub returns-clause-all : goal.returns-clause-all
returns-clause-all g c = reads_all (g.R.Source.coming c.args.reader.now) c.journal.result
    (g.R.Source.coming c.journal.new.reader) c.journal.ensures.read

pub returns-clause-read : goal.returns-clause-read
returns-clause-read g c = reads_again (g.R.Source.coming c.args.reader.now) c.journal.result
    (g.R.Source.coming c.journal.new.reader) c.journal.ensures.read

pub returns-clause-fault : goal.returns-clause-fault
returns-clause-fault g c = reads_fault (g.R.Source.coming c.args.reader.now) c.journal.result
    (g.R.Source.coming c.journal.new.reader) c.journal.ensures.read
