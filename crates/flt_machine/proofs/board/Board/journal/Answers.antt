use Rattle.flt_machine.proofs.Costs.{runs_to, there_then, limited_there}
use Rattle.flt_machine.proofs.board.Board.journal.Goals as goal

pub returns-clause-started : goal.returns-clause-started
returns-clause-started c = λ p a own there.
    c.journals_stay_within_costs.ensures.started p c.args.self.now.entries own.moment a (runs_to p c.args.self.now own)
    (there_then p c.args.self.now a own there)

pub returns-clause-few : goal.returns-clause-few
returns-clause-few c = λ p a filter callback own starts.
    c.journals_stay_within_costs.ensures.few p c.args.self.now.entries own.moment a filter callback (runs_to p c.args.self.now own) starts

pub returns-clause-limited : goal.returns-clause-limited
returns-clause-limited c = λ l a own. limited_there c.journals_stay_within_costs.ensures.limited l c.args.self.now a own
