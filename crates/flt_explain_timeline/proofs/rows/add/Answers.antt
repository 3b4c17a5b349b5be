use Rattle.std.proofs.Common.{sym, ◌∙◌}
use Rattle.flt_explain_timeline.proofs.Cuts.{cut, joined}
use Rattle.flt_explain_timeline.proofs.rows.add.Goals as goal

pub returns-then-joins-clause-exact : goal.returns-then-joins-clause-exact
returns-then-joins-clause-exact c =
    λ whos. joined c.args.rows.now c.args.row c.args.last c.args.next whos (sym c.joins.ensures ∙ c.if-joins.true)

pub returns-clause-exact : goal.returns-clause-exact
returns-clause-exact c = λ whos.
    cut c.args.rows.now c.push.new.self c.args.row c.args.last c.args.next whos
    (sym c.joins.ensures ∙ c.if-joins.false) c.in_ok-push.ensures.ok
