use Rattle.flt_starts.proofs.Beginning.{Spending, one, none}
use Rattle.flt_starts.proofs.laws.starts_are_told.Goals as goal

pub returns : goal.returns
returns c =
    let h : Spending = record { hidden = c.steps_spend.ensures.hidden; seen = c.steps_spend.ensures.seen } in
    record { one = one h; none = none h }
