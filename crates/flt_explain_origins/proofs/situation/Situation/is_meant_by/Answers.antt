use Rattle.flt_explain_origins.proofs.Singles.{means_below}
use Rattle.flt_explain_origins.proofs.situation.Situation.is_meant_by.Goals as goal

pub returns : goal.returns
returns c = λ h. means_below c.args.self.now c.state.result.now c.args.state.now c.state.ensures (c.leq.ensures.meaning.0 h)
