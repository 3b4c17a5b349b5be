use Rattle.flt_replay.proofs.Counting.Following.{still}
use Rattle.flt_replay.proofs.ledger.Ledger.follow_any_ends.Goals as goal

pub returns-else-ends : goal.returns-else-ends
returns-else-ends c = λ h. still c.args.events.now c.args.self.now c.args.touched.now.items (h c.if-ends.false)
