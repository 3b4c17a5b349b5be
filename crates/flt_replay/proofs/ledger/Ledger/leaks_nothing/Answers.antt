use Rattle.std.proofs.Common.{◌≡◌, ℕ, IsTrue, ◌↔◌, subst}
use Rattle.flt_replay.proofs.Counting.Tallies.{leaks_nothing_is}
use Rattle.flt_replay.specs.Holdings.{times_held}
use Rattle.flt_replay.specs.Ledger.{Tally}
use Rattle.flt_replay.proofs.ledger.Ledger.leaks_nothing.Goals as goal

pub returns : goal.returns
returns c = λ t k.
    let lets_go = subst (λ (tally : Tally). IsTrue c.is_empty.result ↔
    ((x : ℕ) → times_held tally.contexts c.args.a x ≡ 0)) c.self.view_is c.is_empty.ensures in
    leaks_nothing_is t c.args.self.now c.args.a c.is_empty.result k lets_go
