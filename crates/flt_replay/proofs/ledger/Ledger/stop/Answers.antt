use Rattle.std.proofs.Common.{◌≡◌, false, get_or, subst, sym, ◌∙◌}
use Rattle.flt_replay.proofs.Counting.Holders.{stopped_on}
use Rattle.flt_replay.specs.Ledger.{Tally, Stopped}
use Rattle.flt_replay.specs.contracts.ledger.Ledger.{the_view}
use Rattle.flt_replay.proofs.ledger.Ledger.stop.Goals as goal

pub returns : goal.returns
returns c =
    let old : Tally = the_view c.self.inside in
    let was = c.args.touched.now.items in
    let now = c.list.new.numbers.items in
    let on = subst (λ (before : Tally). c.is_running.result ≡ get_or before.running c.args.a false)
    (sym c.self.view_is) c.is_running.ensures in
    let stopped = stopped_on old c.args.a was now c.in_ok-list.ensures c.take_from.new.holders
    (sym on ∙ c.if-not-is_running.false) c.in_ok-take_from.ensures in
    let ended = subst (λ (after : Tally). Stopped c.args.a old after was now) (sym c.set_ended.ensures) stopped in
    subst (λ (before : Tally). Stopped c.args.a before c.set_ended.new.self was now) c.self.view_is ended
