use Rattle.std.proofs.Common.{◌≡◌, false, get_or, subst, sym, ◌∙◌}
use Rattle.flt_replay.proofs.Counting.Holders.{gained_first, gained_again}
use Rattle.flt_replay.specs.Rows.{count_of}
use Rattle.flt_replay.specs.Ledger.{Tally, Turned, is_without}
use Rattle.flt_replay.specs.contracts.ledger.Ledger.{the_view}
use Rattle.flt_replay.proofs.ledger.Ledger.gain_visit.Goals as goal

pub returns-then-not-first-clause-turned : goal.returns-then-not-first-clause-turned
returns-then-not-first-clause-turned c =
    let old : Tally = the_view c.self.inside in
    let turns : Tally → Type 0 = λ was. c.is_without-first.result ≡ is_without (get_or was.running c.args.a false)
    (count_of was.visits c.args.a c.args.visit) → Turned was (record old { visits = c.add.new.self }) in
    subst turns c.self.view_is
    (λ e. gained_again old c.args.a c.args.visit c.add.new.self c.in_ok-add.ensures.ok (sym e ∙ c.if-not-first.true))
    c.is_without-first.ensures

pub returns-clause-turned : goal.returns-clause-turned
returns-clause-turned c =
    let old : Tally = the_view c.self.inside in
    let turns : Tally → Type 0 = λ was. c.is_without-first.result ≡ is_without (get_or was.running c.args.a false)
    (count_of was.visits c.args.a c.args.visit) → Turned was (record old { visits = c.add.new.self; holders = c.add-2.new.self }) in
    subst turns c.self.view_is
    (λ e. gained_first old c.args.a c.args.visit c.add.new.self c.add-2.new.self c.in_ok-add.ensures.ok
    (sym e ∙ c.if-not-first.false) c.in_ok-add-2.ensures.ok)
    c.is_without-first.ensures
