use Rattle.std.proofs.Common.{◌≡◌, ◌<◌, true, false, get_or, subst, sym, ◌∙◌}
use Rattle.std.proofs.lemmas.Bool.{and_parts}
use Rattle.std.specs.Prelude.{◌==◌}
use Rattle.flt_replay.proofs.Counting.Holders.{lost_last, some_holder}
use Rattle.flt_replay.specs.Rows.{count_of}
use Rattle.flt_replay.specs.Ledger.{Tally, IsCounted, Turned, is_without}
use Rattle.flt_replay.specs.contracts.ledger.Ledger.{the_view}
use Rattle.flt_replay.proofs.ledger.Ledger.lose_visit.Goals as goal

pub returns-clause-turned : goal.returns-clause-turned
returns-clause-turned c =
    let old : Tally = the_view c.self.inside in
    let last : is_without (get_or old.running c.args.a false) (count_of c.take.new.self c.args.a c.args.visit) ≡ true =
    sym c.is_without.ensures ∙ c.if-not-is_without.false in
    let on : get_or old.running c.args.a false ≡ true =
    (and_parts (count_of c.take.new.self c.args.a c.args.visit == 0) (get_or old.running c.args.a false) last).1 in
    let turns : Tally → Type 0 = λ was. 0 < count_of was.visits c.args.a c.args.visit → IsCounted was →
    Turned was (record old { visits = c.take.new.self; holders = c.take-2.new.self }) in
    subst turns c.self.view_is
    (λ some k. lost_last old c.args.a c.args.visit c.take.new.self c.take-2.new.self (c.take.ensures some) last
    (c.take-2.ensures (some_holder old c.args.a c.args.visit k on some)))
