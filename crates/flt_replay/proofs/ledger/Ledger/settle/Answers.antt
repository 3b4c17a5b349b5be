use Rattle.std.proofs.Common.{subst}
use Rattle.flt_model.specs.declared.event.Event.TheVariants.{Settle}
use Rattle.flt_replay.proofs.Counting.Noting.{settled_visit}
use Rattle.flt_replay.specs.Ledger.{Tally, Tells, IsCounted, Noted}
use Rattle.flt_replay.specs.contracts.ledger.Ledger.{the_view}
use Rattle.flt_replay.proofs.ledger.Ledger.settle.Goals as goal

pub returns : goal.returns
returns c = λ t.
    let old : Tally = the_view c.self.inside in
    let notes : Tally → Type 0 = λ was. Tells t was → IsCounted was →
    Noted t (Settle c.args.visit) was (record old { settled = c.add.new.self }) c.args.touched.now.items c.list_visit.new.touched.items in
    subst notes c.self.view_is (λ k counted. settled_visit t old c.args.touched.now.items k counted c.args.visit
    c.list_visit.new.touched.items c.in_ok-list_visit.ensures c.add.new.self c.in_ok-add.ensures.ok)
