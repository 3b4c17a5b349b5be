use Rattle.std.proofs.Common.{◌<◌, subst, sym}
use Rattle.flt_model.specs.declared.event.Event.TheVariants.{Lose}
use Rattle.flt_model.specs.declared.event.Object.{Object}
use Rattle.flt_model.specs.declared.event.Object.TheVariants.{Context}
use Rattle.flt_replay.proofs.Counting.Noting.{lost_context, lost_visit}
use Rattle.flt_replay.specs.Ledger.{Tally, Tells, IsCounted, Noted, held}
use Rattle.flt_replay.specs.contracts.ledger.Ledger.{the_view}
use Rattle.flt_replay.proofs.ledger.Ledger.lose.Goals as goal

pub returns-in-Context : goal.returns-in-Context
returns-in-Context c = λ t.
    let old : Tally = the_view c.self.inside in
    let listed = c.args.touched.now.items in
    let of : Object → Type 0 = λ o. Tells t c.args.self.now → IsCounted c.args.self.now → 0 < held c.args.self.now c.args.a o →
    Noted t (Lose c.args.a o) c.args.self.now (record old { contexts = c.take.new.self }) listed listed in
    let notes : Tally → Type 0 = λ was. Tells t was → IsCounted was → 0 < held was c.args.a (Context c.in-Context.context) →
    Noted t (Lose c.args.a (Context c.in-Context.context)) was (record old { contexts = c.take.new.self }) listed listed in
    subst of (sym c.in-Context.is) (subst notes c.self.view_is
    (λ k counted some. lost_context t old listed k counted c.args.a c.in-Context.context c.take.new.self (c.take.ensures some)))

pub returns-in_ok-list_visit-in-Visit : goal.returns-in_ok-list_visit-in-Visit
returns-in_ok-list_visit-in-Visit c = λ t k counted.
    let of : Object → Type 0 = λ o. 0 < held c.args.self.now c.args.a o →
    Noted t (Lose c.args.a o) c.args.self.now c.lose_visit.new.self c.args.touched.now.items c.list_visit.new.touched.items in
    subst of (sym c.in-Visit.is)
    (λ some. lost_visit t c.args.self.now c.args.touched.now.items k counted c.in-Visit.visit c.list_visit.new.touched.items
    c.in_ok-list_visit-in-Visit.ensures
    c.args.a c.lose_visit.new.self (c.lose_visit.ensures.turned some counted) (c.lose_visit.ensures.visits some))
