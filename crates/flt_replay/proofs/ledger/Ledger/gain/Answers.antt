use Rattle.std.proofs.Common.{subst, sym}
use Rattle.flt_model.specs.declared.event.Event.TheVariants.{Gain}
use Rattle.flt_model.specs.declared.event.Object.{Object}
use Rattle.flt_model.specs.declared.event.Object.TheVariants.{Context}
use Rattle.flt_replay.proofs.Counting.Noting.{gained_context, gained_visit}
use Rattle.flt_replay.specs.Ledger.{Tally, Tells, IsCounted, Noted}
use Rattle.flt_replay.specs.contracts.ledger.Ledger.{the_view}
use Rattle.flt_replay.proofs.ledger.Ledger.gain.Goals as goal

pub returns-in_ok-add-in-Context : goal.returns-in_ok-add-in-Context
returns-in_ok-add-in-Context c = λ t.
    let old : Tally = the_view c.self.inside in
    let listed = c.args.touched.now.items in
    let of : Object → Type 0 = λ o. Tells t c.args.self.now → IsCounted c.args.self.now →
    Noted t (Gain c.args.a o) c.args.self.now (record old { contexts = c.add.new.self }) listed listed in
    let notes : Tally → Type 0 = λ was. Tells t was → IsCounted was →
    Noted t (Gain c.args.a (Context c.in-Context.context)) was (record old { contexts = c.add.new.self }) listed listed in
    subst of (sym c.in-Context.is) (subst notes c.self.view_is
    (λ k counted. gained_context t old listed k counted c.args.a c.in-Context.context c.add.new.self c.in_ok-add-in-Context.ensures))

pub returns-in_ok-gain_visit-in-Visit : goal.returns-in_ok-gain_visit-in-Visit
returns-in_ok-gain_visit-in-Visit c = λ t k counted.
    let of : Object → Type 0 = λ o. Noted t
    (Gain c.args.a o) c.args.self.now c.gain_visit.new.self c.args.touched.now.items c.list_visit.new.touched.items in
    subst of (sym c.in-Visit.is)
    (gained_visit t c.args.self.now c.args.touched.now.items k counted c.in-Visit.visit c.list_visit.new.touched.items
    c.in_ok-list_visit-in-Visit.ensures
    c.args.a c.gain_visit.new.self c.in_ok-gain_visit-in-Visit.ensures.turned c.in_ok-gain_visit-in-Visit.ensures.visits)
