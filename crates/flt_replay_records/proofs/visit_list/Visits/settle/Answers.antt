use Rattle.std.proofs.Common.{◌≡◌, ◌<◌, true, false, List, length, get_or, sym, ap, ◌∙◌}
use Rattle.flt_model.specs.World.{Visit, no_visit}
use Rattle.flt_replay_records.proofs.VisitLinks.{settled_now, counted_unsettled}
use Rattle.flt_replay_records.proofs.visit_list.Visits.settle.Goals as goal

pub invariant_of-self-in-Some-get : goal.invariant_of-self-in-Some-get
invariant_of-self-in-Some-get c =
    let visits = c.self.inside.visits.items in
    let settled = c.self.inside.settled.items in
    let number = c.args.visit in
    let mark = c.in-Some.ensures.item.3 in
    let there = c.in-Some-get.ensures.lookup.3 in
    let within : number < length visits = rw (← c.deref.ensures.value) there.0 in
    let unsettled : get_or settled number true ≡ false = sym (mark.1 true) ∙ c.if-settled.false in
    let operation : c.visit.inside.operation ≡ (get_or visits number no_visit).operation =
    ap (λ (v : Visit). v.operation)
    (c.visit.view_is ∙ there.1 no_visit ∙ ap (λ (vs : List Visit). get_or vs number no_visit) c.deref.ensures.value) in
    let taken = rw operation at c.take.ensures in
    settled_now visits settled c.self.inside.before.items c.self.inside.last c.self.inside.unsettled c.take.new.self number
    c.self.invariant within unsettled
    (taken (rw (c.self.invariant.left (get_or visits number no_visit).operation)
    (counted_unsettled visits settled number within mark.0 unsettled)))
