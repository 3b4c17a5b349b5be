use Rattle.std.proofs.Common.{◌≡◌, ◌<◌, ◌^◌, ◌++◌, ◌∷◌, [], Bool, List, false, length, get_or, ap, ◌∙◌, arith}
use Rattle.std.proofs.lemmas.List.{get_or_default}
use Rattle.flt_model.specs.World.{Visit}
use Rattle.flt_ops.proofs.Counts.{count_within}
use Rattle.flt_ops.proofs.Rows.{rows_added}
use Rattle.flt_ops.specs.Unsettled.{VisitRows}
use Rattle.flt_ops.proofs.visit_rows.Visits.add.Goals as goal

pub overflow_add-index_mut : goal.overflow_add-index_mut
overflow_add-index_mut c =
    let o = c.visit.inside.operation in
    let v = c.self.inside.visits in
    let few : length v.items < 2 ^ 63 = omega (arith, v.ok.0, v.ok.1, v.small) in
    let within = count_within o c.self.inside.visits.items c.self.inside.settled.items in
    let each = c.self.invariant.counted.each o in
    let here : o < length c.self.inside.unsettled.items =
    omega (arith, c.requires, ap (λ (r : VisitRows). r.room) c.self.view_is, ap (λ (x : Visit). x.operation) c.visit.view_is) in
    let read : c.index_mut-2.result.now ≡ get_or c.self.inside.unsettled.items o 0 =
    c.index_mut-2.ensures.value ∙ get_or_default c.self.inside.unsettled.items o c.index_mut-2.result.now 0 here in
    omega (arith, few, within, each, read)

pub invariant_of-self-2 : goal.invariant_of-self-2
invariant_of-self-2 c =
    let o = c.visit.inside.operation in
    let seen = ap (λ (x : Visit). x.operation) c.visit.view_is in
    let here : o < length c.self.inside.unsettled.items =
    omega (arith, c.requires, ap (λ (r : VisitRows). r.room) c.self.view_is, seen) in
    rows_added c.self.inside.visits.items c.push_reserved.new.self.items c.self.inside.settled.items
    c.push_reserved-2.new.self.items c.self.inside.unsettled.items c.self.inside.numbers.items c.args.visit o c.len-number.result
    c.index_mut-2.result.now c.index_mut.result.now c.push.new.self c.self.invariant here seen
    (c.push_reserved.ensures.items ∙ ap (λ (vs : List Visit). vs ++ c.args.visit ∷ []) c.reserve.ensures.items)
    (c.push_reserved-2.ensures.items ∙ ap (λ (bs : List Bool). bs ++ false ∷ []) c.reserve-2.ensures.items)
    (c.len-number.ensures ∙ c.reserve.ensures.len ∙ c.self.inside.visits.ok.0)
    c.index_mut-2.ensures.value c.index_mut.ensures.value c.in_ok-push.ensures.pushed
