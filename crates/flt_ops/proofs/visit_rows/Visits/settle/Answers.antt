use Rattle.std.proofs.Common.{◌≡◌, ◌<◌, ◌-◌, length, get_or, ap, sym, ◌∙◌, arith}
use Rattle.std.proofs.lemmas.List.{length-set}
use Rattle.flt_model.specs.World.{Visit, no_visit}
use Rattle.flt_ops.proofs.Counts.{read_there, read_some, read_less}
use Rattle.flt_ops.proofs.visit_rows.Visits.settle.Goals as goal

pub index_mut-requires-then-not-index : goal.index_mut-requires-then-not-index
index_mut-requires-then-not-index c =
    let h = c.in-Some.ensures.lookup in
    let here : c.args.visit < length c.self.inside.visits.items = omega (arith, h.3.0, c.deref.ensures.len) in
    let read : c.in-Some.found.now ≡ get_or c.self.inside.visits.items c.args.visit no_visit =
    rw c.deref.ensures.value at (h.3.1 no_visit) in
    let of : c.found.inside.operation ≡ (get_or c.self.inside.visits.items c.args.visit no_visit).operation =
    ap (λ (x : Visit). x.operation) (c.found.view_is ∙ read) in
    let there = read_there c.self.inside.visits.items c.self.inside.settled.items c.self.inside.unsettled.items c.args.visit
    c.found.inside.operation c.index.result.now c.self.invariant.counted here of c.index.ensures c.if-not-index.true in
    omega arith

pub overflow_sub-index_mut : goal.overflow_sub-index_mut
overflow_sub-index_mut c =
    let h = c.in-Some.ensures.lookup in
    let here : c.args.visit < length c.self.inside.visits.items = omega (arith, h.3.0, c.deref.ensures.len) in
    let read : c.in-Some.found.now ≡ get_or c.self.inside.visits.items c.args.visit no_visit =
    rw c.deref.ensures.value at (h.3.1 no_visit) in
    let of : c.found.inside.operation ≡ (get_or c.self.inside.visits.items c.args.visit no_visit).operation =
    ap (λ (x : Visit). x.operation) (c.found.view_is ∙ read) in
    read_some c.self.inside.visits.items c.self.inside.settled.items c.self.inside.unsettled.items c.args.visit
    c.found.inside.operation c.index.result.now c.self.invariant.counted here of c.index.ensures c.if-not-index.true
    c.index_mut-then-not-index.result.now c.index_mut-then-not-index.ensures.value

pub invariant_of-self : goal.invariant_of-self
invariant_of-self c =
    let h = c.in-Some.ensures.lookup in
    let here : c.args.visit < length c.self.inside.visits.items = omega (arith, h.3.0, c.deref.ensures.len) in
    let read : c.in-Some.found.now ≡ get_or c.self.inside.visits.items c.args.visit no_visit =
    rw c.deref.ensures.value at (h.3.1 no_visit) in
    let of : c.found.inside.operation ≡ (get_or c.self.inside.visits.items c.args.visit no_visit).operation =
    ap (λ (x : Visit). x.operation) (c.found.view_is ∙ read) in
    record {
      counted = read_less c.self.inside.visits.items c.self.inside.settled.items c.self.inside.unsettled.items c.args.visit
          c.found.inside.operation c.index.result.now c.self.invariant.counted here of c.index.ensures c.if-not-index.true
          c.index_mut-then-not-index.result.now c.index_mut-then-not-index.ensures.value;
      as_many = c.self.invariant.as_many ∙ sym (length-set c.self.inside.unsettled.items c.found.inside.operation
          (c.index_mut-then-not-index.result.now - 1));
      each = c.self.invariant.each;
    }
