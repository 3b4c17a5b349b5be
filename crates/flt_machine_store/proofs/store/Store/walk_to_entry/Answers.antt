use Rattle.std.proofs.Common.{◌≡◌, ◌≢◌, List, find, map, sym, subst, ap, length, ◌<◌, ◌∙◌}
use Rattle.flt_cbdq.specs.declared.entry.Entry as cbdq
use Rattle.flt_model.specs.Moves.{is_entry_of}
use Rattle.flt_model.specs.World.{Store, Visit, queue_at, visit_at}
use Rattle.flt_machine_store.specs.Parts.{entry_of}
use Rattle.flt_machine_store.proofs.Reading.{queue_there, walk_found, walk_past, walk_over, walk_shorter}
use Rattle.flt_machine_store.proofs.store.Store.walk_to_entry.Goals as goal

pub loop-entry-init : goal.loop-entry-init
loop-entry-init c =
    ap (λ (s : Store). find (is_entry_of c.args.self.now c.args.serial) (queue_at s c.args.filter)) (sym c.self.view_is) ∙
    ap (find (is_entry_of c.args.self.now c.args.serial)) (queue_there c.self.inside.queues.queues c.args.filter) ∙
    ap (λ (q : List cbdq.Entry). find (is_entry_of c.args.self.now c.args.serial) (map entry_of q)) (sym c.walk-left.ensures)

pub returns-then-visit-serial : goal.returns-then-visit-serial
returns-then-visit-serial c =
    let visit_is : c.visit.result ≡ visit_at c.args.self.now c.in-Some.entry.visit =
    c.visit.ensures ∙ ap (λ (s : Store). visit_at s c.in-Some.entry.visit) c.self.view_is in
    let here = ap (λ (v : Visit). v.operation) (sym c.visit-in-Some.view_is) ∙ c.if-visit-serial.true in
    walk_found c.args.self.now c.args.serial c.loop-entry.left c.in-Some.entry c.visit.result
    (sym c.in-Some.is ∙ c.next_entry.ensures.first) visit_is here ∙ sym c.loop-entry.invariant

pub loop-entry-smaller : goal.loop-entry-smaller
loop-entry-smaller c =
    let shorter = walk_shorter c.loop-entry.left c.in-Some.entry (sym c.in-Some.is ∙ c.next_entry.ensures.first) in
    subst (λ (q : List cbdq.Entry). length q < length c.loop-entry.left) (sym c.next_entry.ensures.rest) shorter

pub loop-entry-preserved : goal.loop-entry-preserved
loop-entry-preserved c =
    let visit_is : c.visit.result ≡ visit_at c.args.self.now c.in-Some.entry.visit =
    c.visit.ensures ∙ ap (λ (s : Store). visit_at s c.in-Some.entry.visit) c.self.view_is in
    let other : c.visit.result.operation ≢ c.args.serial =
    λ is. c.if-visit-serial.false (ap (λ (v : Visit). v.operation) c.visit-in-Some.view_is ∙ is) in
    c.loop-entry.invariant ∙
    walk_past c.args.self.now c.args.serial c.loop-entry.left c.in-Some.entry c.visit.result (sym c.in-Some.is ∙ c.next_entry.ensures.first)
    visit_is other ∙
    ap (λ (q : List cbdq.Entry). find (is_entry_of c.args.self.now c.args.serial) (map entry_of q)) (sym c.next_entry.ensures.rest)

pub returns : goal.returns
returns c =
    walk_over c.args.self.now c.args.serial c.loop-entry.left (sym c.in_default.is ∙ c.next_entry.ensures.first) ∙
    sym c.loop-entry.invariant
